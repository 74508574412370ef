-- The answers of the generator.
use Rattle.std.specs.Prelude.{◌≡◌, ℕ, ◌+◌, ◌≤◌, ◌⊎◌, length}
use Rattle.bas_ast.specs.Tree.{Program}
use Rattle.bas_carry.specs.Codes.{block_size, closing_size}
use Rattle.bas_carry.specs.Slots.{slots_of}
use Rattle.bas_carry.specs.Tables.{program_labels}
use Rattle.bas_genexpr.specs.Counts.{code_limit}
use Rattle.bas_genexpr.specs.Numbering.{slot_limit}
use Rattle.bas_genexpr.specs.Refusals.{IsRefusal}
use Rattle.bas_genexpr.specs.declared.fault.GenFault.{GenFault}
use Rattle.bas_gen.specs.declared.layout.Layout.{Layout}
use Rattle.bas_gen.specs.Layouts.{block_list, labels_of}

-- how many instructions a program has
abbrev pub program_size : Program → ℕ
program_size p = block_size p.body + closing_size p.close.item

-- its counts are within their limits
pub record IsWithin (p : Program) : Type 0 where
  pub code : program_size p ≤ code_limit
  pub slots : length (slots_of p) ≤ slot_limit

-- its code is too large, or else it has too many slots
abbrev pub IsRefused : GenFault → Program → Type 0
IsRefused fault p = IsRefusal fault (program_size p) code_limit ⊎ ((program_size p ≤ code_limit) × IsRefusal fault (length (slots_of p)) slot_limit)

-- sizes and targets of a whole program, which is not too large
pub record LaidOut (layout : Layout) (p : Program) : Type 0 where
  pub within : program_size p ≤ code_limit
  pub sizes : layout.sizes.items ≡ block_list p.body
  pub labels : labels_of layout.labels.items ≡ program_labels p
