-- What is put, and the lines that are left.
use Rattle.std.proofs.Common.{◌≡◌, ℕ, List, drop}
use Rattle.std.specs.Option.{option_or}
use Rattle.bas_scope.specs.Scope.{declaration_of}
use Rattle.bas_names.specs.Lent.{line_trees}
use Rattle.bas_names.specs.Tables.{item_in}
use Rattle.bas_names.proofs.declared.Declared.on.Given as goal

abbrev pub invariant-loop-line : goal.invariant-loop-line
invariant-loop-line l = (name : List ℕ)
    → option_or (item_in l.declared name) (declaration_of name (line_trees (drop l.line-index l.lines)))
    ≡ declaration_of name (line_trees l.lines)
