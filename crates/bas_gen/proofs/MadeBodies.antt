-- The parts of a body are those of the program.
use Rattle.std.proofs.Common.{◌≡◌, ℕ, List, length, sym, ap, ◌∙◌}
use Rattle.std.proofs.Math.Path.{fun_ext}
use Rattle.bas_ast.specs.Tree as t
use Rattle.bas_mean.specs.World.{Variable}
use Rattle.bas_mean.specs.Outcome as outcome
use Rattle.bas_code.specs.declared.instr.Instr.{Instr}
use Rattle.bas_carry.specs.Codes.{program_code}
use Rattle.bas_carry.specs.Slots.{slots_of}
use Rattle.bas_carry.specs.Tables.{Labels, address_in, addresses_of, program_labels}
use Rattle.bas_genexpr.specs.Numbering.{variables}
use Rattle.bas_genexpr.proofs.SlotLemmas.{count_of}

pub slots_counted : (p : t.Program) (names : List (List ℕ)) (n : ℕ) → variables names ≡ slots_of p → n ≡ length names → n ≡ length (slots_of p)
slots_counted p names n e c = c ∙ sym (count_of names) ∙ ap length e

pub same_addresses : (p : t.Program) (labels : Labels) (addr : outcome.Target → ℕ) → labels ≡ program_labels p → ((x : outcome.Target) → addr x ≡ address_in labels x) → addr ≡ addresses_of p
unfolding addresses_of
same_addresses p labels addr e h = fun_ext (λ x. h x ∙ ap (λ l. address_in l x) e)

pub code_made : (p : t.Program) (order : List Variable) (addr : outcome.Target → ℕ) (code : List Instr) → order ≡ slots_of p → addr ≡ addresses_of p → code ≡ program_code order addr p → code ≡ program_code (slots_of p) (addresses_of p) p
code_made p order addr code eo ea e = e ∙ ap (λ o. program_code o addr p) eo ∙ ap (λ a. program_code (slots_of p) a p) ea
