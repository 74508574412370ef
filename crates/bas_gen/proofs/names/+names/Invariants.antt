-- The slots so far, with the variables of what is left, are those of the whole.
use Rattle.std.proofs.Common.{◌≡◌, drop}
use Rattle.bas_ast.specs.BlockTree.{sections_tree, stmts_tree}
use Rattle.bas_carry.specs.Slots.{in_sections, in_block, with_variables}
use Rattle.bas_genexpr.specs.Numbering.{variables}
use Rattle.bas_gen.proofs.names.+names.Given as goal

abbrev pub invariant-number_stmts-loop-next : goal.invariant-number_stmts-loop-next
invariant-number_stmts-loop-next l =
    with_variables (variables l.slots) (in_block (stmts_tree (drop l.next-index l.stmts))) ≡ with_variables (variables l.initial.slots) (in_block (stmts_tree l.stmts))

abbrev pub invariant-number_sections-loop-section : goal.invariant-number_sections-loop-section
invariant-number_sections-loop-section l =
    with_variables (variables l.slots) (in_sections (sections_tree (drop l.section-index l.sections))) ≡ with_variables (variables l.initial.slots) (in_sections (sections_tree l.sections))
