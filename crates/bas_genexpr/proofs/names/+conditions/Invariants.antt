-- The slots so far, with the variables of what is left, are those of the whole.
use Rattle.std.proofs.Common.{◌≡◌, drop}
use Rattle.bas_ast.specs.ConditionTree.{conjs_tree, tests_tree}
use Rattle.bas_carry.specs.Slots.{in_conjs, in_tests, with_variables}
use Rattle.bas_genexpr.specs.Numbering.{variables}
use Rattle.bas_genexpr.proofs.names.+conditions.Given as goal

abbrev pub invariant-number_conjs-loop-next : goal.invariant-number_conjs-loop-next
invariant-number_conjs-loop-next l =
    with_variables (variables l.slots) (in_conjs (conjs_tree (drop l.next-index l.rest))) ≡ with_variables (variables l.initial.slots) (in_conjs (conjs_tree l.rest))

abbrev pub invariant-number_tests-loop-next : goal.invariant-number_tests-loop-next
invariant-number_tests-loop-next l =
    with_variables (variables l.slots) (in_tests (tests_tree (drop l.next-index l.rest))) ≡ with_variables (variables l.initial.slots) (in_tests (tests_tree l.rest))
