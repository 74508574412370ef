-- The whole is built where what is left is.
use Rattle.std.proofs.Common.{◌≡◌, drop}
use Rattle.bas_ast.specs.ConditionTree.{conjs_tree, tests_tree}
use Rattle.bas_mean.specs.Built.{are_built_conjs, are_built_tests}
use Rattle.bas_unbuilt.proofs.condition.+builds.Given as goal

abbrev pub invariant-are_built_conjs-loop-next : goal.invariant-are_built_conjs-loop-next
invariant-are_built_conjs-loop-next l = are_built_conjs (conjs_tree (drop l.next-index l.rest)) ≡ are_built_conjs (conjs_tree l.rest)

abbrev pub invariant-are_built_tests-loop-next : goal.invariant-are_built_tests-loop-next
invariant-are_built_tests-loop-next l = are_built_tests (tests_tree (drop l.next-index l.rest)) ≡ are_built_tests (tests_tree l.rest)
