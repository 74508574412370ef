-- The names so far, with those of what is left, are those of the whole.
use Rattle.std.proofs.Common.{◌≡◌, ◌++◌, drop}
use Rattle.bas_ast.specs.ConditionTree.{conjs_tree, tests_tree}
use Rattle.bas_scope.specs.Nodes.{conjs_nodes, tests_nodes}
use Rattle.bas_uses.specs.Uses.{bare_names}
use Rattle.bas_uses.proofs.condition.+conditions.Given as goal

abbrev pub invariant-push_conjs-loop-next : goal.invariant-push_conjs-loop-next
invariant-push_conjs-loop-next l =
    l.names.items ++ bare_names (conjs_nodes (conjs_tree (drop l.next-index l.rest))) ≡ l.initial.names.items ++ bare_names (conjs_nodes (conjs_tree l.rest))

abbrev pub invariant-push_tests-loop-next : goal.invariant-push_tests-loop-next
invariant-push_tests-loop-next l =
    l.names.items ++ bare_names (tests_nodes (tests_tree (drop l.next-index l.rest))) ≡ l.initial.names.items ++ bare_names (tests_nodes (tests_tree l.rest))
