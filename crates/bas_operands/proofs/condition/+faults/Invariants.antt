-- The least fault so far and of what is left is that of all.
use Rattle.std.proofs.Common.{◌≡◌, drop}
use Rattle.bas_ast.specs.ConditionTree.{conjs_tree, tests_tree}
use Rattle.bas_scope.specs.Nodes.{conjs_nodes, tests_nodes}
use Rattle.bas_names.specs.Names.{senses_in}
use Rattle.bas_operands.specs.Operands.{nodes_fault, least}
use Rattle.bas_operands.proofs.condition.+faults.Given as goal

abbrev pub invariant-conjs_fault-loop-next : goal.invariant-conjs_fault-loop-next
invariant-conjs_fault-loop-next l =
    least l.found (nodes_fault (senses_in l.names) (conjs_nodes (conjs_tree (drop l.next-index l.rest)))) ≡ nodes_fault (senses_in l.names) (conjs_nodes (conjs_tree l.rest))

abbrev pub invariant-tests_fault-loop-next : goal.invariant-tests_fault-loop-next
invariant-tests_fault-loop-next l =
    least l.found (nodes_fault (senses_in l.names) (tests_nodes (tests_tree (drop l.next-index l.rest)))) ≡ nodes_fault (senses_in l.names) (tests_nodes (tests_tree l.rest))
