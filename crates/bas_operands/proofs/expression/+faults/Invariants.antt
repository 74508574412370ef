-- The least fault so far and of what is left is that of all.
use Rattle.std.proofs.Common.{◌≡◌, drop}
use Rattle.bas_ast.specs.ExpressionTree.{terms_tree, factors_tree, primaries_tree, actuals_tree, exprs_tree}
use Rattle.bas_scope.specs.Nodes.{terms_nodes, factors_nodes, primaries_nodes, args_nodes, exprs_nodes}
use Rattle.bas_names.specs.Names.{senses_in}
use Rattle.bas_operands.specs.Operands.{nodes_fault, least}
use Rattle.bas_operands.proofs.expression.+faults.Given as goal

abbrev pub invariant-terms_fault-loop-next : goal.invariant-terms_fault-loop-next
invariant-terms_fault-loop-next l =
    least l.found (nodes_fault (senses_in l.names) (terms_nodes (terms_tree (drop l.next-index l.rest)))) ≡ nodes_fault (senses_in l.names) (terms_nodes (terms_tree l.rest))

abbrev pub invariant-factors_fault-loop-next : goal.invariant-factors_fault-loop-next
invariant-factors_fault-loop-next l =
    least l.found (nodes_fault (senses_in l.names) (factors_nodes (factors_tree (drop l.next-index l.rest)))) ≡ nodes_fault (senses_in l.names) (factors_nodes (factors_tree l.rest))

abbrev pub invariant-primaries_fault-loop-next : goal.invariant-primaries_fault-loop-next
invariant-primaries_fault-loop-next l =
    least l.found (nodes_fault (senses_in l.names) (primaries_nodes (primaries_tree (drop l.next-index l.exponents)))) ≡ nodes_fault (senses_in l.names) (primaries_nodes (primaries_tree l.exponents))

abbrev pub invariant-actuals_fault-loop-next : goal.invariant-actuals_fault-loop-next
invariant-actuals_fault-loop-next l =
    least l.found (nodes_fault (senses_in l.names) (args_nodes (actuals_tree (drop l.next-index l.actuals)))) ≡ nodes_fault (senses_in l.names) (args_nodes (actuals_tree l.actuals))

abbrev pub invariant-exprs_fault-loop-next : goal.invariant-exprs_fault-loop-next
invariant-exprs_fault-loop-next l =
    least l.found (nodes_fault (senses_in l.names) (exprs_nodes (exprs_tree (drop l.next-index l.subscripts)))) ≡ nodes_fault (senses_in l.names) (exprs_nodes (exprs_tree l.subscripts))
