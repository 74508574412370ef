-- The names so far, with those of what is left, are those of the whole.
use Rattle.std.proofs.Common.{◌≡◌, ◌++◌, drop}
use Rattle.bas_ast.specs.ExpressionTree.{terms_tree, factors_tree, primaries_tree, actuals_tree, exprs_tree}
use Rattle.bas_scope.specs.Nodes.{terms_nodes, factors_nodes, primaries_nodes, args_nodes, exprs_nodes}
use Rattle.bas_uses.specs.Uses.{bare_names}
use Rattle.bas_uses.proofs.expression.+uses.Given as goal

abbrev pub invariant-push_terms-loop-next : goal.invariant-push_terms-loop-next
invariant-push_terms-loop-next l =
    l.names.items ++ bare_names (terms_nodes (terms_tree (drop l.next-index l.rest))) ≡ l.initial.names.items ++ bare_names (terms_nodes (terms_tree l.rest))

abbrev pub invariant-push_factors-loop-next : goal.invariant-push_factors-loop-next
invariant-push_factors-loop-next l =
    l.names.items ++ bare_names (factors_nodes (factors_tree (drop l.next-index l.rest))) ≡ l.initial.names.items ++ bare_names (factors_nodes (factors_tree l.rest))

abbrev pub invariant-push_primaries-loop-next : goal.invariant-push_primaries-loop-next
invariant-push_primaries-loop-next l =
    l.names.items ++ bare_names (primaries_nodes (primaries_tree (drop l.next-index l.exponents))) ≡ l.initial.names.items ++ bare_names (primaries_nodes (primaries_tree l.exponents))

abbrev pub invariant-push_actuals-loop-next : goal.invariant-push_actuals-loop-next
invariant-push_actuals-loop-next l =
    l.names.items ++ bare_names (args_nodes (actuals_tree (drop l.next-index l.actuals))) ≡ l.initial.names.items ++ bare_names (args_nodes (actuals_tree l.actuals))

abbrev pub invariant-push_exprs-loop-next : goal.invariant-push_exprs-loop-next
invariant-push_exprs-loop-next l =
    l.names.items ++ bare_names (exprs_nodes (exprs_tree (drop l.next-index l.subscripts))) ≡ l.initial.names.items ++ bare_names (exprs_nodes (exprs_tree l.subscripts))
