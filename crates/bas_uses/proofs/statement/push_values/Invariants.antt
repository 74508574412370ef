-- The names so far, with those of what is left, are those of the whole.
use Rattle.std.proofs.Common.{◌≡◌, ◌++◌, map, drop}
use Rattle.bas_ast.specs.ExpressionTree.{expr_tree}
use Rattle.bas_scope.specs.Nodes.{values_nodes}
use Rattle.bas_uses.specs.Uses.{bare_names}
use Rattle.bas_uses.proofs.statement.push_values.Given as goal

abbrev pub invariant-loop-value : goal.invariant-loop-value
invariant-loop-value l = l.names.items ++ bare_names (values_nodes (map expr_tree (drop l.value-index l.values))) ≡ l.initial.names.items ++ bare_names (values_nodes (map expr_tree l.values))
