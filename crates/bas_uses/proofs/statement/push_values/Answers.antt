-- Each item uses the names of its part.
use Rattle.std.proofs.Common.{refl, map}
use Rattle.bas_ast.specs.ExpressionTree.{expr_tree}
use Rattle.bas_scope.specs.Nodes.{expr_nodes, values_nodes}
use Rattle.bas_uses.proofs.Appending.{names_turn, names_end}
use Rattle.bas_uses.proofs.statement.push_values.Goals as goal

pub loop-value-preserved : goal.loop-value-preserved
loop-value-preserved c =
    names_turn (λ x. expr_nodes (expr_tree x)) (λ xs. values_nodes (map expr_tree xs)) (λ x xs. refl) c.args.values.now c.loop-value.value-index c.value-item.result c.loop-value.names.items
    c.push_expr.new.names.items _ c.loop-value-test.true c.value-item.is c.in_ok-push_expr.ensures c.loop-value.invariant

pub returns : goal.returns
returns c = names_end (λ xs. values_nodes (map expr_tree xs)) refl c.args.values.now c.loop-value.value-index c.loop-value.names.items _ c.loop-value-test.false c.loop-value.invariant
