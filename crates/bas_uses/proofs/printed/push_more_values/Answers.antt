-- Each item uses the names of its part.
use Rattle.std.proofs.Common.{refl, map}
use Rattle.bas_ast.specs.ExpressionTree.{expr_tree}
use Rattle.bas_ast.specs.StatementTree.{value_tree}
use Rattle.bas_scope.specs.Lines.{gathered}
use Rattle.bas_scope.specs.Nodes.{expr_nodes}
use Rattle.bas_uses.proofs.Appending.{names_turn, names_end}
use Rattle.bas_uses.proofs.printed.push_more_values.Goals as goal

pub loop-value-preserved : goal.loop-value-preserved
loop-value-preserved c =
    names_turn (λ x. expr_nodes (expr_tree x.1)) (λ xs. gathered (λ x. expr_nodes x.1) (map value_tree xs)) (λ x xs. refl) c.args.values.now c.loop-value.value-index c.loop-value-item.result c.loop-value.names.items
    c.push_expr.new.names.items _ c.loop-value-test.true c.loop-value-item.is c.in_ok-push_expr.ensures c.loop-value.invariant

pub returns : goal.returns
returns c = names_end (λ xs. gathered (λ x. expr_nodes x.1) (map value_tree xs)) refl c.args.values.now c.loop-value.value-index c.loop-value.names.items _ c.loop-value-test.false c.loop-value.invariant
