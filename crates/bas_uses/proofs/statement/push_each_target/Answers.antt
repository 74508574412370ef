-- Each item uses the names of its part.
use Rattle.std.proofs.Common.{refl, map}
use Rattle.bas_ast.specs.ExpressionTree.{target_tree}
use Rattle.bas_scope.specs.Nodes.{target_nodes, targets_nodes}
use Rattle.bas_uses.proofs.Appending.{names_turn, names_end}
use Rattle.bas_uses.proofs.statement.push_each_target.Goals as goal

pub loop-target-preserved : goal.loop-target-preserved
loop-target-preserved c =
    names_turn (λ x. target_nodes (target_tree x)) (λ xs. targets_nodes (map target_tree xs)) (λ x xs. refl) c.args.targets.now c.loop-target.target-index c.target-item.result c.loop-target.names.items
    c.push_target.new.names.items _ c.loop-target-test.true c.target-item.is c.in_ok-push_target.ensures c.loop-target.invariant

pub returns : goal.returns
returns c = names_end (λ xs. targets_nodes (map target_tree xs)) refl c.args.targets.now c.loop-target.target-index c.loop-target.names.items _ c.loop-target-test.false c.loop-target.invariant
