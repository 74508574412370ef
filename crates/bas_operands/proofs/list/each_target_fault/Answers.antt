-- Each turn takes the next fault.
use Rattle.std.proofs.Common.{map, refl, arith}
use Rattle.bas_ast.specs.ExpressionTree.{target_tree}
use Rattle.bas_scope.specs.Nodes.{target_nodes, targets_nodes}
use Rattle.bas_names.specs.Names.{senses_in}
use Rattle.bas_operands.proofs.Rows.{fault_turn, fault_end}
use Rattle.bas_operands.proofs.list.each_target_fault.Goals as goal

pub loop-next-preserved : goal.loop-next-preserved
loop-next-preserved c =
    fault_turn (senses_in c.args.names.now) (λ x. target_nodes (target_tree x)) (λ xs. targets_nodes (map target_tree xs)) (λ x xs. refl) c.args.targets.now c.loop-next.next-index
    c.next-item.result c.loop-next.found c.target_fault.result c.least-found.result c.loop-next-test.true c.next-item.is c.target_fault.ensures
    c.least-found.ensures c.loop-next.invariant

pub returns : goal.returns
returns c =
    fault_end (senses_in c.args.names.now) (λ xs. targets_nodes (map target_tree xs)) refl c.args.targets.now c.loop-next.next-index c.loop-next.found (omega arith)
    c.loop-next.invariant
