-- Each turn takes the next fault.
use Rattle.std.proofs.Common.{map, refl, arith}
use Rattle.bas_ast.specs.ExpressionTree.{expr_tree}
use Rattle.bas_ast.specs.StatementTree.{value_tree}
use Rattle.bas_scope.specs.Lines.{gathered}
use Rattle.bas_scope.specs.Nodes.{expr_nodes}
use Rattle.bas_names.specs.Names.{senses_in}
use Rattle.bas_operands.proofs.Rows.{fault_turn, fault_end}
use Rattle.bas_operands.proofs.list.separated_fault.Goals as goal

pub loop-next-preserved : goal.loop-next-preserved
loop-next-preserved c =
    fault_turn (senses_in c.args.names.now) (λ x. expr_nodes (expr_tree x.1)) (λ xs. gathered (λ x. expr_nodes x.1) (map value_tree xs)) (λ x xs. refl) c.args.values.now c.loop-next.next-index
    c.loop-next-item.result c.loop-next.found c.expr_fault.result c.least-found.result c.loop-next-test.true c.loop-next-item.is c.expr_fault.ensures
    c.least-found.ensures c.loop-next.invariant

pub returns : goal.returns
returns c =
    fault_end (senses_in c.args.names.now) (λ xs. gathered (λ x. expr_nodes x.1) (map value_tree xs)) refl c.args.values.now c.loop-next.next-index c.loop-next.found (omega arith)
    c.loop-next.invariant
