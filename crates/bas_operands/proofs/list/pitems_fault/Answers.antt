-- Each turn takes the next fault.
use Rattle.std.proofs.Common.{map, refl, arith}
use Rattle.std.specs.Option.{option_map}
use Rattle.bas_ast.specs.StatementTree.{spaced_tree, pitem_tree}
use Rattle.bas_scope.specs.Lines.{gathered}
use Rattle.bas_scope.specs.Nodes.{pitem_nodes, where_there}
use Rattle.bas_names.specs.Names.{senses_in}
use Rattle.bas_operands.proofs.Rows.{fault_turn, fault_end}
use Rattle.bas_operands.proofs.list.pitems_fault.Goals as goal

pub loop-next-preserved : goal.loop-next-preserved
loop-next-preserved c =
    fault_turn (senses_in c.args.names.now) (λ x. where_there pitem_nodes (option_map pitem_tree x.1)) (λ xs. gathered (λ x. where_there pitem_nodes x.1) (map spaced_tree xs)) (λ x xs. refl) c.args.items.now c.loop-next.next-index
    c.loop-next-item.result c.loop-next.found c.pitem_fault.result c.least-found.result c.loop-next-test.true c.loop-next-item.is c.pitem_fault.ensures
    c.least-found.ensures c.loop-next.invariant

pub returns : goal.returns
returns c =
    fault_end (senses_in c.args.names.now) (λ xs. gathered (λ x. where_there pitem_nodes x.1) (map spaced_tree xs)) refl c.args.items.now c.loop-next.next-index c.loop-next.found (omega arith)
    c.loop-next.invariant
