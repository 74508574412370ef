-- Each item uses the names of its part.
use Rattle.std.proofs.Common.{refl, map}
use Rattle.std.specs.Option.{option_map}
use Rattle.bas_ast.specs.StatementTree.{pitem_tree, spaced_tree}
use Rattle.bas_scope.specs.Lines.{gathered}
use Rattle.bas_scope.specs.Nodes.{pitem_nodes, where_there}
use Rattle.bas_uses.proofs.Appending.{names_turn, names_end}
use Rattle.bas_uses.proofs.printed.push_items.Goals as goal

pub loop-item-preserved : goal.loop-item-preserved
loop-item-preserved c =
    names_turn (λ x. where_there pitem_nodes (option_map pitem_tree x.1)) (λ xs. gathered (λ x. where_there pitem_nodes x.1) (map spaced_tree xs)) (λ x xs. refl) c.args.items.now c.loop-item.item-index c.loop-item-item.result c.loop-item.names.items
    c.push_item.new.names.items _ c.loop-item-test.true c.loop-item-item.is c.in_ok-push_item.ensures c.loop-item.invariant

pub returns : goal.returns
returns c = names_end (λ xs. gathered (λ x. where_there pitem_nodes x.1) (map spaced_tree xs)) refl c.args.items.now c.loop-item.item-index c.loop-item.names.items _ c.loop-item-test.false c.loop-item.invariant
