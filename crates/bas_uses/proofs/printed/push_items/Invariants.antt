-- The names so far, with those of what is left, are those of the whole.
use Rattle.std.proofs.Common.{◌≡◌, ◌++◌, map, drop}
use Rattle.bas_ast.specs.StatementTree.{spaced_tree}
use Rattle.bas_scope.specs.Lines.{gathered}
use Rattle.bas_scope.specs.Nodes.{pitem_nodes, where_there}
use Rattle.bas_uses.specs.Uses.{bare_names}
use Rattle.bas_uses.proofs.printed.push_items.Given as goal

abbrev pub invariant-loop-item : goal.invariant-loop-item
invariant-loop-item l = l.names.items ++ bare_names (gathered (λ x. where_there pitem_nodes x.1) (map spaced_tree (drop l.item-index l.items))) ≡ l.initial.names.items ++ bare_names (gathered (λ x. where_there pitem_nodes x.1) (map spaced_tree l.items))
