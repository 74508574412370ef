-- The least fault so far and of what is left is that of all.
use Rattle.std.proofs.Common.{◌≡◌, map, drop}
use Rattle.bas_ast.specs.StatementTree.{spaced_tree}
use Rattle.bas_scope.specs.Lines.{gathered}
use Rattle.bas_scope.specs.Nodes.{pitem_nodes, where_there}
use Rattle.bas_names.specs.Names.{senses_in}
use Rattle.bas_operands.specs.Operands.{nodes_fault, least}
use Rattle.bas_operands.proofs.list.pitems_fault.Given as goal

abbrev pub invariant-loop-next : goal.invariant-loop-next
invariant-loop-next l =
    least l.found (nodes_fault (senses_in l.names) (gathered (λ x. where_there pitem_nodes x.1) (map spaced_tree (drop l.next-index l.items)))) ≡ nodes_fault (senses_in l.names) (gathered (λ x. where_there pitem_nodes x.1) (map spaced_tree l.items))
