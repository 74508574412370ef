-- The least fault so far and of what is left is that of all.
use Rattle.std.proofs.Common.{◌≡◌, map, drop}
use Rattle.bas_ast.specs.StatementTree.{value_tree}
use Rattle.bas_scope.specs.Lines.{gathered}
use Rattle.bas_scope.specs.Nodes.{expr_nodes}
use Rattle.bas_names.specs.Names.{senses_in}
use Rattle.bas_operands.specs.Operands.{nodes_fault, least}
use Rattle.bas_operands.proofs.list.separated_fault.Given as goal

abbrev pub invariant-loop-next : goal.invariant-loop-next
invariant-loop-next l =
    least l.found (nodes_fault (senses_in l.names) (gathered (λ x. expr_nodes x.1) (map value_tree (drop l.next-index l.values)))) ≡ nodes_fault (senses_in l.names) (gathered (λ x. expr_nodes x.1) (map value_tree l.values))
