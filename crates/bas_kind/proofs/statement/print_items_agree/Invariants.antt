-- The whole agrees where what is left does.
use Rattle.std.proofs.Common.{◌≡◌, map, drop}
use Rattle.std.specs.List.{list_all}
use Rattle.bas_ast.specs.StatementTree.{spaced_tree}
use Rattle.bas_rules.specs.Statements.{passes, pitem_agrees}
use Rattle.bas_kind.proofs.statement.print_items_agree.Given as goal

abbrev pub invariant-loop-item : goal.invariant-loop-item
invariant-loop-item l = list_all (λ x. passes pitem_agrees x.1) (map spaced_tree (drop l.item-index l.items)) ≡ list_all (λ x. passes pitem_agrees x.1) (map spaced_tree l.items)
