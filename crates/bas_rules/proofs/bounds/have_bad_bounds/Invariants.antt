-- The whole answers as what is left.
use Rattle.std.proofs.Common.{◌≡◌, pos, map, drop}
use Rattle.std.specs.List.{list_any}
use Rattle.bas_ast.specs.DeclarationTree.{declared_tree}
use Rattle.bas_rules.specs.Declaring.{has_bad_bounds}
use Rattle.bas_rules.proofs.bounds.have_bad_bounds.Given as goal

abbrev pub invariant-loop-item : goal.invariant-loop-item
invariant-loop-item l = list_any (has_bad_bounds (pos l.base)) (map declared_tree (drop l.item-index l.items)) ≡ list_any (has_bad_bounds (pos l.base)) (map declared_tree l.items)
