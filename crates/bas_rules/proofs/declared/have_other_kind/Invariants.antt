-- The whole answers as what is left.
use Rattle.std.proofs.Common.{◌≡◌, map, drop}
use Rattle.std.specs.Prelude.{not}
use Rattle.std.specs.List.{list_any}
use Rattle.bas_ast.specs.DeclarationTree.{declared_tree, kind_tree}
use Rattle.bas_ast.specs.PartTree.{formal_tree}
use Rattle.bas_rules.specs.Declaring.{has_other_kind, has_bad_type, is_scalar, has_many_dimensions}
use Rattle.bas_rules.proofs.declared.have_other_kind.Given as goal

abbrev pub invariant-loop-item : goal.invariant-loop-item
invariant-loop-item l = list_any (has_other_kind (kind_tree l.kind)) (map declared_tree (drop l.item-index l.items)) ≡ list_any (has_other_kind (kind_tree l.kind)) (map declared_tree l.items)
