-- The whole answers as what is left.
use Rattle.std.proofs.Common.{◌≡◌, map, drop}
use Rattle.std.specs.Prelude.{not}
use Rattle.std.specs.List.{list_any}
use Rattle.bas_ast.specs.DeclarationTree.{declared_tree, kind_tree}
use Rattle.bas_ast.specs.PartTree.{formal_tree}
use Rattle.bas_rules.specs.Declaring.{has_other_kind, has_bad_type, is_scalar, has_many_dimensions}
use Rattle.bas_rules.proofs.formals.has_other_than_scalars.Given as goal

abbrev pub invariant-loop-formal : goal.invariant-loop-formal
invariant-loop-formal l = list_any (λ formal. not (is_scalar formal)) (map formal_tree (drop l.formal-index l.formals)) ≡ list_any (λ formal. not (is_scalar formal)) (map formal_tree l.formals)
