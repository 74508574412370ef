-- The whole answers as what is left.
use Rattle.std.proofs.Common.{◌≡◌, pos, map, drop}
use Rattle.bas_ast.specs.DeclarationTree.{bound_tree}
use Rattle.bas_scope.specs.Shapes.{bounds_of}
use Rattle.bas_rules.specs.Declaring.{are_within}
use Rattle.bas_rules.proofs.bounds.are_ranges.Given as goal

abbrev pub invariant-loop-bound : goal.invariant-loop-bound
invariant-loop-bound l =
    are_within l.allowed (map (bounds_of (pos l.base)) (map bound_tree (drop l.bound-index l.bounds)))
    ≡ are_within l.most (map (bounds_of (pos l.base)) (map bound_tree l.bounds))
