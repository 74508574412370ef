-- The shapes of the formals so far.
use Rattle.std.proofs.Common.{◌≡◌, List, map, take}
use Rattle.bas_ast.specs.Tree.{NumLine}
use Rattle.bas_ast.specs.PartTree.{formal_tree}
use Rattle.bas_scope.specs.Scope.{formal_shape}
use Rattle.bas_scope.specs.Senses.{shape_written}
use Rattle.bas_names.specs.Tables.{Declares, options_told}
use Rattle.bas_names.proofs.formals.formal_shapes.Given as goal

abbrev pub invariant-loop-formal : goal.invariant-loop-formal
invariant-loop-formal l = (lines : List NumLine) → Declares l.declared lines
    → map shape_written l.shapes.items ≡ map (formal_shape (options_told l.options) lines) (map formal_tree (take l.formal-index l.formals))
