-- The procedures that are left tell of all.
use Rattle.std.proofs.Common.{◌≡◌, drop, map}
use Rattle.bas_ast.specs.BlockTree.{item_tree}
use Rattle.bas_ast.specs.Tree.{Nothing, SourceUnit}
use Rattle.bas_ast.specs.UnitTree.{procedure_tree}
use Rattle.bas_scope.specs.Bodies.{outer_of}
use Rattle.bas_scope.specs.Lines.{gathered}
use Rattle.bas_place.specs.Standing.{OfUnit}
use Rattle.bas_rules.specs.Sites.{procedure_sites}
use Rattle.bas_rules.specs.Well.{fault_among}
use Rattle.bas_check.proofs.unit.procedures_fault.Given as goal

abbrev pub invariant-loop-procedure : goal.invariant-loop-procedure
invariant-loop-procedure l = (tree : SourceUnit) → OfUnit l.unit tree → item_tree l.nothing ≡ Nothing
    → fault_among (gathered (procedure_sites tree (outer_of tree)) (map procedure_tree (drop l.procedure-index l.procedures)))
    ≡ fault_among (gathered (procedure_sites tree (outer_of tree)) (map procedure_tree l.procedures))
