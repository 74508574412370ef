-- The units that are left have the same first program.
use Rattle.std.proofs.Common.{◌≡◌, drop, map}
use Rattle.bas_ast.specs.UnitTree.{unit_tree}
use Rattle.bas_mean.specs.Meaning.{first_program}
use Rattle.bas_accept.proofs.acceptance.first_program.Given as goal

abbrev pub invariant-loop-unit : goal.invariant-loop-unit
invariant-loop-unit l = first_program (map unit_tree (drop l.unit-index l.units)) ≡ first_program (map unit_tree l.units)
