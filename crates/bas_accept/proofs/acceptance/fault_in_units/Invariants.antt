-- The units that are left have the same first fault.
use Rattle.std.proofs.Common.{◌≡◌, drop, map}
use Rattle.bas_ast.specs.UnitTree.{unit_tree}
use Rattle.bas_accept.specs.Accepted.{fault_in_units}
use Rattle.bas_accept.proofs.acceptance.fault_in_units.Given as goal

abbrev pub invariant-loop-unit : goal.invariant-loop-unit
invariant-loop-unit l = fault_in_units (map unit_tree (drop l.unit-index l.units)) ≡ fault_in_units (map unit_tree l.units)
