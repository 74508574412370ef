-- The walk asks what is kept of the unit.
use Rattle.bas_check.proofs.unit.fault_beside.Goals as goal

pub returns : goal.returns
returns c = λ nothing. c.unit_fault.ensures c.in_ok-facts.ensures nothing
