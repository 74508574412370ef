-- An external procedure is a container without a line of END.
use Rattle.bas_check.proofs.Procedures.{no_end_outside}
use Rattle.bas_check.proofs.unit.procedure_fault.Goals as goal

pub returns : goal.returns
returns c = λ tree unit nothing. c.container_fault.ensures tree unit nothing (no_end_outside tree)
