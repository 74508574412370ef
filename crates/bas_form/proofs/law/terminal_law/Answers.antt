use Rattle.bas_form.proofs.WorkedLaws.{terminal_law}
use Rattle.bas_form.proofs.law.terminal_law.Goals as goal

pub returns : goal.returns
returns g c = terminal_law _
