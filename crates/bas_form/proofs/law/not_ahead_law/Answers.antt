use Rattle.bas_form.proofs.WorkedLaws.{not_ahead_law}
use Rattle.bas_form.proofs.law.not_ahead_law.Goals as goal

pub returns : goal.returns
returns g c = not_ahead_law _
