use Rattle.bas_form.proofs.WorkedLaws.{dispatched_law}
use Rattle.bas_form.proofs.law.dispatched_law.Goals as goal

pub returns : goal.returns
returns g c = λ len. dispatched_law (g.F.ReadableForms.forms len)
