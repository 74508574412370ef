use Rattle.bas_form.proofs.WorkedLaws.{then_law}
use Rattle.bas_form.proofs.law.then_law.Goals as goal

pub returns : goal.returns
returns g c = λ len. then_law (g.F.ReadableForm.form len) (g.G.ReadableForm.form len)
