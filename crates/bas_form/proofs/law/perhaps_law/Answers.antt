use Rattle.bas_form.proofs.WorkedLaws.{perhaps_law}
use Rattle.bas_form.proofs.law.perhaps_law.Goals as goal

pub returns : goal.returns
returns g c = λ len. perhaps_law (g.F.ReadableForm.form len) (g.G.ReadableForm.form len)
