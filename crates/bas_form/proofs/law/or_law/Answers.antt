use Rattle.bas_form.proofs.WorkedLaws.{or_law}
use Rattle.bas_form.proofs.law.or_law.Goals as goal

pub returns : goal.returns
returns g c = λ len. or_law (g.F.ReadableForm.form len) (g.G.ReadableForm.form len)
