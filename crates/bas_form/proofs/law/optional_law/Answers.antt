use Rattle.bas_form.proofs.WorkedLaws.{optional_law}
use Rattle.bas_form.proofs.law.optional_law.Goals as goal

pub returns : goal.returns
returns g c = λ len. optional_law (g.F.ReadableForm.form len)
