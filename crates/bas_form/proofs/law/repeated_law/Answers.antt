use Rattle.bas_form.proofs.WorkedLaws.{repeated_law}
use Rattle.bas_form.proofs.law.repeated_law.Goals as goal

pub returns : goal.returns
returns g c = λ len. repeated_law (g.F.ReadableForm.form len)
