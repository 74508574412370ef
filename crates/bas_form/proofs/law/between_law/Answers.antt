use Rattle.bas_form.proofs.WorkedLaws.{between_law}
use Rattle.bas_form.proofs.law.between_law.Goals as goal

pub returns : goal.returns
returns g c = λ len. between_law (g.F.ReadableForm.form len) _ _
