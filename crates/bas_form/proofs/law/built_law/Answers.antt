use Rattle.bas_form.proofs.WorkedLaws.{built_law}
use Rattle.bas_form.proofs.law.built_law.Goals as goal

pub returns : goal.returns
returns g c = λ len. built_law (g.F.ReadableForm.form len) _
