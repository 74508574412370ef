use Rattle.bas_form.proofs.WorkedLaws.{chain_law}
use Rattle.bas_form.proofs.law.chain_law.Goals as goal

pub returns : goal.returns
returns g c = λ len. chain_law (g.F.ReadableForm.form len) _
