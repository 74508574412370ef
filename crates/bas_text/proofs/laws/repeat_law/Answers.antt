use Rattle.bas_text.proofs.StringLaws.{repeat_law}
use Rattle.bas_text.proofs.laws.repeat_law.Goals as goal

pub returns : goal.returns
returns c = repeat_law
