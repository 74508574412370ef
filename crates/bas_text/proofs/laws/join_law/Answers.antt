use Rattle.bas_text.proofs.StringLaws.{join_law}
use Rattle.bas_text.proofs.laws.join_law.Goals as goal

pub returns : goal.returns
returns c = join_law
