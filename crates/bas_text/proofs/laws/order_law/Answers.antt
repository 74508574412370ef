use Rattle.bas_text.proofs.StringLaws.{order_law}
use Rattle.bas_text.proofs.laws.order_law.Goals as goal

pub returns : goal.returns
returns c = order_law
