use Rattle.bas_text.proofs.StringLaws.{letter_law}
use Rattle.bas_text.proofs.laws.letter_law.Goals as goal

pub returns : goal.returns
returns c = letter_law
