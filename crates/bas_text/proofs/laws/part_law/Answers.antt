use Rattle.bas_text.proofs.StringLaws.{part_ends_law, part_of_part_law}
use Rattle.bas_text.proofs.laws.part_law.Goals as goal

pub returns-clause-ends : goal.returns-clause-ends
returns-clause-ends c = part_ends_law

pub returns-clause-again : goal.returns-clause-again
returns-clause-again c = part_of_part_law
