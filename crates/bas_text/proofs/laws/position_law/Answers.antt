use Rattle.bas_text.proofs.StringLaws.{position_law, position_of_part_law}
use Rattle.bas_text.proofs.laws.position_law.Goals as goal

pub returns-clause-least : goal.returns-clause-least
returns-clause-least c = position_law

pub returns-clause-parts : goal.returns-clause-parts
returns-clause-parts c = position_of_part_law
