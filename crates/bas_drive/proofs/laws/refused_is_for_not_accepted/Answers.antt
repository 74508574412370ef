use Rattle.bas_drive.proofs.AnswerLaws.{refused_row, told_row}
use Rattle.bas_drive.proofs.laws.refused_is_for_not_accepted.Goals as goal

pub returns-clause-exactly : goal.returns-clause-exactly
returns-clause-exactly c = refused_row c.accepted_law.ensures c.sound_program_law.ensures

pub returns-clause-told : goal.returns-clause-told
returns-clause-told c = told_row
