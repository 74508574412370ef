use Rattle.bas_drive.proofs.AnswerLaws.{ended_row, stopped_row, spent_row}
use Rattle.bas_drive.proofs.laws.statuses_tell_ends.Goals as goal

pub returns-clause-ended : goal.returns-clause-ended
returns-clause-ended c = ended_row c.accepted_law.ensures c.sound_program_law.ensures c.sound_program_is_not_lost.ensures

pub returns-clause-stopped : goal.returns-clause-stopped
returns-clause-stopped c = λ bytes input lines units is. stopped_row input lines units

pub returns-clause-spent : goal.returns-clause-spent
returns-clause-spent c = λ bytes input lines units is. spent_row input lines units
