use Rattle.bas_drive.proofs.AnswerLaws.{meant_row}
use Rattle.bas_drive.proofs.laws.programs_mean_their_answer.Goals as goal

pub returns : goal.returns
returns c = meant_row
