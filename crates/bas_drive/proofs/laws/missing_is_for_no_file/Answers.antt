use Rattle.bas_drive.proofs.AnswerLaws.{missing_row}
use Rattle.bas_drive.proofs.laws.missing_is_for_no_file.Goals as goal

pub returns : goal.returns
returns c = missing_row
