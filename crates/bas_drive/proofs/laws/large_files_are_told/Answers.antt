use Rattle.bas_drive.proofs.AnswerLaws.{large_row}
use Rattle.bas_drive.proofs.laws.large_files_are_told.Goals as goal

pub returns : goal.returns
returns c = large_row
