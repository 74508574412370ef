use Rattle.bas_drive.proofs.AnswerLaws.{usage_row}
use Rattle.bas_drive.proofs.laws.usage_is_for_no_command.Goals as goal

pub returns : goal.returns
returns c = usage_row
