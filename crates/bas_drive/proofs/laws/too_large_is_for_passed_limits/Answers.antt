use Rattle.bas_drive.proofs.AnswerLaws.{limit_row}
use Rattle.bas_drive.proofs.laws.too_large_is_for_passed_limits.Goals as goal

pub returns : goal.returns
returns c = limit_row
