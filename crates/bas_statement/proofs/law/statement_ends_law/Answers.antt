use Rattle.bas_statement.proofs.GoesLaws.{statement_ends}
use Rattle.bas_statement.proofs.law.statement_ends_law.Goals as goal

pub returns : goal.returns
returns c = statement_ends
