use Rattle.bas_line.proofs.WholeLaws.{item_read}
use Rattle.bas_line.proofs.law.item_law.Goals as goal

pub returns-clause-whole : goal.returns-clause-whole
returns-clause-whole c = item_read
