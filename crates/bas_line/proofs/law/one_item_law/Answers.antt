use Rattle.bas_line.proofs.WholeLaws.{one_item}
use Rattle.bas_line.proofs.law.one_item_law.Goals as goal

pub returns : goal.returns
returns c = one_item
