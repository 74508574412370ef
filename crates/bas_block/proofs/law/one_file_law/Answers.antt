use Rattle.bas_block.proofs.FileLaws.{one_list}
use Rattle.bas_block.proofs.law.one_file_law.Goals as goal

pub returns : goal.returns
returns c file a b one other = one_list file a b one other
