use Rattle.bas_block.proofs.NestingLaws.{bad_nest_ends_all}
use Rattle.bas_block.proofs.law.bad_nest_law.Goals as goal

pub returns : goal.returns
returns c = bad_nest_ends_all
