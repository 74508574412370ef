use Rattle.std.proofs.Common.{rules}
use Rattle.bas_dec.specs.Arithmetic.{sum_of}
use Rattle.bas_dec.proofs.number.Dec.add.Goals as goal

pub returns : goal.returns
unfolding sum_of
returns c = search rules

pub returns-in_err-aligned : goal.returns-in_err-aligned
unfolding sum_of
returns-in_err-aligned c = search rules

pub returns-in_err-aligned-2 : goal.returns-in_err-aligned-2
unfolding sum_of
returns-in_err-aligned-2 c = search rules

pub returns-in_err-sum : goal.returns-in_err-sum
unfolding sum_of
returns-in_err-sum c = search rules
