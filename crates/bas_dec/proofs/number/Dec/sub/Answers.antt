use Rattle.std.proofs.Common.{rules}
use Rattle.bas_dec.specs.Arithmetic.{difference_of}
use Rattle.bas_dec.proofs.number.Dec.sub.Goals as goal

pub returns : goal.returns
unfolding difference_of
returns c = search rules

pub returns-in_err-aligned : goal.returns-in_err-aligned
unfolding difference_of
returns-in_err-aligned c = search rules

pub returns-in_err-aligned-2 : goal.returns-in_err-aligned-2
unfolding difference_of
returns-in_err-aligned-2 c = search rules

pub returns-in_err-difference : goal.returns-in_err-difference
unfolding difference_of
returns-in_err-difference c = search rules
