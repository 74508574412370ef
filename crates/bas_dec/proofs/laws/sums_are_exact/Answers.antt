use Rattle.bas_dec.proofs.ExactSums.{sum_is_exact, difference_is_exact}
use Rattle.bas_dec.proofs.laws.sums_are_exact.Goals as goal

pub returns-clause-sum : goal.returns-clause-sum
returns-clause-sum c = sum_is_exact

pub returns-clause-difference : goal.returns-clause-difference
returns-clause-difference c = difference_is_exact
