use Rattle.bas_dec.proofs.ExactSums.{sum_undone}
use Rattle.bas_dec.proofs.laws.subtraction_undoes_addition.Goals as goal

pub returns : goal.returns
returns c = sum_undone
