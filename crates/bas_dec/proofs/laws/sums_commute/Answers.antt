use Rattle.bas_dec.proofs.CommonLaws.{sum_turned}
use Rattle.bas_dec.proofs.laws.sums_commute.Goals as goal

pub returns : goal.returns
returns c = sum_turned
