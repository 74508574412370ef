-- It is 0 or 1.
use Rattle.bas_judge.proofs.Bases.{zero_or_one, one_above, zero_else}
use Rattle.bas_judge.proofs.declarations.lower_bound.Goals as goal

pub returns-then-base-gt0 : goal.returns-then-base-gt0
returns-then-base-gt0 c = λ lines e. one_above c.args.base (zero_or_one lines c.args.base e) c.if-base-gt0.true

pub returns-else-base-gt0 : goal.returns-else-base-gt0
returns-else-base-gt0 c = λ lines e. zero_else c.args.base (zero_or_one lines c.args.base e) c.if-base-gt0.false
