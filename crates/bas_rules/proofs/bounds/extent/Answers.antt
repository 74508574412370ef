use Rattle.std.proofs.Common.{arith}
use Rattle.std.proofs.lemmas.Int.{ints}
use Rattle.bas_rules.proofs.bounds.extent.Goals as goal

pub overflow_cast-result : goal.overflow_cast-result
overflow_cast-result c = (grind (arith, ints), omega (arith, ints))

pub returns-clause-same : goal.returns-clause-same
returns-clause-same c = omega (arith, ints)
