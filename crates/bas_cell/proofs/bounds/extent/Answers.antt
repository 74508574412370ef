use Rattle.std.proofs.Common.{arith}
use Rattle.std.proofs.lemmas.Int.{ints}
use Rattle.bas_cell.proofs.Elements.{range_rises, range_low, range_high}
use Rattle.bas_cell.proofs.bounds.extent.Goals as goal

pub overflow_cast-result : goal.overflow_cast-result
overflow_cast-result c =
    let rises = range_rises c.args.bound c.requires in
    let low = range_low c.args.bound c.requires in
    let high = range_high c.args.bound c.requires in
    (grind (arith, ints), omega (arith, ints))
