use Rattle.std.proofs.Common.{◌*◌, ◌^◌, ◌<◌, ◌≤◌}
use Rattle.bas_dec.proofs.ValueLemmas.{nearest_beyond}
use Rattle.bas_dec.proofs.numeral.shifted.Goals as goal

pub returns-then-not-raise : goal.returns-then-not-raise
returns-then-not-raise c =
    let over : (0 < c.args.zeros) × (10 ^ 38 ≤ c.args.mantissa * 10 ^ c.args.zeros) = c.if-not-raise.ensures in
    nearest_beyond (c.args.mantissa * 10 ^ c.args.zeros) c.args.places (c.requires.one_way over.0) over.1
