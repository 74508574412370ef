use Rattle.bas_dec.proofs.ValueLemmas.{nearest_rounded}
use Rattle.bas_dec.proofs.numeral.nearest.Goals as goal

pub returns : goal.returns
returns c = rw (c.number.ensures, c.round.ensures, c.saturating_sub.ensures, c.min.ensures, c.from-most.ensures) (nearest_rounded c.args.size c.args.places)
