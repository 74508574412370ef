use Rattle.std.proofs.Common.{◌≡◌, pos}
use Rattle.bas_dec.specs.Number.{low}
use Rattle.bas_dec.proofs.numeral.number.Given as goal

abbrev pub invariant-loop-coefficient : goal.invariant-loop-coefficient
invariant-loop-coefficient l = low (pos l.size) l.scale ≡ low (pos l.initial.size) l.initial.scale

abbrev pub decreases-loop-coefficient : goal.decreases-loop-coefficient
decreases-loop-coefficient l = l.scale
