use Rattle.std.proofs.Common.{◌≤◌, ◌^◌, ◌∙◌, ap, sym, arith, pos, ◌-◌}
use Rattle.bas_dec.specs.Number.{low}
use Rattle.bas_dec.proofs.ValueLemmas.{low_pop, low_beyond}
use Rattle.bas_dec.proofs.numeral.number.Goals as goal

pub returns-then-scale-eq0 : goal.returns-then-scale-eq0
returns-then-scale-eq0 c =
    let large : 10 ^ 38 ≤ c.loop-coefficient.size = omega (arith, c.in_default.ensures) in
    sym (low_beyond c.loop-coefficient.size c.loop-coefficient.scale large (λ some. omega arith)) ∙ c.loop-coefficient.invariant

pub returns-then-last-ne0 : goal.returns-then-last-ne0
returns-then-last-ne0 c =
    let large : 10 ^ 38 ≤ c.loop-coefficient.size = omega (arith, c.in_default.ensures) in
    sym (low_beyond c.loop-coefficient.size c.loop-coefficient.scale large (λ some. omega arith)) ∙ c.loop-coefficient.invariant

pub loop-coefficient-preserved : goal.loop-coefficient-preserved
loop-coefficient-preserved c =
    let popped = low_pop c.loop-coefficient.size c.loop-coefficient.scale (omega arith) (omega arith) in
    ap (λ n. low (pos n) (c.loop-coefficient.scale - 1)) c.pop.ensures ∙ sym popped ∙ c.loop-coefficient.invariant
