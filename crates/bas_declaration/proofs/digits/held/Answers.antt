use Rattle.std.proofs.Common.{arith}
use Rattle.bas_declaration.proofs.DigitLaws.{held_none, held_next}
use Rattle.bas_declaration.proofs.digits.held.Goals as goal

pub loop-digit-init : goal.loop-digit-init
loop-digit-init c = (held_none, omega arith)

pub loop-digit-preserved : goal.loop-digit-preserved
loop-digit-preserved c =
    let n = held_next c.args.text.now c.loop-digit.digit-index c.loop-digit.value c.loop-digit-test.true c.loop-digit.invariant.0 in
    let s = c.saturating_sub.ensures in
    let m = c.min-value.ensures in
    (rw (m, s) n, rw m (omega arith))
