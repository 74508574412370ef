use Rattle.std.proofs.Common.{◌≤◌, ◌+◌, ◌∙◌, arith, refl, get_or, add_assoc}
use Rattle.bas_dec.proofs.Powers.{ten_to_rises}
use Rattle.bas_dec.proofs.DigitLemmas.{written_more, size_more, digit_range}
use Rattle.bas_dec.proofs.wide.Wide.push_all.Goals as goal

pub push-requires-clause-room : goal.push-requires-clause-room
push-requires-clause-room c = omega (arith, c.loop-digit.invariant.below, ten_to_rises (c.args.count + c.loop-digit.digit-index) 59 (omega arith))

pub loop-digit-preserved : goal.loop-digit-preserved
loop-digit-preserved c =
    let digit : (48 ≤ get_or c.args.digits.now c.loop-digit.digit-index 0) × (get_or c.args.digits.now c.loop-digit.digit-index 0 ≤ 57) =
    digit_range _ (c.requires.digits c.loop-digit.digit-index 0 c.loop-digit-test.true) in
    record {
      value = c.push.ensures ∙ written_more c.args.self.now c.args.digits.now c.loop-digit.digit-index _ _ c.loop-digit-test.true refl c.loop-digit.invariant.value;
      below = rw (c.push.ensures, ← add_assoc) (size_more _ _ _ c.loop-digit.invariant.below (omega arith));
    }
