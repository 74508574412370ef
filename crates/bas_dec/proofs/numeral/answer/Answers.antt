use Rattle.std.proofs.Common.{arith, refl, length, ◌+◌, ◌≡◌, ◌∙◌, if◌then◌else◌}
use Rattle.bas_dec.specs.Numeral.{written_behind, number_written}
use Rattle.bas_dec.proofs.Powers.{ten_to_rises}
use Rattle.bas_dec.proofs.ValueLemmas.{answer_short}
use Rattle.bas_dec.proofs.numeral.answer.Goals as goal

pub shifted-requires-clause-few : goal.shifted-requires-clause-few
shifted-requires-clause-few c = omega (arith, c.push_all-2.ensures.below, ten_to_rises (length c.args.whole.now + length c.args.fraction.now) 60 (omega arith))

pub returns : goal.returns
returns c =
    let digits : c.push_all-2.new.self ≡ written_behind (written_behind 0 c.args.whole.now) c.args.fraction.now =
    rw (c.push_all-2.ensures.value, c.push_all.ensures.value, c.zero-mantissa.ensures) refl in
    let zeros : c.zeros_and_places-zeros.result.0 ≡ (if c.args.negative then 0 else number_written c.args.exponent.now) =
    rw (c.zeros_and_places-zeros.ensures.zeros, c.exponent_size.ensures.value) refl in
    let places : c.zeros_and_places-zeros.result.1 + length c.args.fraction.now ≡ (if c.args.negative then number_written c.args.exponent.now else 0) + length c.args.fraction.now =
    rw (c.zeros_and_places-zeros.ensures.places, c.exponent_size.ensures.value) refl in
    let answered = answer_short c.args.whole.now c.args.fraction.now c.args.exponent.now c.args.negative c.push_all-2.new.self _ _ digits (omega arith) (omega arith) zeros places in
    c.shifted.ensures ∙ rw (c.saturating_sub.ensures, c.saturating_sub-2.ensures) answered
