use Rattle.std.proofs.Common.{◌<◌, arith, refl, length-append}
use Rattle.bas_dec.proofs.TextLemmas.{fraction_text_none, fraction_text_some, length-fraction_text, length-last_digits}
use Rattle.bas_dec.proofs.text.Text.put_fraction.Goals as goal

pub returns-then-places-eq0-clause-text : goal.returns-then-places-eq0-clause-text
returns-then-places-eq0-clause-text c = rw (fraction_text_none c.args.size c.args.places c.if-places-eq0.true) refl

pub put_digits-whole-requires : goal.put_digits-whole-requires
put_digits-whole-requires c = omega (arith, length-fraction_text c.args.size c.args.places (omega arith))

pub put-requires : goal.put-requires
put-requires c = rw (c.put_digits-whole.ensures.text, length-append, length-last_digits) (omega (arith, length-fraction_text c.args.size c.args.places (omega arith)))

pub returns-clause-text : goal.returns-clause-text
returns-clause-text c =
    let some : 0 < c.args.places = omega arith in
    rw (c.put.ensures, c.put_digits-whole.ensures.text, fraction_text_some c.args.size c.args.places some) refl
