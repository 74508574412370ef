use Rattle.std.proofs.Common.{arith, refl, sym}
use Rattle.bas_dec.proofs.TextLemmas.{whole_text_shown, whole_text_none}
use Rattle.bas_dec.proofs.text.Text.put_whole.Goals as goal

pub put_number-requires-clause-room : goal.put_number-requires-clause-room
put_number-requires-clause-room c = rw (sym (whole_text_shown c.args.whole c.args.places c.then-whole-gt0.either)) c.requires.room

pub returns-then-whole-gt0 : goal.returns-then-whole-gt0
returns-then-whole-gt0 c = rw (whole_text_shown c.args.whole c.args.places c.then-whole-gt0.either) c.put_number.ensures

pub returns-else-places-eq0 : goal.returns-else-places-eq0
returns-else-places-eq0 c = rw (whole_text_none c.args.whole c.args.places (omega arith) (omega arith)) refl
