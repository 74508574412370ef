use Rattle.std.proofs.Common.{arith, refl, length-append, append_assoc}
use Rattle.bas_dec.proofs.TextLemmas.{text_room}
use Rattle.bas_dec.proofs.text.Text.of_size.Goals as goal

pub put_fraction-whole-requires : goal.put_fraction-whole-requires
put_fraction-whole-requires c = rw (c.put.ensures, c.new-text.ensures) (omega (arith, text_room c.args.size c.args.places c.requires.places c.requires.few))

pub put_whole-requires-clause-room : goal.put_whole-requires-clause-room
put_whole-requires-clause-room c = rw (c.put_fraction-whole.ensures.text, c.put_fraction-whole.ensures.rest, c.put.ensures, c.new-text.ensures, length-append) (omega (arith, text_room c.args.size c.args.places c.requires.places c.requires.few))

pub returns-clause-text : goal.returns-clause-text
returns-clause-text c = rw (c.put_whole.ensures, c.put_fraction-whole.ensures.text, c.put_fraction-whole.ensures.rest, c.put.ensures, c.new-text.ensures, append_assoc) refl

pub returns-clause-room : goal.returns-clause-room
returns-clause-room c = rw (c.put_whole.ensures, length-append, c.put_fraction-whole.ensures.text, length-append, c.put_fraction-whole.ensures.rest, c.put.ensures, c.new-text.ensures) (omega (arith, text_room c.args.size c.args.places c.requires.places c.requires.few))
