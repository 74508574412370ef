use Rattle.std.proofs.Common.{◌∙◌, arith}
use Rattle.bas_dec.proofs.TextLemmas.{decimal_some, decimal_next, length-decimal_next, decimal_last}
use Rattle.bas_dec.proofs.text.Text.put_number.Goals as goal

pub put-requires : goal.put-requires
put-requires c = omega (arith, decimal_some c.loop-n.n c.loop-n.invariant.few)

pub loop-n-preserved : goal.loop-n-preserved
loop-n-preserved c = record {
  text = rw c.put.ensures (decimal_next c.loop-n.n c.loop-n.self (omega arith) c.loop-n.invariant.few ∙ c.loop-n.invariant.text);
  few = omega arith;
  room = rw c.put.ensures (omega (arith, length-decimal_next c.loop-n.n (omega arith) c.loop-n.invariant.few));
}

pub put-requires-2 : goal.put-requires-2
put-requires-2 c = omega (arith, decimal_some c.loop-n.n c.loop-n.invariant.few)

pub returns : goal.returns
returns c = c.put-2.ensures ∙ decimal_last c.loop-n.n c.loop-n.self (omega arith) ∙ c.loop-n.invariant.text
