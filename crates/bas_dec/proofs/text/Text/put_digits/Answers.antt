use Rattle.std.proofs.Common.{◌≡◌, ◌+◌, ◌-◌, ◌^◌, ◌∙◌, sym, arith}
use Rattle.std.proofs.Math.Nat.{div-div-eq-div-mul}
use Rattle.std.proofs.lemmas.Grind.{pow_more}
use Rattle.bas_dec.proofs.TextLemmas.{last_digits_none, last_digits_next}
use Rattle.bas_dec.proofs.text.Text.put_digits.Goals as goal

pub loop-preserved : goal.loop-preserved
loop-preserved c =
    let left : c.args.count - (c.loop.counter + 1) ≡ c.args.count - c.loop.counter - 1 = omega arith in
    record {
      text = rw (c.put.ensures, left) (last_digits_next c.loop.n (c.args.count - c.loop.counter) c.loop.self (omega arith) ∙ c.loop.invariant.text);
      rest = rw (c.loop.invariant.rest, pow_more) (div-div-eq-div-mul c.args.n (10 ^ c.loop.counter) 10);
      room = rw c.put.ensures (omega arith);
    }

pub returns-clause-text : goal.returns-clause-text
returns-clause-text c =
    let none : c.args.count - c.loop.counter ≡ 0 = omega arith in
    sym (last_digits_none c.loop.n c.loop.self) ∙ rw none at c.loop.invariant.text
