use Rattle.std.proofs.Common.{◌<◌, ◌≤◌, ◌^◌, arith}
use Rattle.std.proofs.Math.Nat.{mul-le-mul_left}
use Rattle.std.proofs.lemmas.Grind.{pow_more}
use Rattle.bas_dec.proofs.Powers.{ten_to_rises}
use Rattle.bas_dec.proofs.wide.Wide.raise.Goals as goal

pub returns-then-is_none : goal.returns-then-is_none
returns-then-is_none c =
    let over : 10 ^ 38 ≤ c.loop.self = grind (arith, c.small.ensures, c.is_none.ensures, c.if-is_none.true) in
    (omega arith, omega (arith, c.loop.invariant.value, mul-le-mul_left c.args.self.now (ten_to_rises c.loop.counter c.args.count (omega arith))))

pub loop-preserved : goal.loop-preserved
loop-preserved c =
    let small : c.loop.self < 10 ^ 38 = grind (arith, c.small.ensures, c.is_none.ensures, c.if-is_none.false) in
    record {
      value = rw pow_more (omega (arith, c.push.ensures, c.loop.invariant.value));
      below = omega (arith, c.push.ensures);
    }
