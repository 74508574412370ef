use Rattle.std.proofs.Common.{◌≡◌, ◌<◌, ◌≤◌, ◌/◌, ◌%◌, ◌^◌, ◌-◌, ◌∙◌, ap, arith}
use Rattle.bas_dec.proofs.WideLemmas.{rounds_up, rounds_down, digit_off}
use Rattle.bas_dec.proofs.wide.Wide.round.Goals as goal

pub loop-preserved : goal.loop-preserved
loop-preserved c = c.pop.ensures ∙ digit_off _ c.loop.counter _ (omega arith) c.loop.invariant

pub returns-then-up : goal.returns-then-up
returns-then-up c =
    let last : c.loop.counter ≡ c.args.count = omega arith in
    let left : c.loop.self ≡ c.args.self.now / 10 ^ (c.args.count - 1) = c.loop.invariant ∙ ap (λ k. c.args.self.now / 10 ^ (k - 1)) last in
    let half : 5 ≤ c.loop.self % 10 = omega arith in
    rw (c.increment.ensures, c.pop-2.ensures) (rounds_up c.args.self.now c.args.count c.loop.self (omega arith) left half)

pub returns-else-up : goal.returns-else-up
returns-else-up c =
    let last : c.loop.counter ≡ c.args.count = omega arith in
    let left : c.loop.self ≡ c.args.self.now / 10 ^ (c.args.count - 1) = c.loop.invariant ∙ ap (λ k. c.args.self.now / 10 ^ (k - 1)) last in
    let below : c.loop.self % 10 < 5 = omega arith in
    rw c.pop-2.ensures (rounds_down c.args.self.now c.args.count c.loop.self (omega arith) left below)
