use Rattle.std.proofs.Common.{◌≡◌, ◌+◌, ◌-◌, ◌/◌, ◌^◌, ◌++◌, length}
use Rattle.bas_dec.specs.Text.{last_digits}
use Rattle.bas_dec.proofs.text.Text.put_digits.Given as goal

-- what is still to be put in front makes the whole text
abbrev pub invariant-loop : goal.invariant-loop
invariant-loop l = record {
  text : last_digits l.n (l.count - l.counter) ++ l.self ≡ last_digits l.initial.n l.count ++ l.initial.self;
  rest : l.n ≡ l.initial.n / 10 ^ l.counter;
  room : length l.self ≡ length l.initial.self + l.counter;
}
