use Rattle.std.proofs.Common.{◌≡◌, ◌<◌, ◌≤◌, ◌^◌, ◌++◌, ◌+◌, length}
use Rattle.std.specs.Fmt.{decimal}
use Rattle.bas_dec.proofs.text.Text.put_number.Given as goal

abbrev pub invariant-loop-n : goal.invariant-loop-n
invariant-loop-n l = record {
  text : decimal l.n ++ l.self ≡ decimal l.initial.n ++ l.initial.self;
  few : l.n < 10 ^ 38;
  room : length l.self + length (decimal l.n) ≤ 64;
}

abbrev pub decreases-loop-n : goal.decreases-loop-n
decreases-loop-n l = l.n
