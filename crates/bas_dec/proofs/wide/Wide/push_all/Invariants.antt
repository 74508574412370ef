use Rattle.std.proofs.Common.{◌≡◌, ◌<◌, ◌+◌, ◌^◌, take}
use Rattle.bas_dec.specs.Numeral.{written_behind}
use Rattle.bas_dec.proofs.wide.Wide.push_all.Given as goal

abbrev pub invariant-loop-digit : goal.invariant-loop-digit
invariant-loop-digit l = record {
  value : l.self ≡ written_behind l.initial.self (take l.digit-index l.digits);
  below : l.self < 10 ^ (l.count + l.digit-index);
}
