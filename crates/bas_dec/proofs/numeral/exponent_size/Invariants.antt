use Rattle.std.proofs.Common.{◌≡◌, ◌<◌, ◌^◌, take}
use Rattle.bas_dec.specs.Numeral.{number_written}
use Rattle.bas_dec.proofs.numeral.exponent_size.Given as goal

abbrev pub invariant-loop-digit : goal.invariant-loop-digit
invariant-loop-digit l = record {
  value : l.size ≡ number_written (take l.digit-index l.digits);
  below : l.size < 10 ^ l.digit-index;
}
