use Rattle.std.proofs.Common.{◌≡◌, ◌+◌, ◌*◌, ◌^◌, ◌≤◌, take}
use Rattle.bas_source.specs.Number.{spelled}
use Rattle.bas_drive.proofs.words.spelled.Given as goal

-- the digits so far are spelled, and each of them is at most 207
abbrev pub invariant-loop-digit : goal.invariant-loop-digit
invariant-loop-digit l = record {
  so_far : l.n ≡ spelled (take l.digit-index l.digits);
  small : l.n + 23 ≤ 23 * 10 ^ l.digit-index;
}
