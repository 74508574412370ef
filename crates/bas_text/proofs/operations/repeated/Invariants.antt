use Rattle.std.proofs.Common.{◌≡◌, ◌*◌, length, vec_len}
use Rattle.bas_text.specs.Strings.{repeat}
use Rattle.bas_text.proofs.operations.repeated.Given as goal

abbrev pub invariant-loop : goal.invariant-loop
invariant-loop l = (l.made.items ≡ repeat l.counter l.bytes) × (vec_len l.made ≡ l.counter * length l.bytes)
