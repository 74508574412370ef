use Rattle.std.proofs.Common.{◌≡◌, take}
use Rattle.bas_text.specs.Strings.{lower}
use Rattle.bas_text.proofs.byte_string.StrVal.lower.Given as goal

abbrev pub invariant-loop-byte : goal.invariant-loop-byte
invariant-loop-byte l = l.small.items ≡ lower (take l.byte-index l.bytes)
