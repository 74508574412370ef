use Rattle.std.proofs.Common.{◌≡◌, take}
use Rattle.bas_text.specs.Strings.{upper}
use Rattle.bas_text.proofs.byte_string.StrVal.upper.Given as goal

abbrev pub invariant-loop-byte : goal.invariant-loop-byte
invariant-loop-byte l = l.capitals.items ≡ upper (take l.byte-index l.bytes)
