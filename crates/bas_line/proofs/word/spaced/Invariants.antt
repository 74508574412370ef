use Rattle.std.proofs.Common.{◌≡◌, ◌≤◌, length, map, take}
use Rattle.bas_text.specs.Trim.{as_space}
use Rattle.bas_line.proofs.word.spaced.Given as goal

abbrev pub invariant-loop-at : goal.invariant-loop-at
invariant-loop-at l = record { within : l.at ≤ length l.text; read : l.bytes.items ≡ map as_space (take l.at l.text) }
