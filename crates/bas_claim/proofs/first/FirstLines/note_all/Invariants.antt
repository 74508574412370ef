-- The names that are taken are noted.
use Rattle.std.proofs.Common.{take}
use Rattle.bas_claim.specs.First.{Notes}
use Rattle.bas_claim.proofs.first.FirstLines.note_all.Given as goal

abbrev pub invariant-loop-name : goal.invariant-loop-name
invariant-loop-name l = Notes l.initial.self l.self (take l.name-index l.names) l.line
