use Rattle.std.proofs.Common.{◌≡◌, ◌≤◌, ◌-◌, length}
use Rattle.bas_token.specs.Reading as reading
use Rattle.bas_token.proofs.shape.pieces_past.Given as goal

abbrev pub invariant-loop-next : goal.invariant-loop-next
invariant-loop-next l =
    record { within : l.at ≤ length l.line; grows : l.initial.at ≤ l.at; same : reading.pieces_past l.line l.at ≡ reading.pieces_past l.line l.initial.at }

abbrev pub decreases-loop-next : goal.decreases-loop-next
decreases-loop-next l = length l.line - l.at
