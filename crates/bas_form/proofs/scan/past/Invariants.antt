use Rattle.std.proofs.Common.{◌≡◌, ◌≤◌, ◌-◌, length}
use Rattle.bas_form.specs.Bytes as bytes
use Rattle.bas_form.proofs.scan.past.Given as goal

abbrev pub invariant-loop-at : goal.invariant-loop-at
invariant-loop-at l =
    record { within : l.initial.at ≤ length l.text → l.at ≤ length l.text; grows : l.initial.at ≤ l.at; same : bytes.past l.text l.class l.at ≡ bytes.past l.text l.class l.initial.at }

abbrev pub decreases-loop-at : goal.decreases-loop-at
decreases-loop-at l = length l.text - l.at
