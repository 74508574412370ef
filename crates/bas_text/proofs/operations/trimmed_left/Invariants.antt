use Rattle.std.proofs.Common.{◌≡◌, ◌≤◌, length}
use Rattle.bas_text.specs.Trim.{trim_left}
use Rattle.bas_text.proofs.operations.trimmed_left.Given as goal

abbrev pub invariant-loop-rest : goal.invariant-loop-rest
invariant-loop-rest l = (trim_left l.rest ≡ trim_left l.text) × (length l.rest ≤ length l.text)

abbrev pub decreases-loop-rest : goal.decreases-loop-rest
decreases-loop-rest l = length l.rest
