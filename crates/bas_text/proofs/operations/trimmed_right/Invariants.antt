use Rattle.std.proofs.Common.{◌≡◌, ◌≤◌, length}
use Rattle.bas_text.specs.Trim.{trim_right}
use Rattle.bas_text.proofs.operations.trimmed_right.Given as goal

abbrev pub invariant-loop-rest : goal.invariant-loop-rest
invariant-loop-rest l = (trim_right l.rest ≡ trim_right l.text) × (length l.rest ≤ length l.text)

abbrev pub decreases-loop-rest : goal.decreases-loop-rest
decreases-loop-rest l = length l.rest
