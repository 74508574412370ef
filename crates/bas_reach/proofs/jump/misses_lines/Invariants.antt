-- What is left tells of all.
use Rattle.std.proofs.Common.{◌≡◌, drop}
use Rattle.bas_reach.specs.Placing.{misses}
use Rattle.bas_reach.specs.Standing.{around_of}
use Rattle.bas_reach.proofs.jump.misses_lines.Given as goal

abbrev pub invariant-loop-line : goal.invariant-loop-line
invariant-loop-line l = misses (around_of l.around).reach (drop l.line-index l.lines) ≡ misses (around_of l.around).reach l.lines
