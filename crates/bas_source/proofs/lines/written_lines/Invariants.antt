use Rattle.std.proofs.Common.{◌≡◌, ◌++◌, length}
use Rattle.std.specs.List.{filter}
use Rattle.bas_source.specs.Lines.{is_written, lines_of}
use Rattle.bas_source.proofs.lines.written_lines.Given as goal

-- the lines so far and those of the rest are all the lines
abbrev pub invariant-loop-rest : goal.invariant-loop-rest
invariant-loop-rest l = l.lines.items ++ filter is_written (lines_of l.rest) ≡ filter is_written (lines_of l.text)

abbrev pub decreases-loop-rest : goal.decreases-loop-rest
decreases-loop-rest l = length l.rest
