-- The set has the numbers of the DATA lines so far.
use Rattle.std.proofs.Common.{take}
use Rattle.bas_names.specs.Lent.{line_trees}
use Rattle.bas_place.specs.Data.{HasData}
use Rattle.bas_place.proofs.unit.data_numbers.Given as goal

abbrev pub invariant-loop-line : goal.invariant-loop-line
invariant-loop-line l = HasData l.numbers (line_trees (take l.line-index l.lines))
