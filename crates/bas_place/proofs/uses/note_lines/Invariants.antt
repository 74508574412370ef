-- What the lines so far use is noted.
use Rattle.std.proofs.Common.{take}
use Rattle.bas_names.specs.Lent.{line_trees}
use Rattle.bas_names.specs.Names.{senses_in}
use Rattle.bas_place.specs.Uses.{Gains, used_above}
use Rattle.bas_place.proofs.uses.note_lines.Given as goal

abbrev pub invariant-loop-line : goal.invariant-loop-line
invariant-loop-line l = Gains l.initial.uses l.uses (used_above (senses_in l.names) (line_trees (take l.line-index l.lines)))
