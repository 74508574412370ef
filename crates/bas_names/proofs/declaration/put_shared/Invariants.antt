-- The lines that are left.
use Rattle.std.proofs.Common.{drop}
use Rattle.bas_scope.specs.Bodies.{shared_on}
use Rattle.bas_scope.specs.Lines.{gathered}
use Rattle.bas_names.specs.Lent.{line_trees}
use Rattle.bas_names.specs.Tables.{options_told}
use Rattle.bas_names.proofs.Putting.{Leaves}
use Rattle.bas_names.proofs.declaration.put_shared.Given as goal

abbrev pub invariant-loop-line : goal.invariant-loop-line
invariant-loop-line l =
    Leaves l.initial.table l.table (gathered (λ line. shared_on (options_told l.options) line.item) (line_trees l.lines)) (gathered (λ line. shared_on (options_told l.options) line.item) (line_trees (drop l.line-index l.lines)))
