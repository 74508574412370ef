-- The lines that are left.
use Rattle.std.proofs.Common.{drop}
use Rattle.bas_scope.specs.Lines.{gathered}
use Rattle.bas_scope.specs.Scope.{Outer, declared_on}
use Rattle.bas_names.specs.Lent.{line_trees}
use Rattle.bas_names.specs.Tables.{HasOuter}
use Rattle.bas_names.proofs.Putting.{Leaves}
use Rattle.bas_names.proofs.declaration.put_declared.Given as goal

abbrev pub invariant-loop-line : goal.invariant-loop-line
invariant-loop-line l = (outer : Outer) → HasOuter l.unit outer
    → Leaves l.initial.table l.table (gathered (λ line. declared_on outer line.item) (line_trees l.lines)) (gathered (λ line. declared_on outer line.item) (line_trees (drop l.line-index l.lines)))
