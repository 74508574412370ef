-- What is left tells of the whole.
use Rattle.std.proofs.Common.{◌≡◌, drop}
use Rattle.bas_scope.specs.Shapes.{first_given, base_on}
use Rattle.bas_names.specs.Lent.{line_trees}
use Rattle.bas_names.proofs.options.first_base.Given as goal

abbrev pub invariant-loop-line : goal.invariant-loop-line
invariant-loop-line l = first_given base_on (line_trees (drop l.line-index l.lines)) ≡ first_given base_on (line_trees l.lines)
