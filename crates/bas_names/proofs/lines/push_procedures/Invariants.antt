-- What is pushed, and the lines of the procedures that are left.
use Rattle.std.proofs.Common.{◌≡◌, ◌++◌, map, drop}
use Rattle.bas_ast.specs.UnitTree.{procedure_tree}
use Rattle.bas_scope.specs.Lines.{gathered, procedure_lines}
use Rattle.bas_names.specs.Lent.{line_trees}
use Rattle.bas_names.proofs.lines.push_procedures.Given as goal

abbrev pub invariant-loop-procedure : goal.invariant-loop-procedure
invariant-loop-procedure l =
    line_trees l.lines.items ++ gathered procedure_lines (map procedure_tree (drop l.procedure-index l.procedures))
    ≡ line_trees l.initial.lines.items ++ gathered procedure_lines (map procedure_tree l.procedures)
