-- The formals that are left.
use Rattle.std.proofs.Common.{List, map, drop}
use Rattle.bas_ast.specs.Tree.{NumLine}
use Rattle.bas_ast.specs.PartTree.{formal_tree}
use Rattle.bas_scope.specs.Lines.{gathered}
use Rattle.bas_scope.specs.Scope.{formal_entry}
use Rattle.bas_names.specs.Tables.{Declares, options_told}
use Rattle.bas_names.proofs.Putting.{Leaves}
use Rattle.bas_names.proofs.formals.put_formals.Given as goal

abbrev pub invariant-loop-formal : goal.invariant-loop-formal
invariant-loop-formal l = (lines : List NumLine) → Declares l.declared lines
    → Leaves l.initial.table l.table (gathered (formal_entry (options_told l.options) lines) (map formal_tree l.formals)) (gathered (formal_entry (options_told l.options) lines) (map formal_tree (drop l.formal-index l.formals)))
