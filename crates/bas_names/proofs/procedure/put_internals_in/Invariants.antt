-- The statements that are left.
use Rattle.std.proofs.Common.{drop}
use Rattle.bas_ast.specs.BlockTree.{stmts_tree}
use Rattle.bas_scope.specs.Lines.{gathered}
use Rattle.bas_scope.specs.Scope.{Home, internals_of, procedure_entry}
use Rattle.bas_names.specs.Tables.{options_told}
use Rattle.bas_names.proofs.Putting.{Leaves}
use Rattle.bas_names.proofs.procedure.put_internals_in.Given as goal

abbrev pub invariant-loop-stmt : goal.invariant-loop-stmt
invariant-loop-stmt l = (home : Home)
    → Leaves l.initial.table l.table
    (gathered (λ inner. procedure_entry (options_told l.options) home inner.0.item inner.1) (internals_of (stmts_tree l.stmts)))
    (gathered (λ inner. procedure_entry (options_told l.options) home inner.0.item inner.1) (internals_of (stmts_tree (drop l.stmt-index l.stmts))))
