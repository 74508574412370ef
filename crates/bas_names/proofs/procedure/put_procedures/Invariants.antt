-- The procedures that are left.
use Rattle.std.proofs.Common.{map, drop}
use Rattle.bas_ast.specs.UnitTree.{procedure_tree}
use Rattle.bas_scope.specs.Lines.{gathered}
use Rattle.bas_scope.specs.Scope.{Home, procedure_entry}
use Rattle.bas_names.specs.Tables.{options_told}
use Rattle.bas_names.proofs.Putting.{Leaves}
use Rattle.bas_names.proofs.procedure.put_procedures.Given as goal

abbrev pub invariant-loop-procedure : goal.invariant-loop-procedure
invariant-loop-procedure l = (home : Home)
    → Leaves l.initial.table l.table
    (gathered (λ p. procedure_entry (options_told l.options) home p.head.item p.body) (map procedure_tree l.procedures))
    (gathered (λ p. procedure_entry (options_told l.options) home p.head.item p.body) (map procedure_tree (drop l.procedure-index l.procedures)))
