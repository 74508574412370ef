-- One more procedure is put.
use Rattle.std.proofs.Common.{map, refl, arith}
use Rattle.bas_ast.specs.Tree as t
use Rattle.bas_ast.specs.UnitTree.{procedure_tree}
use Rattle.bas_scope.specs.Lines.{gathered}
use Rattle.bas_scope.specs.Scope.{procedure_entry}
use Rattle.bas_names.specs.Tables.{options_told}
use Rattle.bas_names.proofs.Putting.{leaves_more, leaves_end}
use Rattle.bas_names.proofs.procedure.put_procedures.Goals as goal

pub loop-procedure-preserved : goal.loop-procedure-preserved
loop-procedure-preserved c = λ home.
    let entry = λ (p : t.Procedure). procedure_entry (options_told c.args.options) home p.head.item p.body in
    leaves_more (λ xs. gathered entry (map procedure_tree xs)) (λ x. entry (procedure_tree x)) (λ x xs. refl) c.args.procedures.now c.loop-procedure.procedure-index c.procedure-item.result c.args.table.now c.loop-procedure.table c.put_with_block.new.table _
    c.procedure-item.is (omega arith) (c.loop-procedure.invariant home) (c.in_ok-put_with_block.ensures home)

pub returns : goal.returns
returns c = λ home.
    let entry = λ (p : t.Procedure). procedure_entry (options_told c.args.options) home p.head.item p.body in
    leaves_end (λ xs. gathered entry (map procedure_tree xs)) refl c.args.procedures.now c.loop-procedure.procedure-index c.args.table.now c.loop-procedure.table _ (omega arith) (c.loop-procedure.invariant home)
