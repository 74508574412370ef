-- One more formal is put.
use Rattle.std.proofs.Common.{map, refl, arith}
use Rattle.bas_ast.specs.PartTree.{formal_tree}
use Rattle.bas_scope.specs.Lines.{gathered}
use Rattle.bas_scope.specs.Scope.{formal_entry}
use Rattle.bas_names.specs.Tables.{options_told}
use Rattle.bas_names.proofs.Putting.{leaves_more}
use Rattle.bas_names.proofs.formals.put_formals.Goals as goal

pub loop-formal-preserved : goal.loop-formal-preserved
loop-formal-preserved c = λ lines d.
    let entry = formal_entry (options_told c.args.options) lines in
    leaves_more (λ xs. gathered entry (map formal_tree xs)) (λ x. entry (formal_tree x)) (λ x xs. refl) c.args.formals.now c.loop-formal.formal-index c.formal-item.result c.args.table.now c.loop-formal.table c.put_formal.new.table _
    c.formal-item.is (omega arith) (c.loop-formal.invariant lines d) (c.in_ok-put_formal.ensures lines d)
