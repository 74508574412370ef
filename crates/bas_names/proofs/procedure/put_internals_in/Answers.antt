-- One more statement is put.
use Rattle.std.proofs.Common.{refl, arith}
use Rattle.bas_ast.specs.BlockTree.{stmt_tree, stmts_tree}
use Rattle.bas_scope.specs.Lines.{gathered}
use Rattle.bas_scope.specs.Scope.{inner_of, internals_of}
use Rattle.bas_names.specs.Tables.{options_told}
use Rattle.bas_names.proofs.Internals.{inner_entry}
use Rattle.bas_names.proofs.Putting.{leaves_more, leaves_end, gathered-append}
use Rattle.bas_names.proofs.procedure.put_internals_in.Goals as goal

pub loop-stmt-preserved : goal.loop-stmt-preserved
loop-stmt-preserved c = λ home.
    let entry = inner_entry (options_told c.args.options) home in
    leaves_more (λ xs. gathered entry (internals_of (stmts_tree xs))) (λ x. gathered entry (inner_of (stmt_tree x)))
    (λ x xs. gathered-append entry (inner_of (stmt_tree x)) (internals_of (stmts_tree xs))) c.args.stmts.now c.loop-stmt.stmt-index c.stmt-item.result c.args.table.now c.loop-stmt.table c.put_internal.new.table _
    c.stmt-item.is (omega arith) (c.loop-stmt.invariant home) (c.in_ok-put_internal.ensures home)

pub returns : goal.returns
returns c = λ home.
    leaves_end (λ xs. gathered (inner_entry (options_told c.args.options) home) (internals_of (stmts_tree xs))) refl c.args.stmts.now c.loop-stmt.stmt-index c.args.table.now c.loop-stmt.table _ (omega arith) (c.loop-stmt.invariant home)
