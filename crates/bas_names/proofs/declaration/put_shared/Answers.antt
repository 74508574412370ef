-- One more line is put.
use Rattle.std.proofs.Common.{refl, arith}
use Rattle.bas_ast.specs.Tree as t
use Rattle.bas_ast.specs.BlockTree.{item_tree}
use Rattle.bas_scope.specs.Bodies.{shared_on}
use Rattle.bas_scope.specs.Lines.{gathered}
use Rattle.bas_names.specs.Lent.{line_trees}
use Rattle.bas_names.specs.Tables.{options_told}
use Rattle.bas_names.proofs.Putting.{leaves_more}
use Rattle.bas_names.proofs.declaration.put_shared.Goals as goal

pub loop-line-preserved : goal.loop-line-preserved
loop-line-preserved c =
    let given = λ (item : t.LineItem). shared_on (options_told c.args.options) item in
    leaves_more (λ xs. gathered (λ (line : t.NumLine). given line.item) (line_trees xs)) (λ x. given (item_tree x.now.item)) (λ x xs. refl) c.args.lines.now c.loop-line.line-index c.line-item.result c.args.table.now c.loop-line.table c.put_share.new.table _
    c.line-item.is (omega arith) c.loop-line.invariant c.in_ok-put_share.ensures
