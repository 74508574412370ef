-- One more line is put.
use Rattle.std.proofs.Common.{refl, arith}
use Rattle.bas_ast.specs.Tree as t
use Rattle.bas_ast.specs.BlockTree.{item_tree}
use Rattle.bas_scope.specs.Lines.{gathered}
use Rattle.bas_scope.specs.Scope.{declared_on}
use Rattle.bas_names.specs.Lent.{line_trees}
use Rattle.bas_names.proofs.Putting.{leaves_more, leaves_end}
use Rattle.bas_names.proofs.declaration.put_declared.Goals as goal

pub loop-line-preserved : goal.loop-line-preserved
loop-line-preserved c = λ outer has.
    leaves_more (λ xs. gathered (λ (line : t.NumLine). declared_on outer line.item) (line_trees xs)) (λ x. declared_on outer (item_tree x.now.item)) (λ x xs. refl) c.args.lines.now c.loop-line.line-index c.line-item.result c.args.table.now c.loop-line.table c.put_line.new.table _
    c.line-item.is (omega arith) (c.loop-line.invariant outer has) (c.in_ok-put_line.ensures outer has)

pub returns : goal.returns
returns c = λ outer has.
    leaves_end (λ xs. gathered (λ (line : t.NumLine). declared_on outer line.item) (line_trees xs)) refl c.args.lines.now c.loop-line.line-index c.args.table.now c.loop-line.table _ (omega arith) (c.loop-line.invariant outer has)
