-- Formals go before the procedure itself.
use Rattle.bas_ast.specs.BlockTree.{item_tree}
use Rattle.bas_scope.specs.Lines.{own_lines}
use Rattle.bas_scope.specs.Scope.{Container}
use Rattle.bas_names.specs.Tables.{options_told}
use Rattle.bas_names.proofs.Bodies.{inner_has}
use Rattle.bas_names.proofs.internal.inside_table.Goals as goal

pub returns : goal.returns
returns c = λ inner e declares.
    inner_has (options_told c.args.options) inner (item_tree c.args.head.now) _ c.new-table.result c.put_formals.new.table c.put_within.new.table
    c.new-table.ensures e c.formals_on.ensures (c.in_ok-put_formals.ensures (own_lines inner.1) declares) (c.in_ok-put_within.ensures Container inner.1 declares)
