-- The names are put in the order in which they count.
use Rattle.std.proofs.Common.{ap, ◌∙◌}
use Rattle.std.specs.Option.{option_map}
use Rattle.bas_ast.specs.BlockTree.{block_tree, line_tree}
use Rattle.bas_scope.specs.Bodies.{head_item}
use Rattle.bas_scope.specs.Scope.{Here}
use Rattle.bas_names.specs.Lent.{line_trees}
use Rattle.bas_names.specs.Tables.{options_told}
use Rattle.bas_names.proofs.Bodies.{container_has}
use Rattle.bas_names.proofs.Putting.{same_lines}
use Rattle.bas_names.proofs.container.container_table.Goals as goal

pub returns : goal.returns
returns c = λ outer has.
    let block = block_tree c.args.block.now in
    container_has outer (head_item (option_map (λ line. line_tree line.now) c.args.head)) block (options_told c.args.unit.now.options) (line_trees c.as_slice-2.result.now) c.new-table.result c.put_head_line.new.table c.put_declared.new.table c.put_internals.new.table c.args.unit.now.variables
    c.new-table.ensures has.options
    (ap line_trees c.as_slice-2.ensures.value ∙ c.in_ok-lines.ensures)
    (c.in_ok-put_head_line.ensures outer block has (same_lines (ap line_trees c.as_slice.ensures.value ∙ c.in_ok-lines.ensures) c.in_ok-declared.ensures))
    (c.in_ok-put_declared.ensures outer has)
    (c.in_ok-put_internals.ensures Here)
    has.variables
