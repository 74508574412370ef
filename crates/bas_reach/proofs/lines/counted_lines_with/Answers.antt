-- The last line, and then the statements.
use Rattle.std.specs.Option.{option_to_list}
use Rattle.bas_ast.specs.BlockTree.{stmts_tree}
use Rattle.bas_rules.specs.Sites.{counted_lines}
use Rattle.bas_reach.proofs.Counting.{both_added, block_counts}
use Rattle.bas_reach.proofs.lines.counted_lines_with.Goals as goal

pub returns : goal.returns
returns c =
    block_counts c.args.block.now c.as_slice.result.now c.insert_lines.new.set (option_to_list c.args.last) c.as_slice.ensures
    (both_added c.new-set.result c.insert_line.new.set c.insert_lines.new.set (counted_lines (stmts_tree c.as_slice.result.now)) (option_to_list c.args.last) c.new-set.ensures.empty c.in_ok-insert_line.ensures c.in_ok-insert_lines.ensures)
