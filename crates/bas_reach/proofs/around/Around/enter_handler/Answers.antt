-- The lines of the handler alone.
use Rattle.bas_ast.specs.BlockTree.{block_tree}
use Rattle.bas_rules.specs.Sites.{counted_lines}
use Rattle.bas_reach.proofs.Layers.{tells_outermost}
use Rattle.bas_reach.proofs.around.Around.enter_handler.Goals as goal

pub returns : goal.returns
returns c = λ a. tells_outermost c.outermost.result c.in_ok-lines.lines _ (counted_lines (block_tree c.args.block.now)) c.outermost.ensures c.in_ok-lines.ensures
