-- The block has no statements, so the line is alone.
use Rattle.bas_ast.proofs.BlockTrees.{block_roll}
use Rattle.bas_place.proofs.body.definition_top.Goals as goal

pub returns : goal.returns
returns c = rw (block_roll, c.new.ensures) at c.program.ensures
