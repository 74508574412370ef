-- A block is its statements.
use Rattle.bas_ast.proofs.BlockTrees.{block_out}
use Rattle.bas_names.proofs.procedure.put_internals.Goals as goal

pub returns : goal.returns
returns c = rw (block_out, ← c.as_slice.ensures) c.put_internals_in.ensures
