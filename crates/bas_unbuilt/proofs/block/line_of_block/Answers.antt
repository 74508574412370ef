-- The line with which a block begins.
use Rattle.std.proofs.Common.{ap, sym, ◌∙◌}
use Rattle.bas_ast.specs.BlockTree.{stmts_tree}
use Rattle.bas_ast.proofs.BlockTrees.{block_out}
use Rattle.bas_unbuilt.specs.Unbuilt.{line_of_block}
use Rattle.bas_unbuilt.proofs.block.line_of_block.Goals as goal

pub returns : goal.returns
returns c = c.line_of_stmts.ensures ∙ ap (λ x. line_of_block (stmts_tree x)) c.as_slice.ensures ∙ ap line_of_block (sym (block_out c.args.block.now))
