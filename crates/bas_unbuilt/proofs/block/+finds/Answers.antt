-- The first line of each part, in the order of the lines.
use Rattle.std.proofs.Common.{sym, ap, ◌∙◌}
use Rattle.bas_ast.specs.BlockTree.{stmt_tree, stmts_tree}
use Rattle.bas_ast.proofs.BlockTrees.{stmt_single, block_out, section_out}
use Rattle.bas_unbuilt.specs.Unbuilt.{unless_built, unbuilt_in_stmt, unbuilt_in_block, unbuilt_in_section}
use Rattle.bas_unbuilt.proofs.Lines.{head_built, head_unbuilt, nest_first, nest_second}
use Rattle.bas_unbuilt.proofs.block.+finds.Goals as goal

pub unbuilt_in_block-returns : goal.unbuilt_in_block-returns
unbuilt_in_block-returns t c = c.unbuilt_in_stmts.ensures ∙ ap (λ x. unbuilt_in_block (stmts_tree x)) c.as_slice.ensures ∙ ap unbuilt_in_block (sym (block_out c.args.block.now))

pub unbuilt_in_section-returns-then-is_built_head : goal.unbuilt_in_section-returns-then-is_built_head
unbuilt_in_section-returns-then-is_built_head t c = head_built _ _ _ _ _ c.is_built_head.ensures c.if-is_built_head.true c.unbuilt_in_block.ensures ∙ ap unbuilt_in_section (sym (section_out c.args.section.now))

pub unbuilt_in_section-returns-else-is_built_head : goal.unbuilt_in_section-returns-else-is_built_head
unbuilt_in_section-returns-else-is_built_head t c = head_unbuilt _ _ _ _ c.is_built_head.ensures c.if-is_built_head.false ∙ ap unbuilt_in_section (sym (section_out c.args.section.now))

pub unbuilt_in_stmt-returns-in-Single : goal.unbuilt_in_stmt-returns-in-Single
unbuilt_in_stmt-returns-in-Single t c = c.unless_built.ensures ∙ ap (λ b. unless_built b c.in-Single.line.line) c.is_built_line.ensures ∙ ap unbuilt_in_stmt (sym (ap stmt_tree c.in-Single.is ∙ stmt_single _))

pub unbuilt_in_stmt-returns-in-Some : goal.unbuilt_in_stmt-returns-in-Some
unbuilt_in_stmt-returns-in-Some t c = nest_first c.args.stmt.now _ c.as_slice.result.now c.in-Nest.end _ c.in-Nest.is c.as_slice.ensures c.in-Some.ensures

pub unbuilt_in_stmt-returns-in-None : goal.unbuilt_in_stmt-returns-in-None
unbuilt_in_stmt-returns-in-None t c = nest_second c.args.stmt.now _ c.as_slice.result.now c.as_slice-in-None.result.now c.in-Nest.end c.are_closed.result _ c.in-Nest.is c.as_slice.ensures c.as_slice-in-None.ensures c.in-None.ensures c.are_closed.ensures c.unless_built-in-None.ensures
