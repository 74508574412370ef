-- Each part gets its slots behind the parts before it.
use Rattle.std.proofs.Common.{ap, drop}
use Rattle.std.proofs.lemmas.List.{drop_all}
use Rattle.std.proofs.lemmas.Result.{err_from_is_err_and}
use Rattle.bas_ast.specs.BlockTree.{stmts_tree, sections_tree}
use Rattle.bas_ast.proofs.BlockTrees.{stmt_single, block_out}
use Rattle.bas_carry.specs.Slots.{in_sections, in_block}
use Rattle.bas_genexpr.proofs.Pieces.{turn}
use Rattle.bas_genexpr.proofs.NumberLemmas.{refused_first, numbers_both, numbers_turn, refused_turn, numbers_end}
use Rattle.bas_gen.proofs.TextNames.{stmts_left, sections_left, section_parts, nest_parts}
use Rattle.bas_gen.proofs.names.+names.Goals as goal

pub number_block-returns : goal.number_block-returns
number_block-returns t c = rw (block_out, ← c.as_slice.ensures) c.number_stmts.ensures

pub number_stmts-returns-in_err-number_stmt : goal.number_stmts-returns-in_err-number_stmt
number_stmts-returns-in_err-number_stmt t c =
    let p = err_from_is_err_and c.from_residual.result c.from_residual.ensures.1 in
    rw (p.1, p.2) (refused_turn _ c.loop-next.slots _ _ _ _ (stmts_left (drop c.loop-next.next-index c.args.stmts.now) _ c.next-item.result (turn c.args.stmts.now c.loop-next.next-index c.next-item.result c.loop-next-test.true c.next-item.is)) c.loop-next.invariant c.in_err-number_stmt.ensures)

pub number_stmts-loop-next-preserved : goal.number_stmts-loop-next-preserved
number_stmts-loop-next-preserved t c = numbers_turn c.loop-next.slots c.number_stmt.new.slots _ _ _ _ (stmts_left (drop c.loop-next.next-index c.args.stmts.now) _ c.next-item.result (turn c.args.stmts.now c.loop-next.next-index c.next-item.result c.loop-next-test.true c.next-item.is)) c.in_ok-number_stmt.ensures c.loop-next.invariant

pub number_stmts-returns : goal.number_stmts-returns
number_stmts-returns t c = numbers_end c.loop-next.slots _ _ (ap (λ l. in_block (stmts_tree l)) (drop_all c.loop-next.next-index c.args.stmts.now c.loop-next-test.false)) c.loop-next.invariant

pub number_stmt-returns-in-Single : goal.number_stmt-returns-in-Single
number_stmt-returns-in-Single t c = rw (c.in-Single.is, stmt_single) c.number_line.ensures

pub number_stmt-returns-in_err-number_sections-in-Nest : goal.number_stmt-returns-in_err-number_sections-in-Nest
number_stmt-returns-in_err-number_sections-in-Nest t c =
    let p = err_from_is_err_and c.from_residual.result c.from_residual.ensures.1 in
    rw (p.1, p.2) (refused_first _ c.args.slots.now _ _ _ (nest_parts c.args.stmt.now c.as_slice.result.now _ c.in-Nest.end c.in-Nest.is c.as_slice.ensures) c.in_err-number_sections-in-Nest.ensures)

pub number_stmt-returns-in_ok-number_sections-in-Nest : goal.number_stmt-returns-in_ok-number_sections-in-Nest
number_stmt-returns-in_ok-number_sections-in-Nest t c = numbers_both c.number_line-in-Nest.result c.args.slots.now c.number_sections.new.slots c.number_line-in-Nest.new.slots _ _ _ (nest_parts c.args.stmt.now c.as_slice.result.now _ c.in-Nest.end c.in-Nest.is c.as_slice.ensures) c.in_ok-number_sections-in-Nest.ensures c.number_line-in-Nest.ensures

pub number_section-returns-in_err-number_line : goal.number_section-returns-in_err-number_line
number_section-returns-in_err-number_line t c =
    let p = err_from_is_err_and c.from_residual.result c.from_residual.ensures.1 in
    rw (p.1, p.2) (refused_first _ c.args.slots.now _ _ _ (section_parts c.args.section.now) c.in_err-number_line.ensures)

pub number_section-returns : goal.number_section-returns
number_section-returns t c = numbers_both c.number_block.result c.args.slots.now c.number_line.new.slots c.number_block.new.slots _ _ _ (section_parts c.args.section.now) c.in_ok-number_line.ensures c.number_block.ensures

pub number_sections-returns-in_err-number_section : goal.number_sections-returns-in_err-number_section
number_sections-returns-in_err-number_section t c =
    let p = err_from_is_err_and c.from_residual.result c.from_residual.ensures.1 in
    rw (p.1, p.2) (refused_turn _ c.loop-section.slots _ _ _ _ (sections_left (drop c.loop-section.section-index c.args.sections.now) _ c.section-item.result (turn c.args.sections.now c.loop-section.section-index c.section-item.result c.loop-section-test.true c.section-item.is)) c.loop-section.invariant c.in_err-number_section.ensures)

pub number_sections-loop-section-preserved : goal.number_sections-loop-section-preserved
number_sections-loop-section-preserved t c = numbers_turn c.loop-section.slots c.number_section.new.slots _ _ _ _ (sections_left (drop c.loop-section.section-index c.args.sections.now) _ c.section-item.result (turn c.args.sections.now c.loop-section.section-index c.section-item.result c.loop-section-test.true c.section-item.is)) c.in_ok-number_section.ensures c.loop-section.invariant

pub number_sections-returns : goal.number_sections-returns
number_sections-returns t c = numbers_end c.loop-section.slots _ _ (ap (λ l. in_sections (sections_tree l)) (drop_all c.loop-section.section-index c.args.sections.now c.loop-section-test.false)) c.loop-section.invariant
