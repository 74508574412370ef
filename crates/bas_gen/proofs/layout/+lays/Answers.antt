-- Each part is laid out behind those before it.
use Rattle.std.proofs.Common.{◌+◌, sym, ap, ◌∙◌, arith, drop, refl}
use Rattle.std.specs.Option.{option_map}
use Rattle.bas_ast.specs.PartTree.{loopc_tree}
use Rattle.bas_ast.specs.BlockTree.{line_tree, item_tree, stmt_tree, block_tree, section_tree, sections_tree, stmts_tree}
use Rattle.bas_ast.proofs.BlockTrees.{block_out, section_out}
use Rattle.bas_carry.specs.Codes.{loopc_size, closing_size, block_size}
use Rattle.bas_carry.specs.Tables.{block_labels, closing_labels}
use Rattle.bas_genexpr.proofs.Pieces.{turn}
use Rattle.bas_gen.specs.Layouts.{goes_on}
use Rattle.bas_gen.proofs.Laying.{do_laid, stmts_turn, sections_turn, single_laid}
use Rattle.bas_gen.proofs.LayingLines.{last_of, remark_laid, other_laid, nest_laid, line_laid}
use Rattle.bas_gen.proofs.layout.+lays.Goals as goal

pub lay_block-returns : goal.lay_block-returns
lay_block-returns t c = rw (block_out, ← c.as_slice.ensures) c.lay_stmts.ensures

pub lay_section-returns-in-If : goal.lay_section-returns-in-If
lay_section-returns-in-If t c = rw (section_out, c.in-If.ensures, c.if-not-going.false) c.lay_test.ensures

pub lay_section-returns-in-Elseif : goal.lay_section-returns-in-Elseif
lay_section-returns-in-Elseif t c = rw (section_out, c.in-Elseif.ensures, c.if-not-going.false) c.lay_test-in-Elseif.ensures

pub lay_section-returns-in-Else : goal.lay_section-returns-in-Else
lay_section-returns-in-Else t c = rw (section_out, c.in-Else.ensures, c.if-not-going.false) c.lay_listed.ensures

pub lay_section-returns-in-Do : goal.lay_section-returns-in-Do
lay_section-returns-in-Do t c = rw (section_out, c.in-Do.ensures, c.if-not-going.false, ← c.number-number.ensures.same) c.lay_do.ensures

pub lay_section-returns-in-Alone : goal.lay_section-returns-in-Alone
lay_section-returns-in-Alone t c = rw (section_out, c.in-Alone.ensures, c.if-not-going.false) (single_laid c.args.layout.now c.args.from 0 0 refl)

pub lay_section-returns-in-Loop : goal.lay_section-returns-in-Loop
lay_section-returns-in-Loop t c = rw (section_out, c.in-Loop.ensures, c.if-not-going.false) (single_laid c.args.layout.now c.args.from 0 0 refl)

pub lay_section-returns-in-End : goal.lay_section-returns-in-End
lay_section-returns-in-End t c = rw (section_out, c.in-End.ensures, c.if-not-going.false) (single_laid c.args.layout.now c.args.from 0 0 refl)

pub lay_section-returns-in-Remark : goal.lay_section-returns-in-Remark
lay_section-returns-in-Remark t c = rw section_out (remark_laid c.args.going _ c.args.layout.now c.args.from _ (line_tree c.args.end.now) c.args.last _ _ _ _ c.in-Remark.ensures)

pub lay_section-returns-in-Other : goal.lay_section-returns-in-Other
lay_section-returns-in-Other t c = rw section_out (other_laid c.args.going _ c.args.layout.now c.args.from _ (line_tree c.args.end.now) c.args.last _ _ _ _ c.in-Other.ensures)

pub lay_do-returns : goal.lay_do-returns
lay_do-returns t c =
    do_laid c.args.layout.now c.put_label.new.layout c.put_label-2.new.layout c.lay_listed.new.layout c.lay_closing.new.layout c.end_label.new.layout c.len-index.result c.args.from _ c.capped_sum-head.result c.further.result c.in_ok-block.block c.capped_sum-front.result c.further-2.result _ c.capped_sum-closed.result c.capped_sum-size.result c.further-3.result c.args.number c.args.end.now.line
    (loopc_size (option_map loopc_tree c.args.loopc.now)) (block_size (block_tree c.args.body.now)) (closing_size (item_tree c.args.end.now.item)) _ (λ at. block_labels (block_tree c.args.body.now) at) (λ at. closing_labels c.args.end.now.line (item_tree c.args.end.now.item) at)
    (c.len-index.ensures ∙ c.args.layout.now.labels.ok.0) c.in_ok-put_label.ensures c.in_ok-put_label-2.ensures c.in_ok-size_of_loopc.ensures c.capped_sum-head.ensures c.further.ensures c.in_ok-block.ensures c.capped_sum-front.ensures c.further-2.ensures c.in_ok-lay_closing.ensures c.in_ok-size_of_closing.ensures c.capped_sum-closed.ensures c.capped_sum-size.ensures c.further-3.ensures c.end_label.ensures.sizes c.end_label.ensures.labels

pub lay_stmt-returns-in-Single : goal.lay_stmt-returns-in-Single
lay_stmt-returns-in-Single t c = line_laid c.args.stmt.now c.in-Single.line c.args.layout.now c.args.from _ c.in-Single.is c.size_of_single.ensures

pub lay_stmt-returns-in_ok-size-in-Nest : goal.lay_stmt-returns-in_ok-size-in-Nest
lay_stmt-returns-in_ok-size-in-Nest t c = nest_laid c.args.stmt.now c.in-Nest.sections c.as_slice.result.now c.in-Nest.end c.args.layout.now c.reserve.new.layout c.lay_sections.new.layout c.fill.new.layout c.args.from c.in_ok-at-in-Nest.at c.in_ok-size-in-Nest.size c.in-Nest.is c.as_slice.ensures c.in_ok-at-in-Nest.ensures c.in_ok-size-in-Nest.ensures c.fill.ensures

pub lay_sections-loop-section-preserved : goal.lay_sections-loop-section-preserved
lay_sections-loop-section-preserved t c =
    let i = c.loop-section.section-index in
    let left = turn c.args.sections.now i c.section-item.result c.loop-section-test.true c.section-item.is in
    record {
      count = omega arith;
      state = sections_turn c.args.layout.now c.loop-section.layout c.lay_section.new.layout c.args.from c.loop-section.size _ c.further-at.result c.in_ok-own.own c.capped_sum-size.result _ _ c.loop-section.going c.continues-going.result (sections_tree (drop i c.args.sections.now)) (section_tree c.section-item.result).0 (section_tree c.section-item.result).1 (sections_tree (drop (i + 1) c.args.sections.now)) (line_tree c.args.end.now) _ (ap sections_tree left) (last_of c.args.sections.now i _ (omega arith)) (c.continues-going.ensures ∙ ap (λ x. goes_on c.loop-section.going x.0.item) (sym (section_out c.section-item.result))) c.further-at.ensures c.in_ok-own.ensures c.capped_sum-size.ensures c.loop-section.invariant.state;
    }

pub lay_stmts-loop-next-preserved : goal.lay_stmts-loop-next-preserved
lay_stmts-loop-next-preserved t c =
    let i = c.loop-next.next-index in
    let left = turn c.args.stmts.now i c.next-item.result c.loop-next-test.true c.next-item.is in
    stmts_turn c.args.layout.now c.loop-next.layout c.put_label.new.layout c.lay_stmt.new.layout c.args.from c.loop-next.size _ c.further-at.result c.in_ok-own.own c.capped_sum-size.result _ _ (stmts_tree (drop i c.args.stmts.now)) (stmt_tree c.next-item.result) (stmts_tree (drop (i + 1) c.args.stmts.now)) (ap stmts_tree left) c.further-at.ensures (rw (← (c.number.ensures.same ∙ c.first_line.ensures)) c.in_ok-put_label.ensures) c.in_ok-own.ensures c.capped_sum-size.ensures c.loop-next.invariant
