-- Each part appends its code and its lines behind those before it.
use Rattle.std.proofs.Common.{◌≡◌, ◌+◌, [], length, sym, ap, ◌∙◌, arith, drop, refl, Some, ◌≤◌}
use Rattle.std.specs.Option.{option_map}
use Rattle.std.proofs.lemmas.List.{drop_all}
use Rattle.std.proofs.lemmas.Result.{on_ok_weaker}
use Rattle.bas_ast.specs.Tree.{NoSections}
use Rattle.bas_ast.specs.ConditionTree.{cond_tree}
use Rattle.bas_ast.specs.PartTree.{loopc_tree}
use Rattle.bas_ast.specs.BlockTree.{line_tree, item_tree, stmt_tree, block_tree, section_tree, sections_tree, stmts_tree}
use Rattle.bas_ast.proofs.BlockTrees.{block_out, section_out, stmt_single, stmt_nest}
use Rattle.bas_carry.specs.Codes.{sections_size, block_size, sections_code, block_code}
use Rattle.bas_carry.specs.Tables.{sections_rows, block_rows}
use Rattle.bas_genexpr.specs.Counts.{code_limit}
use Rattle.bas_genexpr.specs.Numbering.{variables}
use Rattle.bas_genexpr.proofs.Pieces.{turn}
use Rattle.bas_gen.specs.Addresses.{address_at}
use Rattle.bas_gen.specs.Emitting.{around_of}
use Rattle.bas_gen.specs.Layouts.{goes_on, if_going, sections_list, block_list}
use Rattle.bas_gen.proofs.Laying.{none_going}
use Rattle.bas_gen.proofs.LayingLines.{last_of}
use Rattle.bas_gen.proofs.Making.{making_end}
use Rattle.bas_gen.proofs.MakingSections.{stmts_made, sections_made, nothing_emits, remark_emits, other_emits, going_on}
use Rattle.bas_gen.proofs.MakingLines.{listed_emits, test_emits, do_emits, nest_emits, closing_small}
use Rattle.bas_gen.proofs.emit.+emits.Goals as goal

pub emit_block-returns : goal.emit_block-returns
emit_block-returns t c = rw (block_out, ← c.as_slice.ensures) c.emit_stmts.ensures

pub emit_stmts-loop-next-preserved : goal.emit_stmts-loop-next-preserved
emit_stmts-loop-next-preserved t c =
    let i = c.loop-next.next-index in
    let left = turn c.args.stmts.now i c.next-item.result c.loop-next-test.true c.next-item.is in
    let all = stmts_tree c.args.stmts.now in
    stmts_made (variables c.args.slots.now) (address_at c.args.targets.now) (around_of c.args.do_line) c.args.output.now c.loop-next.output c.emit_stmt.new.output (block_list all) (block_size all) (λ from. block_code (variables c.args.slots.now) (address_at c.args.targets.now) (around_of c.args.do_line) all from) (λ from. block_rows all from) (stmts_tree (drop i c.args.stmts.now)) (stmt_tree c.next-item.result) (stmts_tree (drop (i + 1) c.args.stmts.now)) (ap stmts_tree left) c.loop-next.invariant c.in_ok-emit_stmt.ensures

pub emit_section-returns-in-If : goal.emit_section-returns-in-If
emit_section-returns-in-If t c = rw (section_out, c.in-If.ensures, going_on c.args.spot.going c.if-not-spot.false) c.emit_test.ensures

pub emit_section-returns-in-Elseif : goal.emit_section-returns-in-Elseif
emit_section-returns-in-Elseif t c = rw (section_out, c.in-Elseif.ensures, going_on c.args.spot.going c.if-not-spot.false) c.emit_test-in-Elseif.ensures

pub emit_section-returns-in-Else : goal.emit_section-returns-in-Else
emit_section-returns-in-Else t c = rw (section_out, c.in-Else.ensures, going_on c.args.spot.going c.if-not-spot.false) (on_ok_weaker c.emit_listed.result (λ e h. e) c.emit_listed.ensures)

pub emit_section-returns-in-Do : goal.emit_section-returns-in-Do
emit_section-returns-in-Do t c = rw (section_out, c.in-Do.ensures, going_on c.args.spot.going c.if-not-spot.false) c.emit_do.ensures

pub emit_section-returns-in-Alone : goal.emit_section-returns-in-Alone
emit_section-returns-in-Alone t c = rw (section_out, c.in-Alone.ensures, going_on c.args.spot.going c.if-not-spot.false) (λ h. nothing_emits c.args.output.now)

pub emit_section-returns-in-Loop : goal.emit_section-returns-in-Loop
emit_section-returns-in-Loop t c = rw (section_out, c.in-Loop.ensures, going_on c.args.spot.going c.if-not-spot.false) (λ h. nothing_emits c.args.output.now)

pub emit_section-returns-in-End : goal.emit_section-returns-in-End
emit_section-returns-in-End t c = rw (section_out, c.in-End.ensures, going_on c.args.spot.going c.if-not-spot.false) (λ h. nothing_emits c.args.output.now)

pub emit_section-returns-in-Remark : goal.emit_section-returns-in-Remark
emit_section-returns-in-Remark t c = rw section_out (λ h. remark_emits c.args.spot.going _ (variables c.args.slots.now) (address_at c.args.targets.now) (around_of c.args.spot.do_line) _ (line_tree c.args.end.now) c.args.spot.last _ _ c.args.spot.finish _ _ _ c.args.output.now c.in-Remark.ensures)

pub emit_section-returns-in-Other : goal.emit_section-returns-in-Other
emit_section-returns-in-Other t c = rw section_out (λ h. other_emits c.args.spot.going _ (variables c.args.slots.now) (address_at c.args.targets.now) (around_of c.args.spot.do_line) _ (line_tree c.args.end.now) c.args.spot.last _ _ c.args.spot.finish _ _ _ c.args.output.now c.in-Other.ensures)

pub emit_test-returns : goal.emit_test-returns
emit_test-returns t c =
    on_ok_weaker c.put_part_end.result
    (λ e h. test_emits (variables c.args.slots.now) (address_at c.args.targets.now) (around_of c.args.spot.do_line) c.args.line (cond_tree c.args.c.now) (block_tree c.args.body.now) c.args.spot.last c.args.spot.finish
    c.args.output.now c.next_size-block.new.output (record { code = c.put_aimed.new.code; lines = c.next_size-block.new.output.lines; sizes = c.next_size-block.new.output.sizes }) c.enter.new.output c.emit_block.new.output (record { code = c.put_part_end.new.code; lines = c.emit_block.new.output.lines; sizes = c.emit_block.new.output.sizes })
    c.push.new.self c.put_aimed.new.code c.next_size-block.result c.in_ok-cond.cond c.len-head.result c.len-start.result c.len-end.result c.size_of_part_end.result c.behind.result c.behind-2.result c.behind-to.result c.narrowed.result
    c.len-start.ensures c.next_size-block.ensures c.in_ok-cond.ensures c.in_ok-push.ensures c.len-head.ensures c.behind.ensures c.behind-2.ensures c.size_of_part_end.ensures c.behind-to.ensures c.narrowed.ensures c.in_ok-put_aimed.ensures refl refl refl c.len-end.ensures c.in_ok-enter.ensures c.in_ok-emit_block.ensures e refl refl h)
    c.put_part_end.ensures

pub emit_do-returns : goal.emit_do-returns
emit_do-returns t c =
    let e = c.number-number.ensures.same in
    on_ok_weaker c.enter_closing.result
    (λ closes h. do_emits (variables c.args.slots.now) (address_at c.args.targets.now) (around_of (Some c.args.line)) c.args.line (option_map loopc_tree c.args.loopc.now) (block_tree c.args.body.now) (line_tree c.args.end.now) c.args.finish
    c.args.output.now (record { code = c.put_loopc.new.code; lines = c.args.output.now.lines; sizes = c.args.output.now.sizes }) c.enter.new.output c.emit_listed.new.output (record { code = c.push-2.new.self; lines = c.emit_listed.new.output.lines; sizes = c.emit_listed.new.output.sizes }) c.enter_closing.new.output
    c.push.new.self c.put_loopc.new.code c.put_closing.new.code c.push-2.new.self c.len-start.result c.len-head.result c.len-from.result c.narrowed.result c.narrowed-2.result
    c.len-start.ensures c.in_ok-push.ensures c.narrowed.ensures c.in_ok-put_loopc.ensures refl refl refl c.len-head.ensures c.in_ok-enter.ensures (rw e at c.in_ok-emit_listed.ensures) c.len-from.ensures (rw e at c.in_ok-put_closing.ensures) c.narrowed-2.ensures c.in_ok-push-2.ensures refl refl refl closes h (closing_small (item_tree c.args.end.now.item)))
    c.enter_closing.ensures

pub emit_listed-returns : goal.emit_listed-returns
emit_listed-returns t c = on_ok_weaker c.emit_block.result (listed_emits (variables c.args.slots.now) (address_at c.args.targets.now) (around_of c.args.do_line) (block_tree c.args.body.now) c.args.output.now c.next_size.new.output c.emit_block.new.output c.next_size.result c.next_size.ensures) c.emit_block.ensures

pub emit_sections-loop-section-preserved : goal.emit_sections-loop-section-preserved
emit_sections-loop-section-preserved t c =
    let i = c.loop-section.section-index in
    let left = turn c.args.sections.now i c.section-item.result c.loop-section-test.true c.section-item.is in
    record {
      count = omega arith;
      state = λ h. let all = sections_tree c.args.sections.now in
          sections_made (variables c.args.slots.now) (address_at c.args.targets.now) (around_of c.args.do_line) (section_tree c.section-item.result).0 (section_tree c.section-item.result).1 (sections_tree (drop (i + 1) c.args.sections.now)) (line_tree c.args.end.now) _ (last_of c.args.sections.now i _ (omega arith)) c.next_size.new.output c.loop-section.output c.emit_section.new.output (sections_list all) (sections_size all (line_tree c.args.end.now)) _ (λ from. sections_code (variables c.args.slots.now) (address_at c.args.targets.now) (around_of c.args.do_line) all (line_tree c.args.end.now) from c.behind-finish.result) (λ from. sections_rows all (line_tree c.args.end.now) from c.behind-finish.result) c.loop-section.going c.continues-going.result (sections_tree (drop i c.args.sections.now)) (ap sections_tree left) (c.continues-going.ensures ∙ ap (λ x. goes_on c.loop-section.going x.0.item) (sym (section_out c.section-item.result))) (c.loop-section.invariant.state h) (c.in_ok-emit_section.ensures h);
    }

pub emit_sections-returns : goal.emit_sections-returns
emit_sections-returns t c =
    let order = variables c.args.slots.now in
    let addr = address_at c.args.targets.now in
    let around = around_of c.args.do_line in
    let all = sections_tree c.args.sections.now in
    let close = line_tree c.args.end.now in
    let finish = c.behind-finish.result in
    let going = c.loop-section.going in
    let left = sections_tree (drop c.loop-section.section-index c.args.sections.now) in
    let none : left ≡ NoSections = ap sections_tree (drop_all c.loop-section.section-index c.args.sections.now c.loop-section-test.false) in
    nest_emits order addr around all close (sections_list all) (λ from to. sections_code order addr around all close from to) (λ from to. sections_rows all close from to) c.args.output.now c.next_size.new.output c.loop-section.output c.next_size.result finish c.next_size.ensures
    (λ h. c.behind-finish.ensures (let q : c.len-from.result + c.next_size.result ≤ code_limit = omega arith in q) ∙ ap (λ k. k + c.next_size.result) c.len-from.ensures)
    (λ h. making_end c.next_size.new.output c.loop-section.output (sections_list all) (if_going going (sections_list left) []) (sections_size all close) (if_going going (sections_size left close) 0) (λ from. sections_code order addr around all close from finish) (λ from. if_going going (sections_code order addr around left close from finish) []) (λ from. sections_rows all close from finish) (λ from. if_going going (sections_rows left close from finish) [])
    (none_going going _ [] (ap sections_list none)) (none_going going _ [] (ap (λ x. sections_code order addr around x close (length c.loop-section.output.code) finish) none)) (none_going going _ [] (ap (λ x. sections_rows x close (length c.loop-section.output.code) finish) none)) (c.loop-section.invariant.state h))

pub emit_stmt-returns-in-Single : goal.emit_stmt-returns-in-Single
emit_stmt-returns-in-Single t c = rw (c.in-Single.is, stmt_single) c.emit_single.ensures

pub emit_stmt-returns-in-Nest : goal.emit_stmt-returns-in-Nest
emit_stmt-returns-in-Nest t c = rw (c.in-Nest.is, stmt_nest, ← c.as_slice.ensures) c.emit_sections.ensures
