-- What is made, with what is left, is the whole.
use Rattle.std.proofs.Common.{◌≡◌, ◌+◌, ◌≤◌, [], drop, length}
use Rattle.bas_ast.specs.BlockTree.{sections_tree, stmts_tree, line_tree}
use Rattle.bas_carry.specs.Codes.{sections_size, block_size, sections_code, block_code}
use Rattle.bas_carry.specs.Tables.{sections_rows, block_rows}
use Rattle.bas_genexpr.specs.Counts.{code_limit}
use Rattle.bas_genexpr.specs.Numbering.{variables}
use Rattle.bas_gen.specs.Addresses.{address_at}
use Rattle.bas_gen.specs.Emitting.{around_of}
use Rattle.bas_gen.specs.Layouts.{block_list, sections_list, if_going}
use Rattle.bas_gen.proofs.Making.{Making}
use Rattle.bas_gen.proofs.emit.+emits.Given as goal

abbrev pub invariant-emit_stmts-loop-next : goal.invariant-emit_stmts-loop-next
invariant-emit_stmts-loop-next l =
    let all = stmts_tree l.stmts in
    let left = stmts_tree (drop l.next-index l.stmts) in
    let order = variables l.slots in
    let addr = address_at l.targets in
    let around = around_of l.do_line in
    Making l.initial.output l.output (block_list all) (block_list left) (block_size all) (block_size left) (λ from. block_code order addr around all from) (λ from. block_code order addr around left from) (λ from. block_rows all from) (λ from. block_rows left from)

abbrev pub invariant-emit_sections-loop-section : goal.invariant-emit_sections-loop-section
invariant-emit_sections-loop-section l =
    let all = sections_tree l.sections in
    let left = sections_tree (drop l.section-index l.sections) in
    let close = line_tree l.end in
    let order = variables l.slots in
    let addr = address_at l.targets in
    let around = around_of l.do_line in
    record {
      count : l.left + l.section-index ≡ length l.sections;
      state : l.finish ≤ code_limit → Making l.initial.output l.output (sections_list all) (if_going l.going (sections_list left) []) (sections_size all close) (if_going l.going (sections_size left close) 0) (λ from. sections_code order addr around all close from l.finish) (λ from. if_going l.going (sections_code order addr around left close from l.finish) []) (λ from. sections_rows all close from l.finish) (λ from. if_going l.going (sections_rows left close from l.finish) []);
    }
