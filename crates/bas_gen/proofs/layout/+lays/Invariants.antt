-- What is laid out, with what is left, is the whole.
use Rattle.std.proofs.Common.{◌≡◌, ◌+◌, [], drop, length}
use Rattle.bas_ast.specs.BlockTree.{sections_tree, stmts_tree, line_tree}
use Rattle.bas_carry.specs.Codes.{sections_size, block_size}
use Rattle.bas_carry.specs.Tables.{block_labels, sections_labels}
use Rattle.bas_gen.specs.Layouts.{block_list, sections_list, if_going}
use Rattle.bas_gen.proofs.Laying.{Left}
use Rattle.bas_gen.proofs.layout.+lays.Given as goal

abbrev pub invariant-lay_stmts-loop-next : goal.invariant-lay_stmts-loop-next
invariant-lay_stmts-loop-next l =
    Left l.initial.layout l.layout l.from l.size (block_size (stmts_tree l.stmts)) (block_size (stmts_tree (drop l.next-index l.stmts))) (block_list (stmts_tree l.stmts)) (block_list (stmts_tree (drop l.next-index l.stmts))) (block_labels (stmts_tree l.stmts) l.from) (λ f. block_labels (stmts_tree (drop l.next-index l.stmts)) f)

abbrev pub invariant-lay_sections-loop-section : goal.invariant-lay_sections-loop-section
invariant-lay_sections-loop-section l =
    let all = sections_tree l.sections in
    let left = sections_tree (drop l.section-index l.sections) in
    let close = line_tree l.end in
    let finish = l.from + sections_size all close in
    record {
      count : l.left + l.section-index ≡ length l.sections;
      state : Left l.initial.layout l.layout l.from l.size (sections_size all close) (if_going l.going (sections_size left close) 0) (sections_list all) (if_going l.going (sections_list left) []) (sections_labels all close l.from finish) (λ f. if_going l.going (sections_labels left close f finish) []);
    }
