-- What is pushed, and the lines that are left.
use Rattle.std.proofs.Common.{◌≡◌, ◌++◌, drop}
use Rattle.bas_ast.specs.BlockTree.{line_tree, sections_tree, stmts_tree}
use Rattle.bas_scope.specs.Lines.{lines_of_block, lines_of_sections}
use Rattle.bas_names.specs.Lent.{line_trees}
use Rattle.bas_names.proofs.lines.+gathers.Given as goal

abbrev pub invariant-push_sections-loop-section : goal.invariant-push_sections-loop-section
invariant-push_sections-loop-section l =
    line_trees l.lines.items ++ lines_of_sections l.inside (sections_tree (drop l.section-index l.sections)) (line_tree l.end)
    ≡ line_trees l.initial.lines.items ++ lines_of_sections l.inside (sections_tree l.sections) (line_tree l.end)

abbrev pub invariant-push_stmts-loop-next : goal.invariant-push_stmts-loop-next
invariant-push_stmts-loop-next l =
    line_trees l.lines.items ++ lines_of_block l.inside (stmts_tree (drop l.next-index l.stmts))
    ≡ line_trees l.initial.lines.items ++ lines_of_block l.inside (stmts_tree l.stmts)
