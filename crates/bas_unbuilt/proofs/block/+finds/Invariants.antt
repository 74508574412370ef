-- What is left tells of the whole.
use Rattle.std.proofs.Common.{◌≡◌, drop}
use Rattle.bas_ast.specs.BlockTree.{sections_tree, stmts_tree}
use Rattle.bas_unbuilt.specs.Unbuilt.{unbuilt_in_sections, unbuilt_in_block}
use Rattle.bas_unbuilt.proofs.block.+finds.Given as goal

abbrev pub invariant-unbuilt_in_sections-loop-section : goal.invariant-unbuilt_in_sections-loop-section
invariant-unbuilt_in_sections-loop-section l = unbuilt_in_sections (sections_tree (drop l.section-index l.sections)) ≡ unbuilt_in_sections (sections_tree l.sections)

abbrev pub invariant-unbuilt_in_stmts-loop-next : goal.invariant-unbuilt_in_stmts-loop-next
invariant-unbuilt_in_stmts-loop-next l = unbuilt_in_block (stmts_tree (drop l.next-index l.stmts)) ≡ unbuilt_in_block (stmts_tree l.stmts)
