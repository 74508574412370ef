-- The whole is closed where what is left is.
use Rattle.std.proofs.Common.{◌≡◌, drop}
use Rattle.bas_ast.specs.BlockTree.{item_tree, sections_tree}
use Rattle.bas_unbuilt.specs.Unbuilt.{are_closed}
use Rattle.bas_unbuilt.proofs.block.are_closed.Given as goal

abbrev pub invariant-loop-section : goal.invariant-loop-section
invariant-loop-section l = are_closed (sections_tree (drop l.section-index l.sections)) (item_tree l.close) ≡ are_closed (sections_tree l.sections) (item_tree l.close)
