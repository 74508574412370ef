-- The equations of the plain trees of blocks.
use Rattle.std.proofs.Common.{◌≡◌, List, [], ◌∷◌, map, refl, ap, sym, ◌∙◌}
use Rattle.bas_ast.specs.Tree as t
use Rattle.bas_ast.specs.BlockTree.{line_tree, stmt_tree, block_tree, section_tree, sections_tree, stmts_tree}
use Rattle.bas_ast.specs.declared.block.NumLine.{NumLine}
use Rattle.bas_ast.specs.declared.block.Stmt.{Stmt}
use Rattle.bas_ast.specs.declared.block.Block.{Block, Block-F, roll-Block, out-Block}
use Rattle.bas_ast.specs.declared.block.Section.{Section, Section-F, roll-Section, out-Section}
use Rattle.bas_ast.specs.declared.block.Stmt as stmt_form
use Rattle.bas_ast.specs.BlockTree.{sections_of, stmts_of, stmt_of, block_of, section_of}
use Rattle.bas_ast.specs.declared.block.Stmt.{fold-roll-Stmt}
use Rattle.bas_ast.specs.declared.block.Block.{fold-roll-Block, fold_out-Block}
use Rattle.bas_ast.specs.declared.block.Section.{fold-roll-Section, fold_out-Section}
use Rattle.bas_ast.specs.declared.block.Stmt.TheOpen as layer
use Rattle.bas_ast.specs.declared.block.Stmt.TheVariants as stmt_rolls
use Rattle.bas_ast.specs.BlockEquations.{BlockEquations}

sections_rows : (xs : List Section) → sections_of (map section_tree xs) ≡ sections_tree xs
sections_rows [] = refl
sections_rows (x ∷ xs) = ap (t.MoreSections (section_tree x).0 (section_tree x).1) (sections_rows xs)

stmts_rows : (xs : List Stmt) → stmts_of (map stmt_tree xs) ≡ stmts_tree xs
stmts_rows [] = refl
stmts_rows (x ∷ xs) = ap (t.MoreStmts (stmt_tree x)) (stmts_rows xs)

pub stmt_single : (line : NumLine) → stmt_tree (stmt_form.Single line) ≡ t.Single (line_tree line)
unfolding stmt_tree block_tree section_tree
stmt_single line = ap stmt_tree (sym (stmt_rolls.rolls-Single line)) ∙ fold-roll-Stmt t.Stmt t.Block (t.NumLine × t.Block) stmt_of block_of section_of (layer.Single line)

pub stmt_nest : (sections : List Section) (end : NumLine) → stmt_tree (stmt_form.Nest sections end) ≡ t.Nest (sections_tree sections) (line_tree end)
unfolding stmt_tree block_tree section_tree
stmt_nest sections end = ap stmt_tree (sym (stmt_rolls.rolls-Nest sections end)) ∙ fold-roll-Stmt t.Stmt t.Block (t.NumLine × t.Block) stmt_of block_of section_of (layer.Nest sections end) ∙ ap (λ x. t.Nest x (line_tree end)) (sections_rows sections)

pub block_roll : (x : Block-F Stmt Block Section) → block_tree (roll-Block x) ≡ stmts_tree x.stmts
unfolding stmt_tree block_tree section_tree
block_roll x = fold-roll-Block t.Stmt t.Block (t.NumLine × t.Block) stmt_of block_of section_of x ∙ stmts_rows x.stmts

pub block_out : (x : Block) → block_tree x ≡ stmts_tree (out-Block x).stmts
unfolding stmt_tree block_tree section_tree
block_out x = fold_out-Block t.Stmt t.Block (t.NumLine × t.Block) stmt_of block_of section_of x ∙ stmts_rows (out-Block x).stmts

pub section_roll : (x : Section-F Stmt Block Section) → section_tree (roll-Section x) ≡ (line_tree x.head, block_tree x.body)
unfolding stmt_tree block_tree section_tree
section_roll x = fold-roll-Section t.Stmt t.Block (t.NumLine × t.Block) stmt_of block_of section_of x

pub section_out : (x : Section) → section_tree x ≡ (line_tree (out-Section x).head, block_tree (out-Section x).body)
unfolding stmt_tree block_tree section_tree
section_out x = fold_out-Section t.Stmt t.Block (t.NumLine × t.Block) stmt_of block_of section_of x

pub ruleset block_trees = (stmt_single, stmt_nest, block_roll, block_out, section_roll, section_out)

pub block_equations : BlockEquations
block_equations = record { stmt_single = stmt_single; stmt_nest = stmt_nest; block_roll = block_roll; block_out = block_out; section_roll = section_roll; section_out = section_out }
