-- The equations of the plain trees of blocks.
use Rattle.std.specs.Prelude.{◌≡◌, List}
use Rattle.bas_ast.specs.Tree as t
use Rattle.bas_ast.specs.BlockTree.{line_tree, stmt_tree, block_tree, section_tree, sections_tree, stmts_tree}
use Rattle.bas_ast.specs.declared.block.NumLine.{NumLine}
use Rattle.bas_ast.specs.declared.block.Stmt.{Stmt}
use Rattle.bas_ast.specs.declared.block.Block.{Block, Block-F, roll-Block, out-Block}
use Rattle.bas_ast.specs.declared.block.Section.{Section, Section-F, roll-Section, out-Section}
use Rattle.bas_ast.specs.declared.block.Stmt as stmt_form

-- a form's plain tree has the plain trees of its parts; a struct is told as it is made and as it is opened
pub record BlockEquations : Type 0 where
  pub stmt_single : (line : NumLine) → stmt_tree (stmt_form.Single line) ≡ t.Single (line_tree line)
  pub stmt_nest : (sections : List Section) (end : NumLine) → stmt_tree (stmt_form.Nest sections end) ≡ t.Nest (sections_tree sections) (line_tree end)
  pub block_roll : (x : Block-F Stmt Block Section) → block_tree (roll-Block x) ≡ stmts_tree x.stmts
  pub block_out : (x : Block) → block_tree x ≡ stmts_tree (out-Block x).stmts
  pub section_roll : (x : Section-F Stmt Block Section) → section_tree (roll-Section x) ≡ (line_tree x.head, block_tree x.body)
  pub section_out : (x : Section) → section_tree x ≡ (line_tree (out-Section x).head, block_tree (out-Section x).body)
