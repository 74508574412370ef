-- The equations of the plain trees of what stands on a line.
use Rattle.std.specs.Prelude.{◌≡◌, ℕ, List}
use Rattle.bas_ast.specs.Tree as t
use Rattle.bas_ast.specs.DeclarationTree.{decl_tree}
use Rattle.bas_ast.specs.PartTree.{part_tree}
use Rattle.bas_ast.specs.StatementTree.{simple_tree}
use Rattle.bas_ast.specs.BlockTree.{item_tree}
use Rattle.bas_ast.specs.declared.statement.Simple.{Simple}
use Rattle.bas_ast.specs.declared.part.Part.{Part}
use Rattle.bas_ast.specs.declared.declaration.Decl.{Decl}
use Rattle.bas_ast.specs.declared.block.LineItem.TheVariants as item

-- the plain tree of each alternative is its own alternative with the plain trees of its parts
pub record LineEquations : Type 0 where
  pub line_item_nothing : item_tree item.Nothing ≡ t.Nothing
  pub line_item_rem : (bytes : List ℕ) → item_tree (item.Rem bytes) ≡ t.Rem bytes
  pub line_item_simple : (x : Simple) → item_tree (item.Simple x) ≡ t.OfSimple (simple_tree x)
  pub line_item_part : (x : Part) → item_tree (item.Part x) ≡ t.OfPart (part_tree x)
  pub line_item_decl : (x : Decl) → item_tree (item.Decl x) ≡ t.OfDecl (decl_tree x)
