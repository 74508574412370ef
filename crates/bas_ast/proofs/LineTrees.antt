-- The equations of the plain trees of what stands on a line.
use Rattle.std.proofs.Common.{◌≡◌, ℕ, List, refl}
use Rattle.bas_ast.specs.Tree as t
use Rattle.bas_ast.specs.DeclarationTree.{decl_tree}
use Rattle.bas_ast.specs.PartTree.{part_tree}
use Rattle.bas_ast.specs.StatementTree.{simple_tree}
use Rattle.bas_ast.specs.BlockTree.{item_tree}
use Rattle.bas_ast.specs.declared.statement.Simple.{Simple}
use Rattle.bas_ast.specs.declared.part.Part.{Part}
use Rattle.bas_ast.specs.declared.declaration.Decl.{Decl}
use Rattle.bas_ast.specs.declared.block.LineItem.TheVariants as item
use Rattle.bas_ast.specs.LineEquations.{LineEquations}

pub line_item_nothing : item_tree item.Nothing ≡ t.Nothing
unfolding item_tree
line_item_nothing = refl

pub line_item_rem : (bytes : List ℕ) → item_tree (item.Rem bytes) ≡ t.Rem bytes
unfolding item_tree
line_item_rem bytes = refl

pub line_item_simple : (x : Simple) → item_tree (item.Simple x) ≡ t.OfSimple (simple_tree x)
unfolding item_tree
line_item_simple x = refl

pub line_item_part : (x : Part) → item_tree (item.Part x) ≡ t.OfPart (part_tree x)
unfolding item_tree
line_item_part x = refl

pub line_item_decl : (x : Decl) → item_tree (item.Decl x) ≡ t.OfDecl (decl_tree x)
unfolding item_tree
line_item_decl x = refl

pub ruleset line_trees = (line_item_nothing, line_item_rem, line_item_simple, line_item_part, line_item_decl)

pub line_equations : LineEquations
line_equations = record { line_item_nothing = line_item_nothing; line_item_rem = line_item_rem; line_item_simple = line_item_simple; line_item_part = line_item_part; line_item_decl = line_item_decl }
