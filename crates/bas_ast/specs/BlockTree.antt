-- The plain trees of lines and blocks: each layer with the plain trees of its parts in their places.
use Rattle.std.specs.Prelude.{List, [], ◌∷◌}
use Rattle.bas_ast.specs.Tree as t
use Rattle.bas_ast.specs.StatementTree.{simple_tree}
use Rattle.bas_ast.specs.PartTree.{part_tree}
use Rattle.bas_ast.specs.DeclarationTree.{decl_tree}
use Rattle.bas_ast.specs.declared.block.LineItem.{LineItem}
use Rattle.bas_ast.specs.declared.block.LineItem.TheVariants as item
use Rattle.bas_ast.specs.declared.block.NumLine.{NumLine}
use Rattle.bas_ast.specs.declared.block.Stmt.{Stmt, Stmt-F, fold-Stmt}
use Rattle.bas_ast.specs.declared.block.Stmt.TheOpen as layer
use Rattle.bas_ast.specs.declared.block.Block.{Block, Block-F, fold-Block}
use Rattle.bas_ast.specs.declared.block.Section.{Section, Section-F, fold-Section}

-- the plain tree of what stands on a line
unfoldable pub item_tree : LineItem → t.LineItem
item_tree item.Nothing = t.Nothing
item_tree (item.Rem bytes) = t.Rem bytes
item_tree (item.Simple x) = t.OfSimple (simple_tree x)
item_tree (item.Part x) = t.OfPart (part_tree x)
item_tree (item.Decl x) = t.OfDecl (decl_tree x)

-- the plain tree of a numbered line
abbrev pub line_tree : NumLine → t.NumLine
line_tree x = record { line = x.line; item = item_tree x.item }

-- plain trees in a row; a section is its first line and its block
abbrev pub sections_of : List (t.NumLine × t.Block) → t.Sections
sections_of [] = t.NoSections
sections_of (x ∷ xs) = t.MoreSections x.0 x.1 (sections_of xs)

abbrev pub stmts_of : List t.Stmt → t.Block
stmts_of [] = t.NoStmts
stmts_of (x ∷ xs) = t.MoreStmts x (stmts_of xs)

-- a layer of each type, with plain trees as its parts
abbrev pub stmt_of : Stmt-F t.Stmt t.Block (t.NumLine × t.Block) → t.Stmt
stmt_of (layer.Single line) = t.Single (line_tree line)
stmt_of (layer.Nest sections end) = t.Nest (sections_of sections) (line_tree end)

abbrev pub block_of : Block-F t.Stmt t.Block (t.NumLine × t.Block) → t.Block
block_of x = stmts_of x.stmts

abbrev pub section_of : Section-F t.Stmt t.Block (t.NumLine × t.Block) → t.NumLine × t.Block
section_of x = (line_tree x.head, x.body)

-- the plain tree of a line alone or of a construct
unfoldable pub stmt_tree : Stmt → t.Stmt
stmt_tree = fold-Stmt t.Stmt t.Block (t.NumLine × t.Block) stmt_of block_of section_of

-- the plain tree of a block
unfoldable pub block_tree : Block → t.Block
block_tree = fold-Block t.Stmt t.Block (t.NumLine × t.Block) stmt_of block_of section_of

-- the first line of a section and the plain tree of its block
unfoldable pub section_tree : Section → t.NumLine × t.Block
section_tree = fold-Section t.Stmt t.Block (t.NumLine × t.Block) stmt_of block_of section_of

-- the plain trees of parts in a row
abbrev pub sections_tree : List Section → t.Sections
sections_tree [] = t.NoSections
sections_tree (x ∷ xs) = t.MoreSections (section_tree x).0 (section_tree x).1 (sections_tree xs)

abbrev pub stmts_tree : List Stmt → t.Block
stmts_tree [] = t.NoStmts
stmts_tree (x ∷ xs) = t.MoreStmts (stmt_tree x) (stmts_tree xs)
