-- Trees that are lent.
use Rattle.std.specs.Prelude.{List, map}
use Rattle.std.specs.Borrow.{Bor}
use Rattle.bas_ast.specs.Tree as t
use Rattle.bas_ast.specs.BlockTree.{line_tree}
use Rattle.bas_ast.specs.declared.block.NumLine.{NumLine}

-- the plain trees of lines that are lent
abbrev pub line_trees : List (Bor NumLine) → List t.NumLine
line_trees = map (λ line. line_tree line.now)
