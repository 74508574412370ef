-- The one line in the body of a definition.
use Rattle.std.specs.Prelude.{ℕ, List, [], ◌∷◌}
use Rattle.bas_ast.specs.Tree as t

-- a name is set to its value
abbrev pub definition_item : (name : List ℕ) → (value : t.Expr) → t.LineItem
definition_item name value = t.OfSimple (t.Alone (t.Let (t.Variable name t.NoExprs ∷ []) value))

-- the line, at the number of its DEF
abbrev pub definition_line : (line : ℕ) → (name : List ℕ) → (value : t.Expr) → t.NumLine
definition_line line name value = record { line = line; item = definition_item name value }
