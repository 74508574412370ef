-- A statement that is lent.
use Rattle.std.specs.Prelude.{List, [], ◌∷◌, Option, Some, None}
use Rattle.std.specs.Borrow.{Bor}
use Rattle.bas_ast.specs.Tree as t
use Rattle.bas_ast.specs.StatementTree.{plain_tree}
use Rattle.bas_ast.specs.declared.statement.Plain.{Plain}

-- the plain tree of a statement that is lent, where one is
abbrev pub lent : Option (Bor Plain) → List t.Plain
lent None = []
lent (Some plain) = plain_tree plain.now ∷ []
