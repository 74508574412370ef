-- Names that stand by themselves, as whole arrays do.
use Rattle.std.specs.Prelude.{ℕ, List, Option, Some, None}
use Rattle.bas_ast.specs.Tree as t

-- the name that an operand is by itself
abbrev pub name_alone : Option t.Primary → Option (List ℕ)
name_alone (Some (t.Named name t.NoArgs)) = Some name
name_alone _ = None
