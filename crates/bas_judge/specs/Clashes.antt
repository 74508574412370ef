-- What of a line's names clashes with others.
use Rattle.std.specs.Prelude.{ℕ, Bool, ◌&&◌, List}
use Rattle.std.specs.List.{list_any}
use Rattle.bas_ast.specs.Tree as t
use Rattle.bas_scope.specs.Bodies.{names_on}
use Rattle.bas_scope.specs.Senses.{Senses}
use Rattle.bas_rules.specs.Naming.{is_sub_sense}
use Rattle.bas_claim.specs.declared.first.FirstLines.{FirstLines}
use Rattle.bas_claim.specs.First.{stands_before}

-- a name of a SUB that stands before a line
abbrev pub is_sub_before : Senses → FirstLines → ℕ → List ℕ → Bool
is_sub_before s first l name = is_sub_sense (s.named name) && stands_before first name l

-- an item uses such a name as a variable
abbrev pub uses_sub : Senses → FirstLines → ℕ → t.LineItem → Bool
uses_sub s first l item = list_any (is_sub_before s first l) (names_on item)
