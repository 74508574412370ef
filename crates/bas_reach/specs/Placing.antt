-- A line in its place, and the lines that it names.
use Rattle.std.specs.Prelude.{◌≡◌, ℕ, Bool, not, List}
use Rattle.std.specs.List.{list_any}
use Rattle.bas_ast.specs.Tree as t
use Rattle.bas_rules.specs.Jumping.{is_listed}
use Rattle.bas_rules.specs.Sites.{Site}
use Rattle.bas_reach.specs.Standing.{Tells}
use Rattle.bas_reach.specs.declared.around.Around.{Around}

-- a line of this place, around which there is what is kept
pub record IsAt (kept : Around) (item : t.LineItem) (x : Site) : Type 0 where
  pub around : Tells kept x.around
  pub is : x.item ≡ item

-- one of some lines is not reached
abbrev pub misses : (reach lines : List ℕ) → Bool
misses reach lines = list_any (λ l. not (is_listed reach l)) lines
