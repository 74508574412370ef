-- The first lines at which names stand.
use Rattle.std.specs.Prelude.{◌≡◌, ℕ, Bool, false, ◌&&◌, ◌||◌, nat_lt, nat_le, List, Option, Some, None}
use Rattle.std.specs.Option.{is_some, option_map_or}
use Rattle.std.specs.List.{filter}
use Rattle.std.specs.Ordering.{nat_cmp}
use Rattle.std.specs.Cmp.Lexicographic.{slice_cmp}
use Rattle.std.specs.BTreeMap.{get}
use Rattle.bas_ast.specs.Tree.{LineItem, NumLine}
use Rattle.bas_scope.specs.Lines.{gathered}
use Rattle.bas_rules.specs.Naming.{is_among}
use Rattle.bas_claim.specs.declared.first.FirstLines.{FirstLines}

-- the least line at which a name stands
abbrev pub line_of : FirstLines → List ℕ → Option ℕ
line_of first name = get (slice_cmp nat_cmp) first.lines name

-- a name stands at a line before that one
abbrev pub stands_before : FirstLines → List ℕ → ℕ → Bool
stands_before first name l = option_map_or (λ m. nat_lt m l) (line_of first name) false

-- a least line at that line or before it
abbrev pub is_noted_at : Option ℕ → ℕ → Bool
is_noted_at None l = false
is_noted_at (Some m) l = nat_le m l

-- names are noted at a line
pub record Notes (old new : FirstLines) (names : List (List ℕ)) (line : ℕ) : Type 0 where
  pub stands : (name : List ℕ) → is_some (line_of new name) ≡ (is_some (line_of old name) || is_among name names)
  pub before : (name : List ℕ) (l : ℕ) → stands_before new name l ≡ (stands_before old name l || (is_among name names && nat_lt line l))

-- the first lines of all names that lines give
pub record AreFirst (first : FirstLines) (given : LineItem → List (List ℕ)) (lines : List NumLine) : Type 0 where
  pub stands : (name : List ℕ) → is_some (line_of first name) ≡ is_among name (gathered (λ line. given line.item) lines)
  pub before : (name : List ℕ) (l : ℕ) → stands_before first name l ≡ is_among name (gathered (λ line. given line.item) (filter (λ line. nat_lt line.line l) lines))
