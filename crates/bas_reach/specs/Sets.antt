-- Sets of numbers of lines.
use Rattle.std.specs.Prelude.{◌≡◌, ℕ, ◌||◌, List}
use Rattle.std.specs.Ordering.{nat_cmp}
use Rattle.std.specs.BTreeSet.{BTreeSet, contains}
use Rattle.bas_rules.specs.Jumping.{is_listed}

-- a set has these numbers and no others
abbrev pub HasNumbers : BTreeSet ℕ → List ℕ → Type 0
HasNumbers set numbers = (l : ℕ) → contains nat_cmp set l ≡ is_listed numbers l

-- a set has these numbers besides those that it had
abbrev pub Adds : (old new : BTreeSet ℕ) → List ℕ → Type 0
Adds old new numbers = (l : ℕ) → contains nat_cmp new l ≡ (is_listed numbers l || contains nat_cmp old l)
