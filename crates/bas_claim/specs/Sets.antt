-- Sets of names.
use Rattle.std.specs.Prelude.{◌≡◌, ℕ, List}
use Rattle.std.specs.Ordering.{nat_cmp}
use Rattle.std.specs.Cmp.Lexicographic.{slice_cmp}
use Rattle.std.specs.BTreeSet.{BTreeSet, contains}
use Rattle.bas_rules.specs.Naming.{is_among}

-- a set has these names and no others
pub record HasNames (set : BTreeSet (List ℕ)) (names : List (List ℕ)) : Type 0 where
  pub has : (name : List ℕ) → contains (slice_cmp nat_cmp) set name ≡ is_among name names
