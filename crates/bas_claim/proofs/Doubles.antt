-- A name that is put into a set.
use Rattle.std.proofs.Common.{◌≡◌, ℕ, Bool, true, false, not, List, ◌∷◌, sym}
use Rattle.bas_rules.specs.Naming.{is_among, has_twice}

-- a name that was not there stands twice where it did among the others
pub first_is_new : (name : List ℕ) (others : List (List ℕ)) (was later : Bool) → was ≡ is_among name others → true ≡ not was → later ≡ has_twice others
    → later ≡ has_twice (name ∷ others)
first_is_new name others true later e n h = let bad : true ≡ false = n in absurd cc
first_is_new name others false later e n h = rw (sym e) h
