-- How a count of faults moves.
use Rattle.std.specs.Prelude.{◌≡◌, ℕ, ◌+◌, ◌-◌, ◌^◌, ◌≤◌, min, Bool, IsTrue, not}

-- the last value of a count: there it stands still
abbrev pub last_count : ℕ
last_count = 2 ^ 64 - 1

-- the count after one more: it stands still at its last value
abbrev pub next_count : ℕ → ℕ
next_count count = min (count + 1) last_count

-- the count rose between the two moments; one that stands at its last value counts as risen
abbrev pub Rose : ℕ → ℕ → Type 0
Rose before now = next_count before ≤ now

-- what one call does to a count: it never falls, it rises where the call failed, and it stands still otherwise
pub record CountMoves (failed : Bool) (before now : ℕ) : Type 0 where
  pub never_falls : before ≤ now
  pub rises : IsTrue failed → Rose before now
  pub stands : IsTrue (not failed) → now ≡ before
