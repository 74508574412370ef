-- The address of each target in the three maps.
use Rattle.std.specs.Prelude.{◌≡◌, ℕ, if◌then◌else◌, unwrap_or}
use Rattle.std.specs.Ordering.{nat_cmp}
use Rattle.std.specs.BTreeMap.{get}
use Rattle.bas_mean.specs.Outcome.{Target, LineOf, EndOf, TurnOf}
use Rattle.bas_carry.specs.Tables.{same_target}
use Rattle.bas_gen.specs.declared.targets.Targets.{Targets}

-- 0 where a target has none
abbrev pub address_at : Targets → Target → ℕ
address_at x (LineOf l) = unwrap_or (get nat_cmp x.lines l) 0
address_at x (EndOf l) = unwrap_or (get nat_cmp x.ends l) 0
address_at x (TurnOf l) = unwrap_or (get nat_cmp x.turns l) 0

-- a target has another address, and all others have theirs
abbrev pub Puts : (old new : Targets) → Target → ℕ → Type 0
Puts old new target address = (t : Target) → address_at new t ≡ (if same_target t target then address else address_at old t)
