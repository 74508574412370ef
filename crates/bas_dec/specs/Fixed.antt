-- The types of numeric variables with a fixed number of digits.
use Rattle.std.specs.Prelude.{ℕ, ◌+◌, ◌-◌, ◌/◌, ◌^◌, ◌≤◌, min, nat_le, if◌then◌else◌, ℤ, unsigned_abs, Result, Err}
use Rattle.bas_dec.specs.Number.{Number, rounded}
use Rattle.bas_dec.specs.Arithmetic.{number_at}
use Rattle.bas_dec.specs.declared.TheConstants.{PLACES}
use Rattle.bas_dec.specs.declared.fault.DecFault.{DecFault}
use Rattle.bas_dec.specs.declared.fault.DecFault.TheVariants.{Overflow}

-- how many digits stand before the point and behind it
pub record Fixed : Type 0 where
  pub whole : ℕ
  pub places : ℕ

-- 1 to 38 digits in all, and no more places than a number has
pub record IsFixed (t : Fixed) : Type 0 where
  pub some : 1 ≤ t.whole + t.places
  pub digits : t.whole + t.places ≤ 38
  pub places : t.places ≤ PLACES

-- the coefficient of x rounded to n places, where it has more
abbrev pub rounded_coefficient : Number → ℕ → ℤ
rounded_coefficient x n = if nat_le x.scale n then x.coefficient else rounded x.coefficient (10 ^ (x.scale - n))

-- x rounded to the places of the type, or Overflow where its whole part has too many digits
unfoldable pub fitted : Number → Fixed → Result Number DecFault
fitted x t =
    let c = rounded_coefficient x t.places in
    let s = min x.scale t.places in
    if nat_le (10 ^ t.whole) (unsigned_abs c / 10 ^ s) then Err Overflow else number_at c s
