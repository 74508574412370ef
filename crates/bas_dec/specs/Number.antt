-- Decimal numbers: a coefficient over a power of ten, in its one lowest form.
use Rattle.std.specs.Prelude.{ℕ, zero, suc, ◌+◌, ◌*◌, ◌/◌, ◌%◌, ◌^◌, ◌<◌, ◌≤◌, ◌==◌, ◌&&◌, nat_lt, nat_le, if◌then◌else◌, ℤ, pos, negsuc, neg_ℤ, ◌*ℤ◌, unsigned_abs, Option, Some, None, Bool, true, false}
use Rattle.std.specs.Int.{int_signum}
use Rattle.bas_dec.specs.declared.TheConstants.{PLACES}

-- stands for coefficient / 10 ^ scale
pub record Number : Type 0 where
  pub coefficient : ℤ
  pub scale : ℕ

-- what the size of a coefficient stays below
abbrev pub limit : ℕ
limit = 10 ^ 38

-- fewer than 39 digits, no more places than there may be, and no zero at the end of a fraction
pub record IsNumber (x : Number) : Type 0 where
  pub small : unsigned_abs x.coefficient < limit
  pub places : x.scale ≤ PLACES
  pub lowest : 0 < x.scale → 0 < unsigned_abs x.coefficient % 10

-- the whole number of size n, below zero where the flag is set
abbrev pub signed : Bool → ℕ → ℤ
signed false n = pos n
signed true n = neg_ℤ (pos n)

-- the whole number of size n with the sign of c
abbrev pub with_sign : ℤ → ℕ → ℤ
with_sign (pos _) n = pos n
with_sign (negsuc _) n = neg_ℤ (pos n)

-- n / 10 ^ s without the zeros at the end of its fraction: the digits and the places that stay
unfoldable pub stripped : ℕ → ℕ → ℕ × ℕ
stripped n zero = (n, 0)
stripped n (suc s) = if n % 10 == 0 then stripped (n / 10) s else (n, suc s)

-- the pair, where a number may have its size and its places
abbrev pub number_of : ℤ → ℕ → Option Number
number_of c s = if nat_lt (unsigned_abs c) limit && nat_le s PLACES then Some (record { coefficient = c; scale = s }) else None

-- c / 10 ^ s in lowest form, or None where no number has that value
unfoldable pub low : ℤ → ℕ → Option Number
low c s = let p = stripped (unsigned_abs c) s in number_of (with_sign c p.0) p.1

-- p / q for a positive q, rounded to a whole number: to the nearest, and away from zero at a half
abbrev pub rounded : ℤ → ℕ → ℤ
rounded p q = with_sign p ((2 * unsigned_abs p + q) / (2 * q))

-- p / q for a q other than zero, rounded likewise: the sign of q moves up
abbrev pub rounded_quotient : ℤ → ℤ → ℤ
rounded_quotient p q = rounded (p *ℤ int_signum q) (unsigned_abs q)
