-- Sums, products, quotients and the order of numbers, over whole numbers without bound.
use Rattle.std.specs.Prelude.{ℕ, ◌+◌, ◌-◌, ◌^◌, ◌==◌, max, nat_lt, nat_le, if◌then◌else◌, ℤ, pos, neg_ℤ, ◌+ℤ◌, ◌-ℤ◌, ◌*ℤ◌, unsigned_abs, Result, Ok, Err, ok_or}
use Rattle.std.specs.Int.{int_signum}
use Rattle.std.specs.Ordering.{int_cmp}
use Rattle.std.specs.declared.cmp.Ordering.{Ordering}
use Rattle.bas_dec.specs.Number.{Number, limit, low, rounded, rounded_quotient}
use Rattle.bas_dec.specs.declared.TheConstants.{SHORT}
use Rattle.bas_dec.specs.declared.fault.DecFault.{DecFault}
use Rattle.bas_dec.specs.declared.fault.DecFault.TheVariants.{Overflow, ZeroDivide}

-- goes on with the value, and keeps a fault
abbrev pub and_then : {A B : Type 0} → Result A DecFault → (A → Result B DecFault) → Result B DecFault
and_then (Ok a) f = f a
and_then (Err e) f = Err e

-- the coefficient, or Overflow where its size reaches the limit
abbrev pub bounded : ℤ → Result ℤ DecFault
bounded c = if nat_lt (unsigned_abs c) limit then Ok c else Err Overflow

-- the number of the value c / 10 ^ s, or Overflow where there is none
abbrev pub number_at : ℤ → ℕ → Result Number DecFault
number_at c s = ok_or (low c s) Overflow

-- the coefficient of x brought to s places
abbrev pub aligned : Number → ℕ → Result ℤ DecFault
aligned x s = bounded (x.coefficient *ℤ pos (10 ^ (s - x.scale)))

-- f of both coefficients brought to the larger scale, as a number of that scale
abbrev pub at_larger_scale : (ℤ → ℤ → Result ℤ DecFault) → Number → Number → Result Number DecFault
at_larger_scale f x y =
    let s = max x.scale y.scale in
    and_then (aligned x s) (λ a. and_then (aligned y s) (λ b. and_then (f a b) (λ c. number_at c s)))

-- x + y
unfoldable pub sum_of : Number → Number → Result Number DecFault
sum_of x y = at_larger_scale (λ a b. bounded (a +ℤ b)) x y

-- x - y
unfoldable pub difference_of : Number → Number → Result Number DecFault
difference_of x y = at_larger_scale (λ a b. bounded (a -ℤ b)) x y

-- as far below zero as x is above it
abbrev pub negated : Number → Number
negated x = record { coefficient = neg_ℤ x.coefficient; scale = x.scale }

-- as far above zero as x is away from it
abbrev pub size_of : Number → Number
size_of x = record { coefficient = pos (unsigned_abs x.coefficient); scale = x.scale }

-- 1, 0 or -1
abbrev pub sign_of : Number → Number
sign_of x = record { coefficient = int_signum x.coefficient; scale = 0 }

-- how many places a product or a quotient keeps: SHORT, or as many as the longer operand
abbrev pub kept_places : ℕ → ℕ → ℕ
kept_places s t = max (max SHORT s) t

-- p / 10 ^ s, rounded to t places where it has more
abbrev pub rounded_within : ℤ → ℕ → ℕ → Result Number DecFault
rounded_within p s t = if nat_le s t then number_at p s else number_at (rounded p (10 ^ (s - t))) t

-- x * y
unfoldable pub product_of : Number → Number → Result Number DecFault
product_of x y = and_then (bounded (x.coefficient *ℤ y.coefficient)) (λ p. rounded_within p (x.scale + y.scale) (kept_places x.scale y.scale))

-- x / y for a y other than zero
abbrev pub divided : Number → Number → Result Number DecFault
divided x y =
    let t = kept_places x.scale y.scale in
    and_then (bounded (x.coefficient *ℤ pos (10 ^ (t + y.scale - x.scale)))) (λ p. number_at (rounded_quotient p y.coefficient) t)

-- x / y
unfoldable pub quotient_of : Number → Number → Result Number DecFault
quotient_of x y = if unsigned_abs y.coefficient == 0 then Err ZeroDivide else divided x y

-- whether x is below y, equal to it or above it
unfoldable pub order_of : Number → Number → Ordering
order_of x y = int_cmp (x.coefficient *ℤ pos (10 ^ y.scale)) (y.coefficient *ℤ pos (10 ^ x.scale))
