-- Which numbers the operators raise.
use Rattle.std.proofs.Common.{ℕ, zero, suc, ◌-◌, ◌^◌, ◌+◌, ◌==◌, ◌&&◌, not, max, nat_lt, nat_le, Bool, true, false, Option, Some, None, Result, Ok, Err, ok_or, refl, arith, unsigned_abs, ℤ, pos, negsuc, ◌+ℤ◌, ◌-ℤ◌, ◌*ℤ◌, Contains, if◌then◌else◌}
use Rattle.bas_dec.specs.Number.{Number, limit, low, rounded, rounded_quotient}
use Rattle.bas_dec.specs.Arithmetic.{and_then, bounded, number_at, aligned, at_larger_scale, sum_of, difference_of, kept_places, rounded_within, product_of, divided, quotient_of}
use Rattle.bas_dec.specs.Power.{one, is_unit, left_product, natural_power, whole_power, power_of}
use Rattle.bas_dec.specs.declared.TheConstants.{LARGEST_EXPONENT}
use Rattle.bas_dec.specs.declared.fault.DecFault.{DecFault}
use Rattle.bas_dec.specs.declared.fault.DecFault.TheVariants.{Overflow, ZeroDivide, NotWhole, BadRoot}
use Rattle.bas_mean.specs.Operators.{Answer, Found, Raises, Operator, Adds, Subtracts, Multiplies, Divides, Powers, answer_of, apply}
use Rattle.bas_raise.specs.Raised.{raised_numbers}

-- no root of a number below zero was taken
abbrev Rootless : {A : Type 0} → Result A DecFault → Type 0
Rootless (Ok a) = Unit {0}
Rootless (Err Overflow) = Unit {0}
Rootless (Err ZeroDivide) = Unit {0}
Rootless (Err NotWhole) = Unit {0}
Rootless (Err BadRoot) = ⊥

chosen : {A : Type 0} (b : Bool) (r s : Result A DecFault) → Rootless r → Rootless s → Rootless (if b then r else s)
chosen true r s p q = p
chosen false r s p q = q

gone_on : {A B : Type 0} (r : Result A DecFault) (f : A → Result B DecFault) → Rootless r → ((a : A) → Rootless (f a)) → Rootless (and_then r f)
gone_on (Ok a) f p q = q a
gone_on (Err Overflow) f p q = tt
gone_on (Err ZeroDivide) f p q = tt
gone_on (Err NotWhole) f p q = tt
gone_on (Err BadRoot) f p q = p

given : {A : Type 0} (o : Option A) → Rootless (ok_or o Overflow)
given (Some a) = tt
given None = tt

bounds : (c : ℤ) → Rootless (bounded c)
bounds c = chosen (nat_lt (unsigned_abs c) limit) (Ok c) (Err Overflow) tt tt

numbers : (c : ℤ) (s : ℕ) → Rootless (number_at c s)
numbers c s = given (low c s)

joined : (f : ℤ → ℤ → Result ℤ DecFault) (x y : Number) → ((a b : ℤ) → Rootless (f a b)) → Rootless (at_larger_scale f x y)
joined f x y h =
    let s : ℕ = max x.scale y.scale in
    gone_on (aligned x s) (λ a. and_then (aligned y s) (λ b. and_then (f a b) (λ c. number_at c s))) (bounds (x.coefficient *ℤ pos (10 ^ (s - x.scale))))
    (λ a. gone_on (aligned y s) (λ b. and_then (f a b) (λ c. number_at c s)) (bounds (y.coefficient *ℤ pos (10 ^ (s - y.scale))))
    (λ b. gone_on (f a b) (λ c. number_at c s) (h a b) (λ c. numbers c s)))

sums : (x y : Number) → Rootless (sum_of x y)
unfolding sum_of
sums x y = joined (λ a b. bounded (a +ℤ b)) x y (λ a b. bounds (a +ℤ b))

differences : (x y : Number) → Rootless (difference_of x y)
unfolding difference_of
differences x y = joined (λ a b. bounded (a -ℤ b)) x y (λ a b. bounds (a -ℤ b))

products : (x y : Number) → Rootless (product_of x y)
unfolding product_of
products x y =
    let s : ℕ = x.scale + y.scale in
    let t : ℕ = kept_places x.scale y.scale in
    gone_on (bounded (x.coefficient *ℤ y.coefficient)) (λ p. rounded_within p s t) (bounds (x.coefficient *ℤ y.coefficient))
    (λ p. chosen (nat_le s t) (number_at p s) (number_at (rounded p (10 ^ (s - t))) t) (numbers p s) (numbers (rounded p (10 ^ (s - t))) t))

quotients : (x y : Number) → Rootless (quotient_of x y)
unfolding quotient_of
quotients x y =
    let t : ℕ = kept_places x.scale y.scale in
    let p : ℤ = x.coefficient *ℤ pos (10 ^ (t + y.scale - x.scale)) in
    chosen (unsigned_abs y.coefficient == 0) (Err ZeroDivide) (divided x y) tt
    (gone_on (bounded p) (λ c. number_at (rounded_quotient c y.coefficient) t) (bounds p) (λ c. numbers (rounded_quotient c y.coefficient) t))

left_products : (x : Number) (n : ℕ) → Rootless (left_product x n)
unfolding left_product
left_products x zero = tt
left_products x (suc n) = gone_on (left_product x n) (λ p. product_of p x) (left_products x n) (λ p. products p x)

natural_powers : (x : Number) (n : ℕ) → Rootless (natural_power x n)
natural_powers x n = chosen (nat_lt LARGEST_EXPONENT n && not (is_unit x)) (Err Overflow) (left_product x n) tt (left_products x n)

whole_powers : (x : Number) (e : ℤ) → Rootless (whole_power x e)
whole_powers x (pos n) = natural_powers x n
whole_powers x (negsuc n) = gone_on (natural_power x (suc n)) (λ p. quotient_of one p) (natural_powers x (suc n)) (λ p. quotients one p)

powers : (x y : Number) → Rootless (power_of x y)
unfolding power_of
powers x y = chosen (nat_lt 0 y.scale) (Err NotWhole) (whole_power x y.coefficient) tt (whole_powers x y.coefficient)

-- an answer that is an exception has one of the numbers
abbrev pub Known : {V : Type 0} → Answer V → Type 0
Known (Found v) = Unit {0}
Known (Raises number) = Contains raised_numbers number

known : (zero_divisor : ℕ) → Contains raised_numbers zero_divisor → (r : Result Number DecFault) → Rootless r → Known (answer_of zero_divisor r)
known z h (Ok v) p = tt
known z h (Err Overflow) p = (0, omega arith, refl)
known z h (Err ZeroDivide) p = h
known z h (Err NotWhole) p = (3, omega arith, refl)
known z h (Err BadRoot) p = absurd p

division_by_zero : Contains raised_numbers 3001
division_by_zero = (1, omega arith, refl)

power_of_zero : Contains raised_numbers 3003
power_of_zero = (2, omega arith, refl)

-- one row for each operator
pub operators : (op : Operator) (x y : Number) → Known (apply op x y)
operators Adds x y = known 3001 division_by_zero (sum_of x y) (sums x y)
operators Subtracts x y = known 3001 division_by_zero (difference_of x y) (differences x y)
operators Multiplies x y = known 3001 division_by_zero (product_of x y) (products x y)
operators Divides x y = known 3001 division_by_zero (quotient_of x y) (quotients x y)
operators Powers x y = known 3003 power_of_zero (power_of x y) (powers x y)
