-- Products of a number by itself.
use Rattle.std.proofs.Common.{◌≡◌, ℕ, zero, suc, ◌+◌, ◌-◌, ◌*◌, ◌/◌, ◌%◌, ◌≤◌, arith, refl, ap, ◌∙◌, add-one, add-zero, add-suc, false, Ok, Err, ℤ, pos, negsuc}
use Rattle.std.specs.Prelude.{nat_lt, nat_le, not, unsigned_abs, ◌==◌, ◌&&◌}
use Rattle.std.proofs.lemmas.Bool.Decides.{nat_tests}
use Rattle.bas_dec.specs.Number.{Number, stripped, low}
use Rattle.bas_dec.specs.Arithmetic.{and_then, product_of}
use Rattle.bas_dec.specs.Power.{one, left_product, natural_power}
use Rattle.bas_dec.specs.declared.TheConstants.{LARGEST_EXPONENT}
use Rattle.bas_dec.specs.declared.fault.DecFault.{DecFault}

pub no_product : (x : Number) → left_product x 0 ≡ Ok one
unfolding left_product
no_product x = refl

pub one_product_more : (x p : Number) (k : ℕ) → Ok p ≡ left_product x k → left_product x (k + 1) ≡ product_of p x
unfolding left_product
one_product_more x p k e = rw (add-one, ← e) refl

fault_stays : (x : Number) (k j : ℕ) (e : DecFault) → left_product x k ≡ Err e → left_product x (k + j) ≡ Err e
unfolding left_product
fault_stays x k zero e h = rw add-zero h
fault_stays x k (suc j) e h = rw (add-suc, fault_stays x k j e h) refl

-- a fault on the way is the fault of the whole
pub product_fault : (x : Number) (k n : ℕ) (e : DecFault) → k ≤ n → left_product x k ≡ Err e → left_product x n ≡ Err e
product_fault x k n e h f = ap (left_product x) (omega arith) ∙ fault_stays x k (n - k) e f

-- where the third power is the first, the powers repeat
repeats : (x : Number) (n : ℕ) → left_product x 3 ≡ left_product x 1 → left_product x (n + 3) ≡ left_product x (n + 1)
unfolding left_product
repeats x zero e = e
repeats x (suc n) e =
    let up : suc n + 3 ≡ suc (n + 3) = omega arith in
    let down : suc (n + 1) ≡ suc n + 1 = omega arith in
    ap (left_product x) up ∙ ap (λ r. and_then r (λ p. product_of p x)) (repeats x n e) ∙ ap (left_product x) down

repeats_often : (x : Number) (k m : ℕ) → left_product x 3 ≡ left_product x 1 → left_product x (m + 2 * k + 1) ≡ left_product x (m + 1)
repeats_often x zero m e = let same : m + 2 * 0 + 1 ≡ m + 1 = omega arith in ap (left_product x) same
repeats_often x (suc k) m e = let same : m + 2 * suc k + 1 ≡ m + 2 * k + 3 = omega arith in ap (left_product x) same ∙ repeats x (m + 2 * k) e ∙ repeats_often x k m e

third_of_zero : left_product (record { coefficient = pos 0; scale = 0 }) 3 ≡ left_product (record { coefficient = pos 0; scale = 0 }) 1
unfolding left_product product_of low stripped
third_of_zero = refl

third_of_one : left_product (record { coefficient = pos 1; scale = 0 }) 3 ≡ left_product (record { coefficient = pos 1; scale = 0 }) 1
unfolding left_product product_of low stripped
third_of_one = refl

third_of_minus_one : left_product (record { coefficient = negsuc 0; scale = 0 }) 3 ≡ left_product (record { coefficient = negsuc 0; scale = 0 }) 1
unfolding left_product product_of low stripped
third_of_minus_one = refl

third : (c : ℤ) → unsigned_abs c ≤ 1 → left_product (record { coefficient = c; scale = 0 }) 3 ≡ left_product (record { coefficient = c; scale = 0 }) 1
third (pos zero) h = third_of_zero
third (pos (suc zero)) h = third_of_one
third (pos (suc (suc n))) h = absurd (omega arith)
third (negsuc zero) h = third_of_minus_one
third (negsuc (suc n)) h = absurd (omega arith)

period : (c : ℤ) (s n : ℕ) → s ≡ 0 → unsigned_abs c ≤ 1 → 2 ≤ n → left_product (record { coefficient = c; scale = s }) n ≡ left_product (record { coefficient = c; scale = s }) (n % 2 + 2)
period c s n h g some =
    let x : Number = record { coefficient = c; scale = 0 } in
    let up : n ≡ n % 2 + 1 + 2 * (n / 2 - 1) + 1 = omega arith in
    let down : n % 2 + 1 + 1 ≡ n % 2 + 2 = omega arith in
    rw h (ap (left_product x) up ∙ repeats_often x (n / 2 - 1) (n % 2 + 1) (third c g) ∙ ap (left_product x) down)

unit_test : (s a n : ℕ) → s ≡ 0 → a ≤ 1 → (nat_lt LARGEST_EXPONENT n && not ((s == 0) && nat_le a 1)) ≡ false
unit_test s a n h g = grind (arith, nat_tests)

-- 0, 1 and -1 have every power, and one of two values
pub unit_power : (c : ℤ) (s n : ℕ) → s ≡ 0 → unsigned_abs c ≤ 1 → 2 ≤ n → natural_power (record { coefficient = c; scale = s }) n ≡ left_product (record { coefficient = c; scale = s }) (n % 2 + 2)
unit_power c s n h g some = rw (unit_test s (unsigned_abs c) n h g) (period c s n h g some)
