-- What division leaves.
use Rattle.std.proofs.Common.{◌≡◌, ℕ, zero, suc, ◌*◌, ◌<◌, arith, refl, ap, ◌∙◌, sym, true, ℤ, pos, negsuc, neg_ℤ, ◌+ℤ◌, ◌-ℤ◌, ◌*ℤ◌}
use Rattle.std.specs.Prelude.{unsigned_abs, int_div, int_rem, int_lt, min}
use Rattle.std.specs.Int.{int_div_euclid, int_rem_euclid}
use Rattle.std.proofs.lemmas.Int.{ints, quot-rem}
use Rattle.std.proofs.lemmas.Bool.Decides.{nat_tests}
use Rattle.std.proofs.Math.IntN.{*ℤ_comm, +ℤ_comm, +ℤ-neg_ℤ_cancel}
use Rattle.bas_dec.specs.Fraction.{floor, cut, over, whole}
use Rattle.bas_dec.proofs.Integers.{times_one, div_negative}
use Rattle.bas_dec.proofs.Floors.{euclid}

taken_off : (x r : ℤ) → x +ℤ r -ℤ x ≡ r
taken_off x r = ap (λ z. z -ℤ x) (+ℤ_comm x r) ∙ +ℤ-neg_ℤ_cancel r x

-- what is left of a behind q times b
pub left_of : (a b q r : ℤ) → q *ℤ b +ℤ r ≡ a → r ≡ a -ℤ b *ℤ q
left_of a b q r e = sym (taken_off (q *ℤ b) r) ∙ ap (λ z. z -ℤ q *ℤ b) e ∙ ap (λ z. a -ℤ z) (*ℤ_comm q b)

-- the quotient of whole numbers, its sign moved up
over_above : (a : ℤ) (n : ℕ) → 0 < n → over (whole a) (whole (pos n)) ≡ record { numerator = a; denominator = n }
over_above a zero h = absurd (omega arith)
over_above a (suc n) h =
    let small : min (suc n) 1 ≡ 1 = omega arith in
    let size : 1 * suc n ≡ suc n = omega arith in
    rw (small, size, times_one a, times_one a) refl

over_below : (a : ℤ) (m : ℕ) → over (whole a) (whole (negsuc m)) ≡ record { numerator = a *ℤ negsuc 0; denominator = suc m }
over_below a m = let size : 1 * suc m ≡ suc m = omega arith in rw (size, times_one a) refl

opposite_is : (a : ℤ) → a *ℤ negsuc 0 ≡ pos 0 -ℤ a
opposite_is a = omega (arith, ints)

pub modulo_above : (a : ℤ) (n : ℕ) → 0 < n → int_rem_euclid a (pos n) ≡ a -ℤ pos n *ℤ floor (over (whole a) (whole (pos n)))
modulo_above a n h = left_of a (pos n) (int_div_euclid a (pos n)) (int_rem_euclid a (pos n)) (euclid a n h) ∙ ap (λ f. a -ℤ pos n *ℤ floor f) (sym (over_above a n h))

turned : (a p : ℤ) → pos 0 -ℤ (pos 0 -ℤ a -ℤ p) ≡ a -ℤ neg_ℤ p
turned a p = omega (arith, ints)

times_neg : (m : ℕ) (q : ℤ) → negsuc m *ℤ q ≡ neg_ℤ (pos (suc m) *ℤ q)
times_neg m q = omega (arith, ints)

opposite_divisor : (m : ℕ) → pos 0 -ℤ negsuc m ≡ pos (suc m)
opposite_divisor m = omega (arith, ints)

below : (a : ℤ) (m : ℕ) → pos 0 -ℤ int_rem_euclid (pos 0 -ℤ a) (pos (suc m)) ≡ a -ℤ negsuc m *ℤ floor (over (whole a) (whole (negsuc m)))
below a m =
    let q : ℤ = int_div_euclid (pos 0 -ℤ a) (pos (suc m)) in
    let same : q ≡ floor (over (whole a) (whole (negsuc m))) = ap (λ z. int_div_euclid z (pos (suc m))) (sym (opposite_is a)) ∙ ap floor (sym (over_below a m)) in
    ap (λ z. pos 0 -ℤ z) (left_of (pos 0 -ℤ a) (pos (suc m)) q (int_rem_euclid (pos 0 -ℤ a) (pos (suc m))) (euclid (pos 0 -ℤ a) (suc m) (omega arith))) ∙ turned a (pos (suc m) *ℤ q) ∙ ap (λ z. a -ℤ z) (sym (times_neg m q)) ∙ ap (λ z. a -ℤ negsuc m *ℤ z) same

not_below : (n : ℕ) → int_lt (pos n) (pos 0) ≡ true → ⊥
not_below n h = grind (arith, nat_tests)

pub modulo_below : (a b : ℤ) → int_lt b (pos 0) ≡ true → pos 0 -ℤ int_rem_euclid (pos 0 -ℤ a) (pos 0 -ℤ b) ≡ a -ℤ b *ℤ floor (over (whole a) (whole b))
modulo_below a (pos n) h = absurd (not_below n h)
modulo_below a (negsuc m) h = ap (λ d. pos 0 -ℤ int_rem_euclid (pos 0 -ℤ a) d) (opposite_divisor m) ∙ below a m

quotient_sign : (a : ℤ) (m : ℕ) → int_div (a *ℤ negsuc 0) (pos (suc m)) ≡ int_div a (negsuc m)
quotient_sign (pos n) m = let one : n * 1 ≡ n = omega arith in rw (div_negative (n * 1) (suc m), one) refl
quotient_sign (negsuc n) m = let one : suc n * 1 ≡ suc n = omega arith in rw one refl

pub remainder_is : (a b : ℤ) → 0 < unsigned_abs b → int_rem a b ≡ a -ℤ b *ℤ cut (over (whole a) (whole b))
remainder_is a (pos n) h = left_of a (pos n) (int_div a (pos n)) (int_rem a (pos n)) (quot-rem a (pos n)) ∙ ap (λ f. a -ℤ pos n *ℤ cut f) (sym (over_above a n h))
remainder_is a (negsuc m) h = left_of a (negsuc m) (int_div a (negsuc m)) (int_rem a (negsuc m)) (quot-rem a (negsuc m)) ∙ ap (λ q. a -ℤ negsuc m *ℤ q) (sym (quotient_sign a m)) ∙ ap (λ f. a -ℤ negsuc m *ℤ cut f) (sym (over_below a m))
