-- Whole parts and roundings to places: the words that the code computes, and the formulas over fractions.
use Rattle.std.proofs.Common.{◌≡◌, ℕ, zero, suc, ◌+◌, ◌-◌, ◌*◌, ◌/◌, ◌%◌, ◌^◌, ◌<◌, ◌≤◌, arith, refl, ap, ◌∙◌, sym, true, ℤ, pos, negsuc, neg_ℤ, ◌+ℤ◌, ◌-ℤ◌, ◌*ℤ◌, Ok, None, inl, inr}
use Rattle.std.specs.Prelude.{unsigned_abs, int_div, int_rem, int_lt, min}
use Rattle.std.specs.Int.{int_div_euclid}
use Rattle.std.proofs.lemmas.Int.{ints, quot-rem}
use Rattle.std.proofs.Math.Nat.{mul-div-mul_right, div-eq_of_lt, div-le_self, mod-le, mod-mod_of_dvd, dvd-mul_left}
use Rattle.std.proofs.Math.IntN.{*ℤ_comm}
use Rattle.std.proofs.lemmas.Bool.{cases_lt}
use Rattle.std.proofs.lemmas.Bool.Decides.{nat_tests}
use Rattle.std.proofs.lemmas.Nat.{pow-add}
use Rattle.bas_dec.specs.Number.{IsNumber, limit, low, number_of, with_sign}
use Rattle.bas_dec.specs.Arithmetic.{number_at, and_then, bounded}
use Rattle.bas_dec.specs.Fraction.{floor, plus, minus, times, over, half, ratio, whole, power_of_ten, number_with, floor_of, whole_part_of, fraction_part_of, ceiling_of, rounded_to, truncated_to}
use Rattle.bas_dec.proofs.Integers.{sum_times, times_one, times_twice, times_turned, div_negative}
use Rattle.bas_dec.proofs.Powers.{ten_to_positive, ten_to_rises, ten_to_split}
use Rattle.bas_dec.proofs.Values.{number_with_is, number_with_this, div_exact}
use Rattle.bas_dec.proofs.Low.{low_itself, size_with_sign}
use Rattle.bas_dec.proofs.Lowest.{stripped_nonzero}
use Rattle.bas_dec.proofs.Floors.{floor_unique, floor_scaled}
use Rattle.bas_dec.proofs.Remainders.{left_of}
use Rattle.bas_dec.proofs.Bounds.{bounded_within, bounded_beyond}

-- a whole number that is small enough
small_whole : (k : ℤ) → unsigned_abs k < limit → IsNumber (record { coefficient = k; scale = 0 })
small_whole k h = record { small = h; places = omega arith; lowest = λ z. absurd (omega arith) }

whole_is : (k : ℤ) → unsigned_abs k < limit → number_with (whole k) ≡ Ok (record { coefficient = k; scale = 0 })
whole_is k h = number_with_this (whole k) (record { coefficient = k; scale = 0 }) (omega arith) (small_whole k h) refl

floor_size : (c : ℤ) (q : ℕ) → unsigned_abs (int_div_euclid c (pos q)) ≤ unsigned_abs c
floor_size (pos a) q = div-le_self a q
floor_size (negsuc a) q = omega (arith, div-le_self a q)

cut_size : (c : ℤ) (q : ℕ) → unsigned_abs (int_div c (pos q)) ≤ unsigned_abs c
cut_size (pos a) q = div-le_self a q
cut_size (negsuc a) q = less (suc a / q) (suc a) (div-le_self (suc a) q)
  where
    less : (m n : ℕ) → m ≤ n → unsigned_abs (neg_ℤ (pos m)) ≤ n
    less zero n h = omega arith
    less (suc m) n h = h

pub floor_is : (c : ℤ) (s : ℕ) → unsigned_abs c < limit → floor_of (record { coefficient = c; scale = s }) ≡ Ok (record { coefficient = int_div_euclid c (pos (10 ^ s)); scale = 0 })
unfolding floor_of
floor_is c s h = whole_is (int_div_euclid c (pos (10 ^ s))) (omega (arith, floor_size c (10 ^ s)))

pub whole_part_is : (c : ℤ) (s : ℕ) → unsigned_abs c < limit → whole_part_of (record { coefficient = c; scale = s }) ≡ Ok (record { coefficient = int_div c (pos (10 ^ s)); scale = 0 })
unfolding whole_part_of
whole_part_is c s h = whole_is (int_div c (pos (10 ^ s))) (omega (arith, cut_size c (10 ^ s)))

opposite_is : (a : ℤ) → neg_ℤ a ≡ pos 0 -ℤ a
opposite_is a = omega (arith, ints)

opposite_size : (a : ℤ) → unsigned_abs (neg_ℤ a) ≡ unsigned_abs a
opposite_size (pos zero) = refl
opposite_size (pos (suc n)) = refl
opposite_size (negsuc n) = refl

pub ceiling_is : (c : ℤ) (s : ℕ) → unsigned_abs c < limit → ceiling_of (record { coefficient = c; scale = s }) ≡ Ok (record { coefficient = pos 0 -ℤ int_div_euclid (pos 0 -ℤ c) (pos (10 ^ s)); scale = 0 })
unfolding ceiling_of
ceiling_is c s h =
    let k : ℤ = int_div_euclid (neg_ℤ c) (pos (10 ^ s)) in
    let small : unsigned_abs (neg_ℤ k) < limit = omega (arith, opposite_size k, opposite_size c, floor_size (neg_ℤ c) (10 ^ s)) in
    let same : neg_ℤ k ≡ pos 0 -ℤ int_div_euclid (pos 0 -ℤ c) (pos (10 ^ s)) = opposite_is k ∙ ap (λ z. pos 0 -ℤ int_div_euclid z (pos (10 ^ s))) (opposite_is c) in
    whole_is (neg_ℤ k) small ∙ ap (λ z. Ok (record { coefficient = z; scale = 0 })) same

rem_size : (c : ℤ) (q : ℕ) → unsigned_abs (int_rem c (pos q)) ≡ unsigned_abs c % q
rem_size (pos a) q = refl
rem_size (negsuc a) q = size (suc a % q)
  where
    size : (n : ℕ) → unsigned_abs (neg_ℤ (pos n)) ≡ n
    size zero = refl
    size (suc n) = refl

last_digit_kept : (n s : ℕ) → 0 < s → n % 10 ^ s % 10 ≡ n % 10
last_digit_kept n s h = rw (ten_to_split 1 s h) (mod-mod_of_dvd 10 n (dvd-mul_left 10 (10 ^ (s - 1))))

-- what stands behind the point is in lowest form too
pub fraction_part_number : (c : ℤ) (s : ℕ) → IsNumber (record { coefficient = c; scale = s }) → IsNumber (record { coefficient = int_rem c (pos (10 ^ s)); scale = s })
fraction_part_number c s h = record {
  small = rw rem_size (omega (arith, h.small, mod-le (unsigned_abs c) (10 ^ s)));
  places = h.places;
  lowest = λ some. rw (rem_size, last_digit_kept (unsigned_abs c) s some) (h.lowest some);
}

pub fraction_part_is : (c : ℤ) (s : ℕ) → IsNumber (record { coefficient = c; scale = s }) → fraction_part_of (record { coefficient = c; scale = s }) ≡ Ok (record { coefficient = int_rem c (pos (10 ^ s)); scale = s })
unfolding fraction_part_of
fraction_part_is c s h =
    let q : ℕ = 10 ^ s in
    let one : q * 1 ≡ q = omega arith in
    let rest : c *ℤ pos 1 -ℤ int_div c (pos q) *ℤ pos q ≡ int_rem c (pos q) =
    ap (λ z. z -ℤ int_div c (pos q) *ℤ pos q) (times_one c) ∙ ap (λ z. c -ℤ z) (*ℤ_comm (int_div c (pos q)) (pos q)) ∙ sym (left_of c (pos q) (int_div c (pos q)) (int_rem c (pos q)) (quot-rem c (pos q))) in
    number_with_this (minus (ratio c q) (whole (int_div c (pos q)))) (record { coefficient = int_rem c (pos q); scale = s }) (rw one (ten_to_positive s)) (fraction_part_number c s h) (ap (λ k. int_rem c (pos q) *ℤ pos k) one ∙ ap (λ z. z *ℤ pos q) (sym rest))

over_ten : (k : ℤ) (m : ℕ) → 0 < m → over (whole k) (ratio (pos m) 1) ≡ ratio k m
over_ten k zero h = absurd (omega arith)
over_ten k (suc m) h =
    let sign : min (suc m) 1 ≡ 1 = omega arith in
    let size : 1 * suc m ≡ suc m = omega arith in
    rw (sign, size, times_one k, times_one k) refl

over_tenth : (k : ℤ) (m : ℕ) → over (whole k) (ratio (pos 1) m) ≡ whole (k *ℤ pos m)
over_tenth k m = rw (times_one (k *ℤ pos m)) refl

number_at_itself : (c : ℤ) (s : ℕ) → IsNumber (record { coefficient = c; scale = s }) → number_at c s ≡ Ok (record { coefficient = c; scale = s })
number_at_itself c s h = rw (low_itself (record { coefficient = c; scale = s }) h) refl

none_at_all : (c : ℤ) → limit ≤ unsigned_abs c → number_of c 0 ≡ None
none_at_all c h = grind (arith, nat_tests)

beyond : (c : ℤ) → limit ≤ unsigned_abs c → low c 0 ≡ None
unfolding low
beyond c h = rw (stripped_nonzero (unsigned_abs c) 0 (λ z. absurd (omega arith))) (none_at_all (with_sign c (unsigned_abs c)) (rw size_with_sign h))

-- a whole number is a number exactly where its size stays below the limit
pub whole_number_is : (c : ℤ) → number_at c 0 ≡ and_then (bounded c) (λ b. number_at b 0)
whole_number_is c = elim (cases_lt (unsigned_abs c) limit) [
  | inl less ↦ rw (bounded_within c less) refl
  | inr more ↦ rw (bounded_beyond c more, beyond c more) refl
]

-- ---- ROUND
-- at places that the number has, some of them go
round_fewer : (c : ℤ) (q m : ℕ) → 0 < q → 0 < m → floor (plus (times (ratio c (q * m)) (ratio (pos m) 1)) half) ≡ floor (plus (ratio c q) half)
round_fewer c q m some more =
    let up : c *ℤ pos m *ℤ pos 2 +ℤ pos 1 *ℤ pos (q * m * 1) ≡ (c *ℤ pos 2 +ℤ pos 1 *ℤ pos q) *ℤ pos m =
    ap (λ z. z +ℤ pos 1 *ℤ pos (q * m * 1)) (times_turned c m 2) ∙ ap (λ n. c *ℤ pos 2 *ℤ pos m +ℤ pos n) (omega arith) ∙ sym (sum_times (c *ℤ pos 2) (pos 1 *ℤ pos q) m) in
    let down : q * m * 1 * 2 ≡ q * 2 * m = omega arith in
    ap (λ z. int_div_euclid z (pos (q * m * 1 * 2))) up ∙ ap (λ d. int_div_euclid ((c *ℤ pos 2 +ℤ pos 1 *ℤ pos q) *ℤ pos m) (pos d)) down ∙ floor_scaled (c *ℤ pos 2 +ℤ pos 1 *ℤ pos q) (q * 2) m (omega arith) more

-- at more places the number stays
round_more : (c : ℤ) (q j : ℕ) → 0 < q → floor (plus (times (ratio c q) (ratio (pos (j * q)) 1)) half) ≡ c *ℤ pos j
round_more c q j some =
    let up : c *ℤ pos (j * q) *ℤ pos 2 ≡ c *ℤ pos j *ℤ pos (q * 1 * 2) = times_twice c (j * q) 2 ∙ ap (λ n. c *ℤ pos n) (omega arith) ∙ sym (times_twice c j (q * 1 * 2)) in
    ap (λ z. int_div_euclid (z +ℤ pos 1 *ℤ pos (q * 1)) (pos (q * 1 * 2))) up ∙ floor_unique (c *ℤ pos j) (q * 1 * 2) (1 * (q * 1)) (omega arith)

-- at places before the point
round_before : (c : ℤ) (q m : ℕ) → floor (plus (times (ratio c q) (ratio (pos 1) m)) half) ≡ floor (plus (ratio c (q * m)) half)
round_before c q m = ap (λ z. int_div_euclid (z *ℤ pos 2 +ℤ pos 1 *ℤ pos (q * m)) (pos (q * m * 2))) (times_one c)

round_none : (c : ℤ) (d : ℕ) → 2 * unsigned_abs c < d → floor (plus (ratio c d) half) ≡ pos 0
round_none (pos a) d h = ap pos (div-eq_of_lt (omega arith))
round_none (negsuc a) d h = ap (λ z. int_div_euclid z (pos (d * 2))) (above a d (omega arith)) ∙ ap pos (div-eq_of_lt (omega arith))
  where
    above : (a d : ℕ) → 2 * suc a < d → negsuc a *ℤ pos 2 +ℤ pos 1 *ℤ pos d ≡ pos (d - 2 * suc a)
    above a d h = omega (arith, ints)

-- the same value at more places
value_kept : (c : ℤ) (s n : ℕ) → s ≤ n → c *ℤ pos (10 ^ n) ≡ c *ℤ pos (10 ^ (n - s)) *ℤ pos (10 ^ s)
value_kept c s n h = ap (λ k. c *ℤ pos k) (ten_to_split s n h) ∙ sym (times_twice c (10 ^ (n - s)) (10 ^ s))

kept : (c : ℤ) (s n : ℕ) → IsNumber (record { coefficient = c; scale = s }) → s ≤ n → number_with (over (whole (c *ℤ pos (10 ^ (n - s)))) (power_of_ten (pos n))) ≡ Ok (record { coefficient = c; scale = s })
kept c s n h g = ap number_with (over_ten (c *ℤ pos (10 ^ (n - s))) (10 ^ n) (ten_to_positive n)) ∙ number_with_this (ratio (c *ℤ pos (10 ^ (n - s))) (10 ^ n)) (record { coefficient = c; scale = s }) (ten_to_positive n) h (value_kept c s n g)

at_places : (k : ℤ) (n : ℕ) → number_with (over (whole k) (power_of_ten (pos n))) ≡ number_at k n
at_places k n = ap number_with (over_ten k (10 ^ n) (ten_to_positive n)) ∙ number_with_is (ratio k (10 ^ n)) k n (ten_to_positive n) refl

before_point : (k : ℤ) (n : ℕ) → number_with (over (whole k) (power_of_ten (negsuc n))) ≡ number_at (k *ℤ pos (10 ^ suc n)) 0
before_point k n = ap number_with (over_tenth k (10 ^ suc n)) ∙ number_with_is (whole (k *ℤ pos (10 ^ suc n))) (k *ℤ pos (10 ^ suc n)) 0 (omega arith) refl

pub rounded_kept : (c : ℤ) (s n : ℕ) → IsNumber (record { coefficient = c; scale = s }) → s ≤ n → rounded_to (record { coefficient = c; scale = s }) (pos n) ≡ Ok (record { coefficient = c; scale = s })
unfolding rounded_to
rounded_kept c s n h g =
    let split : 10 ^ n ≡ 10 ^ (n - s) * 10 ^ s = ten_to_split s n g in
    let same : floor (plus (times (ratio c (10 ^ s)) (ratio (pos (10 ^ n)) 1)) half) ≡ c *ℤ pos (10 ^ (n - s)) =
    ap (λ k. floor (plus (times (ratio c (10 ^ s)) (ratio (pos k) 1)) half)) split ∙ round_more c (10 ^ s) (10 ^ (n - s)) (ten_to_positive s) in
    ap (λ k. number_with (over (whole k) (power_of_ten (pos n)))) same ∙ kept c s n h g

pub rounded_fewer : (c : ℤ) (s n : ℕ) → n < s → rounded_to (record { coefficient = c; scale = s }) (pos n) ≡ number_at (floor (plus (ratio c (10 ^ (s - n))) half)) n
unfolding rounded_to
rounded_fewer c s n g =
    let split : 10 ^ s ≡ 10 ^ (s - n) * 10 ^ n = ten_to_split n s (omega arith) in
    let same : floor (plus (times (ratio c (10 ^ s)) (ratio (pos (10 ^ n)) 1)) half) ≡ floor (plus (ratio c (10 ^ (s - n))) half) =
    ap (λ k. floor (plus (times (ratio c k) (ratio (pos (10 ^ n)) 1)) half)) split ∙ round_fewer c (10 ^ (s - n)) (10 ^ n) (ten_to_positive (s - n)) (ten_to_positive n) in
    ap (λ k. number_with (over (whole k) (power_of_ten (pos n)))) same ∙ at_places (floor (plus (ratio c (10 ^ (s - n))) half)) n

pub rounded_before : (c : ℤ) (s n : ℕ) → 0 < n → rounded_to (record { coefficient = c; scale = s }) (neg_ℤ (pos n)) ≡ number_at (floor (plus (ratio c (10 ^ (s + n))) half) *ℤ pos (10 ^ n)) 0
unfolding rounded_to
rounded_before c s zero h = absurd (omega arith)
rounded_before c s (suc n) h =
    let both : 10 ^ s * 10 ^ suc n ≡ 10 ^ (s + suc n) = sym (pow-add 10 s (suc n)) in
    let same : floor (plus (times (ratio c (10 ^ s)) (ratio (pos 1) (10 ^ suc n))) half) ≡ floor (plus (ratio c (10 ^ (s + suc n))) half) =
    round_before c (10 ^ s) (10 ^ suc n) ∙ ap (λ k. floor (plus (ratio c k) half)) both in
    ap (λ k. number_with (over (whole k) (power_of_ten (negsuc n)))) same ∙ before_point (floor (plus (ratio c (10 ^ (s + suc n))) half)) n

zero_times : (k : ℕ) → pos 0 *ℤ pos k ≡ pos 0
zero_times k = let none : 0 * k ≡ 0 = omega arith in rw none refl

zero_number : number_at (pos 0) 0 ≡ Ok (record { coefficient = pos 0; scale = 0 })
zero_number = number_at_itself (pos 0) 0 (small_whole (pos 0) (omega arith))

pub rounded_away : (c : ℤ) (s n : ℕ) → unsigned_abs c < limit → 38 - s < n → rounded_to (record { coefficient = c; scale = s }) (neg_ℤ (pos n)) ≡ Ok (record { coefficient = pos 0; scale = 0 })
rounded_away c s n h g =
    let far : 2 * unsigned_abs c < 10 ^ (s + n) = omega (arith, h, ten_to_rises 39 (s + n) (omega arith)) in
    rounded_before c s n (omega arith) ∙ ap (λ k. number_at (k *ℤ pos (10 ^ n)) 0) (round_none c (10 ^ (s + n)) far) ∙ ap (λ k. number_at k 0) (zero_times (10 ^ n)) ∙ zero_number

-- ---- TRUNCATE
cut_scaled : (c : ℤ) (q m : ℕ) → 0 < m → int_div (c *ℤ pos m) (pos (q * m * 1)) ≡ int_div c (pos q)
cut_scaled c q m h = ap (λ d. int_div (c *ℤ pos m) (pos d)) (omega arith) ∙ scaled c q m h
  where
    scaled : (c : ℤ) (q m : ℕ) → 0 < m → int_div (c *ℤ pos m) (pos (q * m)) ≡ int_div c (pos q)
    scaled (pos a) q m h = ap pos (mul-div-mul_right a q h)
    scaled (negsuc a) q m h = div_negative (suc a * m) (q * m) ∙ ap (λ n. neg_ℤ (pos n)) (mul-div-mul_right (suc a) q h)

cut_none : (c : ℤ) (d : ℕ) → unsigned_abs c < d → int_div c (pos d) ≡ pos 0
cut_none (pos a) d h = ap pos (div-eq_of_lt h)
cut_none (negsuc a) d h = ap (λ n. neg_ℤ (pos n)) (div-eq_of_lt h)

pub truncated_kept : (c : ℤ) (s n : ℕ) → IsNumber (record { coefficient = c; scale = s }) → s ≤ n → truncated_to (record { coefficient = c; scale = s }) (pos n) ≡ Ok (record { coefficient = c; scale = s })
unfolding truncated_to
truncated_kept c s n h g =
    let one : 10 ^ s * 1 ≡ 10 ^ s = omega arith in
    let same : int_div (c *ℤ pos (10 ^ n)) (pos (10 ^ s * 1)) ≡ c *ℤ pos (10 ^ (n - s)) =
    ap (λ d. int_div (c *ℤ pos (10 ^ n)) (pos d)) one ∙ ap (λ z. int_div z (pos (10 ^ s))) (value_kept c s n g) ∙ div_exact (c *ℤ pos (10 ^ (n - s))) (10 ^ s) (ten_to_positive s) in
    ap (λ k. number_with (over (whole k) (power_of_ten (pos n)))) same ∙ kept c s n h g

pub truncated_fewer : (c : ℤ) (s n : ℕ) → n < s → truncated_to (record { coefficient = c; scale = s }) (pos n) ≡ number_at (int_div c (pos (10 ^ (s - n)))) n
unfolding truncated_to
truncated_fewer c s n g =
    let split : 10 ^ s ≡ 10 ^ (s - n) * 10 ^ n = ten_to_split n s (omega arith) in
    let same : int_div (c *ℤ pos (10 ^ n)) (pos (10 ^ s * 1)) ≡ int_div c (pos (10 ^ (s - n))) =
    ap (λ k. int_div (c *ℤ pos (10 ^ n)) (pos (k * 1))) split ∙ cut_scaled c (10 ^ (s - n)) (10 ^ n) (ten_to_positive n) in
    ap (λ k. number_with (over (whole k) (power_of_ten (pos n)))) same ∙ at_places (int_div c (pos (10 ^ (s - n)))) n

pub truncated_before : (c : ℤ) (s n : ℕ) → 0 < n → truncated_to (record { coefficient = c; scale = s }) (neg_ℤ (pos n)) ≡ number_at (int_div c (pos (10 ^ (s + n))) *ℤ pos (10 ^ n)) 0
unfolding truncated_to
truncated_before c s zero h = absurd (omega arith)
truncated_before c s (suc n) h =
    let both : 10 ^ s * 10 ^ suc n ≡ 10 ^ (s + suc n) = sym (pow-add 10 s (suc n)) in
    let same : int_div (c *ℤ pos 1) (pos (10 ^ s * 10 ^ suc n)) ≡ int_div c (pos (10 ^ (s + suc n))) =
    ap (λ z. int_div z (pos (10 ^ s * 10 ^ suc n))) (times_one c) ∙ ap (λ k. int_div c (pos k)) both in
    ap (λ k. number_with (over (whole k) (power_of_ten (negsuc n)))) same ∙ before_point (int_div c (pos (10 ^ (s + suc n)))) n

pub truncated_away : (c : ℤ) (s n : ℕ) → unsigned_abs c < limit → 38 - s < n → truncated_to (record { coefficient = c; scale = s }) (neg_ℤ (pos n)) ≡ Ok (record { coefficient = pos 0; scale = 0 })
truncated_away c s n h g =
    let far : unsigned_abs c < 10 ^ (s + n) = omega (arith, h, ten_to_rises 38 (s + n) (omega arith)) in
    truncated_before c s n (omega arith) ∙ ap (λ k. number_at (k *ℤ pos (10 ^ n)) 0) (cut_none c (10 ^ (s + n)) far) ∙ ap (λ k. number_at k 0) (zero_times (10 ^ n)) ∙ zero_number

-- a number below zero, from its size
pub below_from_size : (n : ℤ) → int_lt n (pos 0) ≡ true → neg_ℤ (pos (unsigned_abs n)) ≡ n
below_from_size (pos a) h = absurd (not_below a h)
  where
    not_below : (a : ℕ) → int_lt (pos a) (pos 0) ≡ true → ⊥
    not_below a h = grind (arith, nat_tests)
below_from_size (negsuc a) h = refl
