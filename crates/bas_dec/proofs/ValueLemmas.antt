-- The number next to a value, however the value is written as a fraction.
use Rattle.std.proofs.Common.{◌≡◌, ℕ, zero, suc, ◌+◌, ◌-◌, ◌*◌, ◌/◌, ◌%◌, ◌^◌, ◌<◌, ◌≤◌, min, arith, refl, ap, ◌∙◌, sym, inl, inr, add-zero, add-suc, pos, None, Bool, false, List, ◌++◌, length, if◌then◌else◌}
use Rattle.std.proofs.Math.Nat.{pow-suc, mul-div-mul_right}
use Rattle.std.proofs.lemmas.Nat.{pow-add, div-mul-add}
use Rattle.std.proofs.lemmas.Bool.{cases_lt}
use Rattle.std.proofs.lemmas.Bool.Decides.{nat_tests}
use Rattle.std.proofs.lemmas.List.Sums.{fold-append}
use Rattle.bas_dec.specs.Number.{low, number_of, rounded}
use Rattle.bas_dec.specs.Numeral.{nearest_number, value_or_too_large, written_behind, number_written, answer_of, is_too_long}
use Rattle.bas_dec.specs.declared.TheConstants.{PLACES}
use Rattle.bas_dec.specs.declared.numeral.Numeral.TheVariants.{TooLarge}
use Rattle.bas_dec.proofs.Lowest.{stripped_zero, stripped_nonzero}
use Rattle.bas_dec.proofs.Powers.{ten_to_positive}

pub low_pop : (n s : ℕ) → 0 < s → n % 10 ≡ 0 → low (pos n) s ≡ low (pos (n / 10)) (s - 1)
unfolding low
low_pop n s h e = ap (λ (p : ℕ × ℕ). number_of (pos p.0) p.1) (stripped_zero n s h e)

number_beyond : (n s : ℕ) → 10 ^ 38 ≤ n → number_of (pos n) s ≡ None
number_beyond n s h = grind (arith, nat_tests)

pub low_beyond : (n s : ℕ) → 10 ^ 38 ≤ n → (0 < s → 0 < n % 10) → low (pos n) s ≡ None
unfolding low
low_beyond n s h left = ap (λ (p : ℕ × ℕ). number_of (pos p.0) p.1) (stripped_nonzero n s left) ∙ number_beyond n s h

-- zeros behind the digits of a fraction change no value
low_raised_once : (n s : ℕ) → low (pos (n * 10)) (suc s) ≡ low (pos n) s
low_raised_once n s = low_pop (n * 10) (suc s) (omega arith) (omega arith) ∙ ap (λ m. low (pos m) (suc s - 1)) (omega arith) ∙ ap (low (pos n)) (omega arith)

pub low_raised : (n s j : ℕ) → low (pos (n * 10 ^ j)) (s + j) ≡ low (pos n) s
low_raised n s zero = ap (λ m. low (pos m) (s + 0)) (omega arith) ∙ ap (low (pos n)) (add-zero s)
low_raised n s (suc j) =
    let more : n * 10 ^ suc j ≡ n * 10 ^ j * 10 = rw pow-suc (omega arith) in
    rw (more, add-suc) (low_raised_once (n * 10 ^ j) (s + j) ∙ low_raised n s j)

-- a whole fraction is rounded to itself
rounded_whole : (m q : ℕ) → 0 < q → rounded (pos (m * q)) q ≡ pos m
rounded_whole m q h =
    let parted : 2 * (m * q) + q ≡ m * (2 * q) + q = omega arith in
    ap pos (ap (λ z. z / (2 * q)) parted ∙ div-mul-add m (2 * q) q (omega arith))

-- a common factor of numerator and denominator changes nothing
rounded_cancel : (a q k : ℕ) → 0 < k → rounded (pos (a * k)) (q * k) ≡ rounded (pos a) q
rounded_cancel a q k h =
    let over : 2 * (a * k) + q * k ≡ (2 * a + q) * k = omega arith in
    let under : 2 * (q * k) ≡ 2 * q * k = omega arith in
    ap pos (ap (λ z. z / (2 * (q * k))) over ∙ ap (λ z. (2 * a + q) * k / z) under ∙ mul-div-mul_right (2 * a + q) (2 * q) h)

pub nearest_few : (n s : ℕ) → s ≤ PLACES → nearest_number n s ≡ low (pos n) s
nearest_few n s h =
    let d : ℕ = PLACES - s in
    let sum : s + d ≡ PLACES = omega arith in
    let parted : n * 10 ^ PLACES ≡ n * 10 ^ d * 10 ^ s = ap (λ k. n * 10 ^ k) (sym sum) ∙ ap (λ k. n * k) (pow-add 10 s d) ∙ omega arith in
    ap (λ m. low (rounded (pos m) (10 ^ s)) PLACES) parted ∙ ap (λ c. low c PLACES) (rounded_whole (n * 10 ^ d) (10 ^ s) (ten_to_positive s)) ∙ ap (low (pos (n * 10 ^ d))) (sym sum) ∙ low_raised n s d

pub nearest_many : (n s : ℕ) → PLACES ≤ s → nearest_number n s ≡ low (rounded (pos n) (10 ^ (s - PLACES))) PLACES
nearest_many n s h =
    let parted : 10 ^ s ≡ 10 ^ (s - PLACES) * 10 ^ PLACES = ap (λ k. 10 ^ k) (omega arith) ∙ pow-add 10 (s - PLACES) PLACES in
    ap (λ q. low (rounded (pos (n * 10 ^ PLACES)) q) PLACES) parted ∙ ap (λ c. low c PLACES) (rounded_cancel n (10 ^ (s - PLACES)) (10 ^ PLACES) (ten_to_positive PLACES))

-- the code's way to the number: rounded to the places that a number has, and then read as a whole number over its places
pub nearest_rounded : (n s : ℕ) → low (pos ((2 * n + 10 ^ (s - PLACES)) / (2 * 10 ^ (s - PLACES)))) (min s PLACES) ≡ nearest_number n s
nearest_rounded n s = elim (cases_lt PLACES s) [
  | inl more ↦ let e : min s PLACES ≡ PLACES = omega arith in rw e (sym (nearest_many n s (omega arith)))
  | inr few ↦ let e : min s PLACES ≡ s = omega arith in
      let none : s - PLACES ≡ 0 = omega arith in
      let same : (2 * n + 1) / 2 ≡ n = omega arith in
      rw (e, none, same) (sym (nearest_few n s few))
]

pub nearest_beyond : (n s : ℕ) → s ≡ 0 → 10 ^ 38 ≤ n → TooLarge ≡ value_or_too_large (nearest_number n s)
nearest_beyond n s e h = rw (e, nearest_few n 0 (omega arith), low_beyond n 0 h (λ some. absurd (omega arith))) refl

-- zeros above and places below are taken off together
pub nearest_shifted : (n z s : ℕ) → nearest_number (n * 10 ^ (z - s)) (s - z) ≡ nearest_number (n * 10 ^ z) s
nearest_shifted n z s = elim (cases_lt z s) [
  | inl more ↦
      let none : z - s ≡ 0 = omega arith in
      let under : 10 ^ s ≡ 10 ^ (s - z) * 10 ^ z = ap (λ k. 10 ^ k) (omega arith) ∙ pow-add 10 (s - z) z in
      let over : n * 10 ^ z * 10 ^ PLACES ≡ n * 1 * 10 ^ PLACES * 10 ^ z = omega arith in
      rw (none, under, over) (ap (λ c. low c PLACES) (sym (rounded_cancel (n * 1 * 10 ^ PLACES) (10 ^ (s - z)) (10 ^ z) (ten_to_positive z))))
  | inr few ↦
      let none : s - z ≡ 0 = omega arith in
      let above : 10 ^ z ≡ 10 ^ (z - s) * 10 ^ s = ap (λ k. 10 ^ k) (omega arith) ∙ pow-add 10 (z - s) s in
      let over : n * 10 ^ z * 10 ^ PLACES ≡ n * 10 ^ (z - s) * 10 ^ PLACES * 10 ^ s = ap (λ k. n * k * 10 ^ PLACES) above ∙ omega arith in
      let under : 10 ^ s ≡ 1 * 10 ^ s = omega arith in
      let whole : rounded (pos (n * 10 ^ z * 10 ^ PLACES)) (10 ^ s) ≡ rounded (pos (n * 10 ^ (z - s) * 10 ^ PLACES)) 1 =
      ap (λ m. rounded (pos m) (10 ^ s)) over ∙ ap (rounded (pos (n * 10 ^ (z - s) * 10 ^ PLACES * 10 ^ s))) under ∙ rounded_cancel (n * 10 ^ (z - s) * 10 ^ PLACES) 1 (10 ^ s) (ten_to_positive s) in
      ap (nearest_number (n * 10 ^ (z - s))) none ∙ ap (λ c. low c PLACES) (sym whole)
]

written_joined : (xs ys : List ℕ) → written_behind (written_behind 0 xs) ys ≡ number_written (xs ++ ys)
written_joined xs ys = sym (fold-append (λ m digit. m * 10 + (digit - 48)) 0 xs ys)

-- the answer to parts that are not too long
pub answer_short : (whole fraction exponent : List ℕ) (negative : Bool) (n z s : ℕ) → n ≡ written_behind (written_behind 0 whole) fraction → length whole + length fraction ≤ 60 → length exponent ≤ 3 → z ≡ (if negative then 0 else number_written exponent) → s ≡ (if negative then number_written exponent else 0) + length fraction → value_or_too_large (nearest_number (n * 10 ^ (z - s)) (s - z)) ≡ answer_of (record { whole = whole; fraction = fraction; negative = negative; exponent = exponent })
answer_short whole fraction exponent negative n z s digits few short zeros places =
    let fits : is_too_long (record { whole = whole; fraction = fraction; negative = negative; exponent = exponent }) ≡ false = grind (arith, nat_tests) in
    rw (fits, nearest_shifted, digits, written_joined, zeros, places) refl
