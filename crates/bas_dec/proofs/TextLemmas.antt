-- The digits of a printed number, and the room that its text takes.
use Rattle.std.proofs.Common.{◌≡◌, ◌⊎◌, ℕ, zero, suc, ◌+◌, ◌-◌, ◌*◌, ◌/◌, ◌%◌, ◌^◌, ◌<◌, ◌≤◌, arith, refl, ap, ◌∙◌, sym, inl, inr, false, ◌==◌, List, [], ◌∷◌, ◌++◌, length, append_assoc, add-one}
use Rattle.std.specs.Prelude.{unsigned_abs}
use Rattle.std.specs.Fmt.{decimal}
use Rattle.std.proofs.Math.Numerals.{sub-one}
use Rattle.std.proofs.Math.Nat.{eq-zero-or-pos}
use Rattle.std.proofs.lemmas.Bool.{ne_eqb}
use Rattle.std.proofs.lemmas.Bool.Decides.{nat_tests}
use Rattle.std.proofs.lemmas.List.{length_push}
use Rattle.std.proofs.lemmas.Nat.{pow-add, div_below}
use Rattle.std.proofs.lemmas.Fmt.{decimal_digit, decimal_step_wide, decimal_is_IsNumeral_wide, length-decimal-le_wide}
use Rattle.bas_dec.specs.Number.{Number}
use Rattle.bas_dec.specs.Text.{last_digits, whole_text, fraction_text, size_text, sign_byte, text_of}
use Rattle.bas_dec.proofs.Powers.{ten_to_positive, ten_to_rises}

pub last_digits_none : (n : ℕ) (rest : List ℕ) → last_digits n 0 ++ rest ≡ rest
unfolding last_digits
last_digits_none n rest = refl

-- the last of the digits stands in front of the rest
pub last_digits_next : (n count : ℕ) (rest : List ℕ) → 0 < count → last_digits (n / 10) (count - 1) ++ (48 + n % 10) ∷ rest ≡ last_digits n count ++ rest
unfolding last_digits
last_digits_next n zero rest h = absurd (omega arith)
last_digits_next n (suc count) rest h = rw (sub-one, append_assoc) refl

pub length-last_digits : (n count : ℕ) → length (last_digits n count) ≡ count
unfolding last_digits
length-last_digits n zero = refl
length-last_digits n (suc count) = length_push (last_digits (n / 10) count) (48 + n % 10) ∙ ap (λ k. k + 1) (length-last_digits (n / 10) count) ∙ add-one count

pub decimal_some : (n : ℕ) → n < 10 ^ 38 → 0 < length (decimal n)
decimal_some n h = (decimal_is_IsNumeral_wide n (omega arith)).0.0

pub decimal_next : (n : ℕ) (rest : List ℕ) → 10 ≤ n → n < 10 ^ 38 → decimal (n / 10) ++ (48 + n % 10) ∷ rest ≡ decimal n ++ rest
decimal_next n rest h g = rw (decimal_step_wide n h (omega arith), append_assoc) refl

pub length-decimal_next : (n : ℕ) → 10 ≤ n → n < 10 ^ 38 → length (decimal (n / 10)) + 1 ≡ length (decimal n)
length-decimal_next n h g = rw (decimal_step_wide n h (omega arith)) (sym (length_push (decimal (n / 10)) (48 + n % 10)))

pub decimal_last : (n : ℕ) (rest : List ℕ) → n < 10 → (48 + n) ∷ rest ≡ decimal n ++ rest
decimal_last n rest h = rw (decimal_digit n h) refl

pub whole_text_some : (n places : ℕ) → (n ≡ 0 → places ≡ 0) → whole_text n places ≡ decimal n
unfolding whole_text
whole_text_some n places h = elim (eq-zero-or-pos n) [
  | inl none ↦ rw (h none, none) refl
  | inr some ↦ let off : (n == 0) ≡ false = ne_eqb n 0 (λ e. omega arith) in rw off refl
]

pub whole_text_shown : (n places : ℕ) → (0 < n) ⊎ ((n ≤ 0) × (places ≡ 0)) → whole_text n places ≡ decimal n
whole_text_shown n places (inl some) = whole_text_some n places (λ e. absurd (omega arith))
whole_text_shown n places (inr alone) = whole_text_some n places (λ e. alone.1)

pub whole_text_none : (n places : ℕ) → n ≡ 0 → 0 < places → whole_text n places ≡ []
unfolding whole_text
whole_text_none n places e h = grind (arith, nat_tests)

pub fraction_text_none : (size places : ℕ) → places ≡ 0 → fraction_text size places ≡ []
unfolding fraction_text
fraction_text_none size places e = rw e refl

pub fraction_text_some : (size places : ℕ) → 0 < places → fraction_text size places ≡ 46 ∷ last_digits size places
unfolding fraction_text
fraction_text_some size zero h = absurd (omega arith)
fraction_text_some size (suc places) h = refl

pub length-fraction_text : (size places : ℕ) → 0 < places → length (fraction_text size places) ≡ places + 1
length-fraction_text size places h = rw (fraction_text_some size places h) (ap suc (length-last_digits size places) ∙ sym (add-one places))

-- as many places as a number has, so many digits fewer has its whole part
whole_room : (size places : ℕ) → places ≤ 38 → size < 10 ^ 38 → 0 < size / 10 ^ places → length (decimal (size / 10 ^ places)) + (places + 1) ≤ 40
whole_room size places h g some =
    let whole : 38 ≡ 38 - places + places = omega arith in
    let split : 10 ^ 38 ≡ 10 ^ (38 - places) * 10 ^ places = ap (λ k. 10 ^ k) whole ∙ pow-add 10 (38 - places) places in
    let small : size / 10 ^ places < 10 ^ (38 - places) = div_below size (10 ^ places) (10 ^ (38 - places)) (ten_to_positive places) (omega (arith, split)) in
    let few : 10 ^ (38 - places) ≤ 10 ^ 38 = ten_to_rises (38 - places) 38 (omega arith) in
    elim (eq-zero-or-pos (38 - places)) [
      | inl none ↦ absurd (none_left (size / 10 ^ places) (38 - places) none some small)
      | inr left ↦ omega (arith, length-decimal-le_wide (38 - places) (size / 10 ^ places) left small (omega arith))
    ]
  where
    none_left : (n k : ℕ) → k ≡ 0 → 0 < n → n < 10 ^ k → ⊥
    none_left n k e some small = absurd (omega (arith, rw e at small))

-- the digits and the point of a number of at most 38 digits
pub text_room : (size places : ℕ) → places ≤ 38 → size < 10 ^ 38 → length (whole_text (size / 10 ^ places) places) + length (fraction_text size places) ≤ 40
text_room size zero h g =
    rw (whole_text_some (size / 10 ^ 0) 0 (λ e. refl), fraction_text_none size 0 refl) (omega (arith, length-decimal-le_wide 38 (size / 10 ^ 0) (omega arith) (omega arith) (omega arith)))
text_room size (suc s) h g = rw (length-fraction_text size (suc s) (omega arith)) (elim (eq-zero-or-pos (size / 10 ^ suc s)) [
  | inl none ↦ rw (whole_text_none (size / 10 ^ suc s) (suc s) none (omega arith)) (omega arith)
  | inr some ↦ rw (whole_text_some (size / 10 ^ suc s) (suc s) (λ e. omega arith)) (whole_room size (suc s) h g some)
])

pub text_of_is : (x : Number) → text_of x ≡ sign_byte x.coefficient ∷ (size_text (unsigned_abs x.coefficient) x.scale ++ 32 ∷ [])
unfolding text_of
text_of_is x = refl
