-- The digits and the point of a printed number are a numeral of its size.
use Rattle.std.proofs.Common.{◌≡◌, ◌⊎◌, ◌≤◌, ℕ, zero, suc, ◌+◌, ◌-◌, ◌*◌, ◌/◌, ◌%◌, ◌^◌, ◌<◌, arith, refl, ap, ◌∙◌, sym, subst, inl, inr, true, false, if◌then◌else◌, pos, List, [], ◌∷◌, ◌++◌, length, Some, lit<}
use Rattle.std.specs.Prelude.{unsigned_abs}
use Rattle.std.specs.Char.{is_ascii_digit}
use Rattle.std.specs.Fmt.{decimal}
use Rattle.std.proofs.Math.Nat.{eq-zero-or-pos, pow-suc, div-le_self}
use Rattle.std.proofs.lemmas.Bool.Decides.{nat_tests}
use Rattle.std.proofs.lemmas.List.{append-nil}
use Rattle.std.proofs.lemmas.List.Elements.{All-push}
use Rattle.std.proofs.lemmas.List.Sums.{fold_push, fold-append}
use Rattle.std.proofs.lemmas.Nat.{mod-mul-add, div-add-mod', mod_below}
use Rattle.std.proofs.lemmas.Fmt.{decimal_by_steps_wide}
use Rattle.bas_dec.specs.Number.{Number, IsNumber, low, number_of}
use Rattle.bas_dec.specs.NumeralForm.{Parts, AreDigits, IsMantissa, IsNumeral, no_point, no_exponent}
use Rattle.bas_dec.specs.Numeral.{written_behind, number_written, numerator, places as places_of, nearest_number, answer_of, is_too_long, value_or_too_large, numeral_of}
use Rattle.bas_dec.specs.Text.{last_digits, whole_text, size_text}
use Rattle.bas_dec.specs.declared.TheConstants.{PLACES}
use Rattle.bas_dec.specs.declared.numeral.Numeral.TheVariants.{Value, TooLarge}
use Rattle.bas_dec.proofs.Powers.{ten_to_positive}
use Rattle.bas_dec.proofs.Lowest.{stripped_nonzero}
use Rattle.bas_dec.proofs.ValueLemmas.{nearest_few}
use Rattle.bas_dec.proofs.TextLemmas.{decimal_some, length-last_digits, whole_text_some, whole_text_none, fraction_text_none, fraction_text_some, length-fraction_text, text_room}
use Rattle.bas_dec.proofs.NumeralLemmas.{mantissa_found}
use Rattle.bas_dec.proofs.AnswerLemmas.{answer_is}

digit_byte : (d : ℕ) → d < 10 → is_ascii_digit (48 + d) ≡ true
digit_byte d h = grind (arith, nat_tests)

digits_push : (ds : List ℕ) (d : ℕ) → AreDigits ds → d < 10 → AreDigits (ds ++ (48 + d) ∷ [])
digits_push ds d h g = All-push (λ c. is_ascii_digit c ≡ true) ds (48 + d) h (digit_byte d g)

written_push : (m : ℕ) (ds : List ℕ) (d : ℕ) → written_behind m (ds ++ (48 + d) ∷ []) ≡ written_behind m ds * 10 + d
written_push m ds d = fold_push (λ n digit. n * 10 + (digit - 48)) m ds (48 + d) ∙ omega arith

-- digits that write n
record Writes (n : ℕ) (ds : List ℕ) : Type 0 where
  digits : AreDigits ds
  number : number_written ds ≡ n

decimal_writes : (n : ℕ) → n < 10 ^ 38 → Writes n (decimal n)
decimal_writes n h = decimal_by_steps_wide Writes one more n (omega arith)
  where
    one : (n : ℕ) → n < 10 → Writes n ((48 + n) ∷ [])
    one n g = record { digits = digits_push [] n (λ k d l. absurd (omega arith)) g; number = omega arith }

    more : (n : ℕ) (ds : List ℕ) → 10 ≤ n → Writes (n / 10) ds → Writes n (ds ++ (48 + n % 10) ∷ [])
    more n ds g w = record {
      digits = digits_push ds (n % 10) w.digits (mod_below n 10 (lit< tt));
      number = written_push 0 ds (n % 10) ∙ omega (arith, w.number);
    }

last_are_digits : (n count : ℕ) → AreDigits (last_digits n count)
unfolding last_digits
last_are_digits n zero = λ k d l. absurd (omega arith)
last_are_digits n (suc count) = digits_push (last_digits (n / 10) count) (n % 10) (last_are_digits (n / 10) count) (mod_below n 10 (lit< tt))

mod_next : (n unit : ℕ) → 0 < unit → n % (unit * 10) ≡ n / 10 % unit * 10 + n % 10
mod_next n unit h =
    let few : n / 10 % unit < unit = mod_below (n / 10) unit h in
    let parted : n ≡ n / 10 / unit * (unit * 10) + (n / 10 % unit * 10 + n % 10) = omega (arith, div-add-mod' (n / 10) unit) in
    ap (λ k. k % (unit * 10)) parted ∙ mod-mul-add (n / 10 / unit) (unit * 10) (n / 10 % unit * 10 + n % 10) (omega (arith, mod_below n 10 (lit< tt)))

last_write : (m n count : ℕ) → written_behind m (last_digits n count) ≡ m * 10 ^ count + n % 10 ^ count
unfolding last_digits
last_write m n zero = omega arith
last_write m n (suc count) =
    written_push m (last_digits (n / 10) count) (n % 10) ∙ ap (λ k. k * 10 + n % 10) (last_write m (n / 10) count) ∙ rw (pow-suc, mod_next n (10 ^ count) (ten_to_positive count)) (omega arith)

whole_writes : (n places : ℕ) → n < 10 ^ 38 → Writes n (whole_text n places)
whole_writes n places h = elim (whole_cases n places) [
  | inl shown ↦ rw shown (decimal_writes n h)
  | inr none ↦ rw none.0 (record { digits = λ k d l. absurd (omega arith); number = sym none.1 })
]
  where
    whole_cases : (n places : ℕ) → (whole_text n places ≡ decimal n) ⊎ ((whole_text n places ≡ []) × (n ≡ 0))
    whole_cases n zero = inl (whole_text_some n 0 (λ e. refl))
    whole_cases n (suc places) = elim (eq-zero-or-pos n) [
      | inl e ↦ inr (whole_text_none n (suc places) e (omega arith), e)
      | inr some ↦ inl (whole_text_some n (suc places) (λ e. absurd (omega arith)))
    ]

-- the parts of the digits and the point of size / 10 ^ places
abbrev parts_printed : ℕ → ℕ → Parts
parts_printed size places = record { whole = whole_text (size / 10 ^ places) places; fraction = last_digits size places; negative = false; exponent = [] }

whole_below : (size places : ℕ) → size < 10 ^ 38 → size / 10 ^ places < 10 ^ 38
whole_below size places h = omega (arith, div-le_self size (10 ^ places))

last_digits_zero : (size : ℕ) → last_digits size 0 ≡ []
unfolding last_digits
last_digits_zero size = refl

form_printed : (size places : ℕ) → size < 10 ^ 38 → IsNumeral (size_text size places) (parts_printed size places)
form_printed size zero h =
    let whole : List ℕ = whole_text (size / 10 ^ 0) 0 in
    let shown : whole ≡ decimal (size / 10 ^ 0) = whole_text_some (size / 10 ^ 0) 0 (λ e. refl) in
    let some : 0 < length whole = rw shown (decimal_some (size / 10 ^ 0) (whole_below size 0 h)) in
    let digits : AreDigits whole = (whole_writes (size / 10 ^ 0) 0 (whole_below size 0 h)).digits in
    record {
      mantissa = whole;
      rest = [];
      joined = ap (λ f. whole ++ f) (fraction_text_none size 0 refl);
      is_mantissa = subst (λ f. IsMantissa whole whole f) (sym (last_digits_zero size)) (no_point (record { some = some; digits = digits }));
      is_exponent = no_exponent;
    }
form_printed size (suc count) h =
    let whole : List ℕ = whole_text (size / 10 ^ suc count) (suc count) in
    let fraction : List ℕ = last_digits size (suc count) in
    let some : 0 < length whole + length fraction = omega (arith, length-last_digits size (suc count)) in
    let digits : AreDigits whole = (whole_writes (size / 10 ^ suc count) (suc count) (whole_below size (suc count) h)).digits in
    record {
      mantissa = whole ++ (46 ∷ fraction);
      rest = [];
      joined = ap (λ f. whole ++ f) (fraction_text_some size (suc count) (omega arith)) ∙ sym (append-nil (whole ++ (46 ∷ fraction)));
      is_mantissa = mantissa_found whole fraction digits (last_are_digits size (suc count)) some;
      is_exponent = no_exponent;
    }

number_printed : (size places : ℕ) → size < 10 ^ 38 → number_written (whole_text (size / 10 ^ places) places ++ last_digits size places) ≡ size
number_printed size places h =
    fold-append (λ m digit. m * 10 + (digit - 48)) 0 (whole_text (size / 10 ^ places) places) (last_digits size places) ∙ ap (λ m. written_behind m (last_digits size places)) (whole_writes (size / 10 ^ places) places (whole_below size places h)).number ∙ last_write (size / 10 ^ places) size places ∙ div-add-mod' size (10 ^ places)

digits_few : (size places : ℕ) → places ≤ 38 → size < 10 ^ 38 → length (whole_text (size / 10 ^ places) places) + length (last_digits size places) ≤ 60
digits_few size zero h small = omega (arith, text_room size 0 h small, length-last_digits size 0)
digits_few size (suc count) h small = omega (arith, text_room size (suc count) h small, length-fraction_text size (suc count) (omega arith), length-last_digits size (suc count))

low_itself : (n s : ℕ) → n < 10 ^ 38 → s ≤ PLACES → (0 < s → 0 < n % 10) → low (pos n) s ≡ Some (record { coefficient = pos n; scale = s })
unfolding low
low_itself n s small few lowest = ap (λ (p : ℕ × ℕ). number_of (pos p.0) p.1) (stripped_nonzero n s lowest) ∙ inside n s small few
  where
    inside : (n s : ℕ) → n < 10 ^ 38 → s ≤ PLACES → number_of (pos n) s ≡ Some (record { coefficient = pos n; scale = s })
    inside n s small few = grind (arith, nat_tests)

answer_printed : (size places : ℕ) → size < 10 ^ 38 → places ≤ PLACES → (0 < places → 0 < size % 10) → answer_of (parts_printed size places) ≡ Value (record { coefficient = pos size; scale = places })
answer_printed size places small few lowest =
    let p : Parts = parts_printed size places in
    let digits : length p.whole + length p.fraction ≤ 60 = digits_few size places (omega arith) small in
    let short : is_too_long p ≡ false = grind (arith, nat_tests) in
    let over : numerator p ≡ size = omega (arith, number_printed size places small) in
    let under : places_of p ≡ places = omega (arith, length-last_digits size places) in
    let number : nearest_number (numerator p) (places_of p) ≡ Some (record { coefficient = pos size; scale = places }) =
    ap (λ n. nearest_number n (places_of p)) over ∙ ap (nearest_number size) under ∙ nearest_few size places few ∙ low_itself size places small few lowest in
    ap (λ long. if long then TooLarge else value_or_too_large (nearest_number (numerator p) (places_of p))) short ∙ ap value_or_too_large number

pub reads_back : (x : Number) → IsNumber x → numeral_of (size_text (unsigned_abs x.coefficient) x.scale) ≡ Value (record { coefficient = pos (unsigned_abs x.coefficient); scale = x.scale })
reads_back x h =
    answer_is (size_text (unsigned_abs x.coefficient) x.scale) (parts_printed (unsigned_abs x.coefficient) x.scale) (form_printed (unsigned_abs x.coefficient) x.scale h.small) ∙ answer_printed (unsigned_abs x.coefficient) x.scale h.small h.places h.lowest
