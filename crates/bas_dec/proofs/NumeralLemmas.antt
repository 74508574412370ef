-- A text has the form of a numeral with certain parts exactly where the reader finds these parts.
use Rattle.std.proofs.Common.{◌≡◌, ℕ, suc, ◌+◌, ◌<◌, ◌≤◌, ◌==◌, arith, refl, ap, ◌∙◌, sym, subst, inl, inr, Bool, true, false, List, [], ◌∷◌, ◌++◌, length, append_assoc, Option, Some, None}
use Rattle.std.specs.Prelude.{◌&&◌, ◌||◌, nat_lt}
use Rattle.std.specs.Char.{is_ascii_digit}
use Rattle.std.specs.List.{prefix_len, take_while}
use Rattle.std.proofs.lemmas.Bool.{cases_Bool, and_parts, ne_eqb, eqb-true}
use Rattle.std.proofs.lemmas.Bool.Decides.{nat_tests}
use Rattle.std.proofs.lemmas.List.{append-nil, take_at, drop_at, take-append-drop}
use Rattle.bas_dec.specs.NumeralForm.{Parts, AreDigits, IsDigits, IsMantissa, no_point, point_behind, point_first, IsSign, no_sign, plus, minus, IsLetterE, capital, small, IsExponent, no_exponent, with_exponent, IsNumeral}
use Rattle.bas_dec.specs.Numeral.{behind_digits, fraction_of, sign_of, is_digits, exponent_of, parts_with, parts_of}
use Rattle.bas_dec.proofs.DigitLemmas.{leading_digits, all_digits, digit_range}

-- where a run of digits ends
abbrev NoDigitFirst : List ℕ → Type 0
NoDigitFirst [] = Unit {0}
NoDigitFirst (c ∷ cs) = is_ascii_digit c ≡ false

run : (digits rest : List ℕ) → AreDigits digits → NoDigitFirst rest → prefix_len is_ascii_digit (digits ++ rest) ≡ length digits
run [] [] h ends = refl
run [] (c ∷ cs) h ends = rw ends refl
run (d ∷ ds) rest h ends =
    let first : is_ascii_digit d ≡ true = h 0 0 (omega arith) in
    let more : AreDigits ds = λ k e l. h (suc k) e (omega arith) in
    rw (first, run ds rest more ends) (omega arith)

digits_first : (digits rest : List ℕ) → AreDigits digits → NoDigitFirst rest → take_while is_ascii_digit (digits ++ rest) ≡ digits
digits_first digits rest h ends = rw (run digits rest h ends) (take_at digits rest (length digits) refl)

rest_behind : (digits rest : List ℕ) → AreDigits digits → NoDigitFirst rest → behind_digits (digits ++ rest) ≡ rest
rest_behind digits rest h ends = rw (run digits rest h ends) (drop_at digits rest (length digits) refl)

reads_digits : (digits : List ℕ) → IsDigits digits → is_digits digits ≡ true
reads_digits digits h =
    let all : prefix_len is_ascii_digit digits ≡ length digits = ap (prefix_len is_ascii_digit) (sym (append-nil digits)) ∙ run digits [] h.digits tt in
    let some : 0 < length digits = h.some in
    grind (arith, nat_tests)

reads_sign : (sign digits : List ℕ) (negative : Bool) → IsSign sign negative → IsDigits digits → sign_of (sign ++ digits) ≡ (negative, digits)
reads_sign _ digits _ plus h = refl
reads_sign _ digits _ minus h = refl
reads_sign _ [] _ no_sign h = let some : 0 < 0 = h.some in absurd (omega arith)
reads_sign _ (d ∷ ds) _ no_sign h =
    let range : (48 ≤ d) × (d ≤ 57) = digit_range d (h.digits 0 0 (omega arith)) in
    let no_minus : (d == 45) ≡ false = ne_eqb d 45 (λ e. omega arith) in
    let no_plus : (d == 43) ≡ false = ne_eqb d 43 (λ e. omega arith) in
    rw (no_minus, no_plus) refl

reads_exponent : (text : List ℕ) (negative : Bool) (digits : List ℕ) → IsExponent text negative digits → exponent_of text ≡ Some (negative, digits)
reads_exponent _ _ _ no_exponent = refl
reads_exponent _ negative digits (with_exponent {sign = sign} capital s h) = rw (reads_sign sign digits negative s h, reads_digits digits h) refl
reads_exponent _ negative digits (with_exponent {sign = sign} small s h) = rw (reads_sign sign digits negative s h, reads_digits digits h) refl

exponent_ends : (text : List ℕ) (negative : Bool) (digits : List ℕ) → IsExponent text negative digits → NoDigitFirst text × (fraction_of text ≡ ([], text))
exponent_ends _ _ _ no_exponent = (tt, refl)
exponent_ends _ _ _ (with_exponent capital s h) = (refl, refl)
exponent_ends _ _ _ (with_exponent small s h) = (refl, refl)

-- the parts of a mantissa and an exponent
module _ (rest : List ℕ) (negative : Bool) (exponent : List ℕ) (e : IsExponent rest negative exponent) where
  joins : (whole fraction : List ℕ) → 0 < length whole + length fraction → parts_with whole fraction (exponent_of rest) ≡ Some (record { whole = whole; fraction = fraction; negative = negative; exponent = exponent })
  joins whole fraction some =
      let test : nat_lt 0 (length whole + length fraction) ≡ true = grind (arith, nat_tests) in
      rw (reads_exponent rest negative exponent e, test) refl

  reads_no_point : (whole : List ℕ) → IsDigits whole → parts_of (whole ++ rest) ≡ Some (record { whole = whole; fraction = []; negative = negative; exponent = exponent })
  reads_no_point whole h =
      let ends : NoDigitFirst rest × (fraction_of rest ≡ ([], rest)) = exponent_ends rest negative exponent e in
      let some : 0 < length whole = h.some in
      rw (digits_first whole rest h.digits ends.0, rest_behind whole rest h.digits ends.0, ends.1) (joins whole [] (omega arith))

  reads_point : (whole fraction : List ℕ) → AreDigits whole → AreDigits fraction → 0 < length whole + length fraction → parts_of (whole ++ (46 ∷ (fraction ++ rest))) ≡ Some (record { whole = whole; fraction = fraction; negative = negative; exponent = exponent })
  reads_point whole fraction w f some =
      let ends : NoDigitFirst rest × (fraction_of rest ≡ ([], rest)) = exponent_ends rest negative exponent e in
      rw (digits_first whole (46 ∷ (fraction ++ rest)) w refl, rest_behind whole (46 ∷ (fraction ++ rest)) w refl, digits_first fraction rest f ends.0, rest_behind fraction rest f ends.0) (joins whole fraction some)

  reads_mantissa : (text whole fraction : List ℕ) → IsMantissa text whole fraction → parts_of (text ++ rest) ≡ Some (record { whole = whole; fraction = fraction; negative = negative; exponent = exponent })
  reads_mantissa text _ _ (no_point h) = reads_no_point text h
  reads_mantissa _ whole fraction (point_behind h f) =
      let some : 0 < length whole = h.some in
      rw append_assoc (reads_point whole fraction h.digits f (omega arith))
  reads_mantissa _ _ fraction (point_first f) =
      let some : 0 < length fraction = f.some in
      reads_point [] fraction (λ k d l. absurd (omega arith)) f.digits (omega arith)

pub reads_numeral : (text : List ℕ) (parts : Parts) → IsNumeral text parts → parts_of text ≡ Some parts
reads_numeral text parts h = rw h.joined (reads_mantissa h.rest parts.negative parts.exponent h.is_exponent h.mantissa parts.whole parts.fraction h.is_mantissa)

-- what the reader finds has the form
sign_found : (text : List ℕ) → (sign : List ℕ) × (text ≡ sign ++ (sign_of text).1) × IsSign sign (sign_of text).0
sign_found [] = ([], refl, no_sign)
sign_found (c ∷ cs) = elim (cases_Bool (c == 45)) [
  | inl is_minus ↦ rw is_minus (c ∷ [], refl, rw (eqb-true c 45 is_minus) minus)
  | inr no_minus ↦ elim (cases_Bool (c == 43)) [
    | inl is_plus ↦ rw (no_minus, is_plus) (c ∷ [], refl, rw (eqb-true c 43 is_plus) plus)
    | inr no_plus ↦ rw (no_minus, no_plus) ([], refl, no_sign)
  ]
]

digits_found : (text : List ℕ) → is_digits text ≡ true → IsDigits text
digits_found text h = record { some = grind (arith, nat_tests); digits = all_digits text h }

letter_found : (c : ℕ) → ((c == 69) || (c == 101)) ≡ true → IsLetterE (c ∷ [])
letter_found c h = elim (cases_Bool (c == 69)) [
  | inl is_capital ↦ rw (eqb-true c 69 is_capital) capital
  | inr other ↦ rw (eqb-true c 101 (rw other at h)) small
]

exponent_found : (text : List ℕ) (e : Bool × List ℕ) → exponent_of text ≡ Some e → IsExponent text e.0 e.1
exponent_found [] e h = let same : (false, []) ≡ e = cc in subst (λ (x : Bool × List ℕ). IsExponent [] x.0 x.1) same no_exponent
exponent_found (c ∷ cs) e h = elim (cases_Bool (((c == 69) || (c == 101)) && is_digits (sign_of cs).1)) [
  | inl both ↦
      let tests = and_parts ((c == 69) || (c == 101)) (is_digits (sign_of cs).1) both in
      let sign = sign_found cs in
      let same : sign_of cs ≡ e = let taken : Some (sign_of cs) ≡ Some e = rw both at h in cc in
      subst (λ (x : Bool × List ℕ). IsExponent (c ∷ cs) x.0 x.1) same (subst (λ text. IsExponent (c ∷ text) (sign_of cs).0 (sign_of cs).1) (sym sign.1) (with_exponent (letter_found c tests.0) sign.2 (digits_found (sign_of cs).1 tests.1)))
  | inr none ↦ let taken : None ≡ Some e = rw none at h in absurd (cc)
]

-- what stands in the parts that were joined
record Joined (whole fraction : List ℕ) (e : Option (Bool × List ℕ)) (p : Parts) : Type 0 where
  exponent : Bool × List ℕ
  found : e ≡ Some exponent
  some : 0 < length whole + length fraction
  parts : record { whole = whole; fraction = fraction; negative = exponent.0; exponent = exponent.1 } ≡ p

joined : (whole fraction : List ℕ) (e : Option (Bool × List ℕ)) (p : Parts) → parts_with whole fraction e ≡ Some p → Joined whole fraction e p
joined whole fraction None p h = absurd (cc)
joined whole fraction (Some e) p h = elim (cases_Bool (nat_lt 0 (length whole + length fraction))) [
  | inl test ↦ record {
    exponent = e;
    found = refl;
    some = grind (arith, nat_tests);
    parts = let taken : Some (record { whole = whole; fraction = fraction; negative = e.0; exponent = e.1 }) ≡ Some p = rw test at h in cc;
  }
  | inr test ↦ let taken : None ≡ Some p = rw test at h in absurd (cc)
]

-- the form of a text whose mantissa and exponent are known
formed : (text mantissa rest whole fraction : List ℕ) (e : Bool × List ℕ) (p : Parts) → text ≡ mantissa ++ rest → IsMantissa mantissa whole fraction → IsExponent rest e.0 e.1 → record { whole = whole; fraction = fraction; negative = e.0; exponent = e.1 } ≡ p → IsNumeral text p
formed text mantissa rest whole fraction e p joined m x same =
    subst (λ q. IsNumeral text q) same (record { mantissa = mantissa; rest = rest; joined = joined; is_mantissa = m; is_exponent = x })

no_point_found : (whole rest : List ℕ) (p : Parts) → AreDigits whole → parts_with whole [] (exponent_of rest) ≡ Some p → IsNumeral (whole ++ rest) p
no_point_found whole rest p w h =
    let j : Joined whole [] (exponent_of rest) p = joined whole [] (exponent_of rest) p h in
    formed (whole ++ rest) whole rest whole [] j.exponent p refl (no_point (record { some = omega (arith, j.some); digits = w })) (exponent_found rest j.exponent j.found) j.parts

pub mantissa_found : (whole fraction : List ℕ) → AreDigits whole → AreDigits fraction → 0 < length whole + length fraction → IsMantissa (whole ++ (46 ∷ fraction)) whole fraction
mantissa_found [] fraction w f some = point_first (record { some = omega arith; digits = f })
mantissa_found (d ∷ ds) fraction w f some = point_behind (record { some = omega arith; digits = w }) f

point_found : (whole behind : List ℕ) (p : Parts) → AreDigits whole → parts_with whole (take_while is_ascii_digit behind) (exponent_of (behind_digits behind)) ≡ Some p → IsNumeral (whole ++ (46 ∷ behind)) p
point_found whole behind p w h =
    let fraction : List ℕ = take_while is_ascii_digit behind in
    let rest : List ℕ = behind_digits behind in
    let j : Joined whole fraction (exponent_of rest) p = joined whole fraction (exponent_of rest) p h in
    let f : AreDigits fraction = leading_digits behind _ refl in
    let parted : whole ++ (46 ∷ behind) ≡ whole ++ (46 ∷ fraction) ++ rest =
    ap (λ text. whole ++ (46 ∷ text)) (sym (take-append-drop (prefix_len is_ascii_digit behind) behind)) ∙ sym (append_assoc whole (46 ∷ fraction) rest) in
    formed (whole ++ (46 ∷ behind)) (whole ++ (46 ∷ fraction)) rest whole fraction j.exponent p parted (mantissa_found whole fraction w f j.some) (exponent_found rest j.exponent j.found) j.parts

behind_found : (whole behind : List ℕ) (p : Parts) → AreDigits whole → parts_with whole (fraction_of behind).0 (exponent_of (fraction_of behind).1) ≡ Some p → IsNumeral (whole ++ behind) p
behind_found whole [] p w h = no_point_found whole [] p w h
behind_found whole (c ∷ cs) p w h = elim (cases_Bool (c == 46)) [
  | inl is_point ↦ rw (eqb-true c 46 is_point) (point_found whole cs p w (rw is_point at h))
  | inr other ↦ no_point_found whole (c ∷ cs) p w (rw other at h)
]

pub numeral_found : (text : List ℕ) (parts : Parts) → parts_of text ≡ Some parts → IsNumeral text parts
numeral_found text parts h =
    subst (λ t. IsNumeral t parts) (take-append-drop (prefix_len is_ascii_digit text) text) (behind_found (take_while is_ascii_digit text) (behind_digits text) parts (leading_digits text _ refl) h)
