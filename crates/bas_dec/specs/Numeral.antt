-- What a numeral stands for, and the answer that a text has as a numeral.
use Rattle.std.specs.Prelude.{◌≡◌, ℕ, ◌+◌, ◌-◌, ◌*◌, ◌^◌, ◌==◌, ◌&&◌, ◌||◌, nat_lt, if◌then◌else◌, pos, List, [], ◌∷◌, ◌++◌, length, drop, fold, Bool, true, false, Option, Some, None}
use Rattle.std.specs.Char.{is_ascii_digit}
use Rattle.std.specs.List.{prefix_len, take_while}
use Rattle.bas_dec.specs.Number.{Number, low, rounded}
use Rattle.bas_dec.specs.NumeralForm.{Parts, IsNumeral}
use Rattle.bas_dec.specs.declared.TheConstants.{PLACES}
use Rattle.bas_dec.specs.declared.numeral.TheConstants.{MANTISSA_DIGITS, EXPONENT_DIGITS}
use Rattle.bas_dec.specs.declared.numeral.Numeral.{Numeral}
use Rattle.bas_dec.specs.declared.numeral.Numeral.TheVariants.{Value, TooLarge, NotNumeral}

-- the whole number that digits write behind those of n
abbrev pub written_behind : ℕ → List ℕ → ℕ
written_behind n digits = fold (λ m digit. m * 10 + (digit - 48)) n digits

-- the whole number that digits write
abbrev pub number_written : List ℕ → ℕ
number_written digits = written_behind 0 digits

-- the value of a numeral is its numerator / 10 ^ its places
abbrev pub numerator : Parts → ℕ
numerator p = number_written (p.whole ++ p.fraction) * 10 ^ (if p.negative then 0 else number_written p.exponent)

abbrev pub places : Parts → ℕ
places p = (if p.negative then number_written p.exponent else 0) + length p.fraction

-- n / 10 ^ zeros, rounded to the places that a number has
abbrev pub nearest_number : ℕ → ℕ → Option Number
nearest_number n zeros = low (rounded (pos (n * 10 ^ PLACES)) (10 ^ zeros)) PLACES

-- more digits than a numeral may have, zeros at the front too
abbrev pub is_too_long : Parts → Bool
is_too_long p = nat_lt MANTISSA_DIGITS (length p.whole + length p.fraction) || nat_lt EXPONENT_DIGITS (length p.exponent)

-- the number, or TooLarge where there is none
abbrev pub value_or_too_large : Option Number → Numeral
value_or_too_large None = TooLarge
value_or_too_large (Some x) = Value x

-- the answer to a numeral of these parts
abbrev pub answer_of : Parts → Numeral
answer_of p = if is_too_long p then TooLarge else value_or_too_large (nearest_number (numerator p) (places p))

-- what stands behind the digits that a text begins with
abbrev pub behind_digits : List ℕ → List ℕ
behind_digits text = drop (prefix_len is_ascii_digit text) text

-- the digits behind a point, and what stands behind them
abbrev pub fraction_of : List ℕ → List ℕ × List ℕ
fraction_of [] = ([], [])
fraction_of (c ∷ cs) = if c == 46 then (take_while is_ascii_digit cs, behind_digits cs) else ([], c ∷ cs)

-- whether a minus stands first, and what stands behind a sign
abbrev pub sign_of : List ℕ → Bool × List ℕ
sign_of [] = (false, [])
sign_of (c ∷ cs) = if c == 45 then (true, cs) else if c == 43 then (false, cs) else (false, c ∷ cs)

-- digits alone, and at least one
abbrev pub is_digits : List ℕ → Bool
is_digits text = nat_lt 0 (length text) && prefix_len is_ascii_digit text == length text

-- the sign and the digits of an exponent, or None for a text that is neither empty nor an exponent
abbrev pub exponent_of : List ℕ → Option (Bool × List ℕ)
exponent_of [] = Some (false, [])
exponent_of (c ∷ cs) = if (c == 69 || c == 101) && is_digits (sign_of cs).1 then Some (sign_of cs) else None

abbrev pub parts_with : List ℕ → List ℕ → Option (Bool × List ℕ) → Option Parts
parts_with whole fraction None = None
parts_with whole fraction (Some e) = if nat_lt 0 (length whole + length fraction) then Some (record { whole = whole; fraction = fraction; negative = e.0; exponent = e.1 }) else None

-- the parts of a text that is a numeral
abbrev pub parts_of : List ℕ → Option Parts
parts_of text = let f = fraction_of (behind_digits text) in parts_with (take_while is_ascii_digit text) f.0 (exponent_of f.1)

abbrev pub answer_or_none : Option Parts → Numeral
answer_or_none None = NotNumeral
answer_or_none (Some p) = answer_of p

-- the answer to a text
unfoldable pub numeral_of : List ℕ → Numeral
numeral_of text = answer_or_none (parts_of text)

-- the answer is that to the parts of the text, and NotNumeral where it has no parts
abbrev pub IsAnswer : List ℕ → Numeral → Type 0
IsAnswer text (Value x) = (p : Parts) × IsNumeral text p × (answer_of p ≡ Value x)
IsAnswer text TooLarge = (p : Parts) × IsNumeral text p × (answer_of p ≡ TooLarge)
IsAnswer text NotNumeral = (p : Parts) → IsNumeral text p → ⊥
