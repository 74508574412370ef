-- The text of a printed number.
use Rattle.std.specs.Prelude.{ℕ, zero, suc, ◌+◌, ◌/◌, ◌%◌, ◌^◌, ◌==◌, ◌&&◌, nat_lt, if◌then◌else◌, ℤ, pos, negsuc, unsigned_abs, List, [], ◌∷◌, ◌++◌}
use Rattle.std.specs.Fmt.{decimal}
use Rattle.bas_dec.specs.Number.{Number}

-- the last `count` digits of n, the highest first
unfoldable pub last_digits : ℕ → ℕ → List ℕ
last_digits n zero = []
last_digits n (suc count) = last_digits (n / 10) count ++ (48 + n % 10) ∷ []

-- the digits of the whole part n of a number with that many places: no zero stands before a point
unfoldable pub whole_text : ℕ → ℕ → List ℕ
whole_text n places = if (n == 0) && nat_lt 0 places then [] else decimal n

-- the point and the digits behind it
unfoldable pub fraction_text : ℕ → ℕ → List ℕ
fraction_text size zero = []
fraction_text size (suc places) = 46 ∷ last_digits size (suc places)

-- the digits and the point of the number size / 10 ^ places
abbrev pub size_text : ℕ → ℕ → List ℕ
size_text size places = whole_text (size / 10 ^ places) places ++ fraction_text size places

-- a space, or a minus below zero
abbrev pub sign_byte : ℤ → ℕ
sign_byte (pos _) = 32
sign_byte (negsuc _) = 45

-- the sign, the digits and the point, and a space behind
unfoldable pub text_of : Number → List ℕ
text_of x = sign_byte x.coefficient ∷ (size_text (unsigned_abs x.coefficient) x.scale ++ 32 ∷ [])
