-- The written form of a numeral, as a relation between its bytes and its parts:
--   numeral = ( digits [ "." [ digits ] ] | "." digits ) [ "E" [ "+" | "-" ] digits ]
-- where the letter may be small.
use Rattle.std.specs.Prelude.{◌≡◌, ℕ, ◌<◌, Bool, true, false, List, [], ◌++◌, length, codes}
use Rattle.std.specs.Char.{is_ascii_digit}
use Rattle.std.specs.List.{AllPass}

-- the digits before and behind the point, and the sign and the digits of the exponent
pub record Parts : Type 0 where
  pub whole : List ℕ
  pub fraction : List ℕ
  pub negative : Bool
  pub exponent : List ℕ

-- [ digits ]
abbrev pub AreDigits : List ℕ → Type 0
AreDigits text = AllPass is_ascii_digit text

-- digits = digit { digit }
pub record IsDigits (text : List ℕ) : Type 0 where
  pub some : 0 < length text
  pub digits : AreDigits text

-- digits [ "." [ digits ] ] | "." digits
pub data IsMantissa : List ℕ → List ℕ → List ℕ → Type 0 where
  no_point : {whole : List ℕ} → IsDigits whole → IsMantissa whole whole []
  point_behind : {whole fraction : List ℕ} → IsDigits whole → AreDigits fraction → IsMantissa (whole ++ (codes "." ++ fraction)) whole fraction
  point_first : {fraction : List ℕ} → IsDigits fraction → IsMantissa (codes "." ++ fraction) [] fraction

-- [ "+" | "-" ]
pub data IsSign : List ℕ → Bool → Type 0 where
  no_sign : IsSign [] false
  plus : IsSign (codes "+") false
  minus : IsSign (codes "-") true

-- "E" | "e"
pub data IsLetterE : List ℕ → Type 0 where
  capital : IsLetterE (codes "E")
  small : IsLetterE (codes "e")

-- [ "E" [ "+" | "-" ] digits ]
pub data IsExponent : List ℕ → Bool → List ℕ → Type 0 where
  no_exponent : IsExponent [] false []
  with_exponent : {letter sign digits : List ℕ} {negative : Bool} → IsLetterE letter → IsSign sign negative → IsDigits digits → IsExponent (letter ++ (sign ++ digits)) negative digits

-- a mantissa and an exponent
pub record IsNumeral (text : List ℕ) (parts : Parts) : Type 0 where
  pub mantissa : List ℕ
  pub rest : List ℕ
  pub joined : text ≡ mantissa ++ rest
  pub is_mantissa : IsMantissa mantissa parts.whole parts.fraction
  pub is_exponent : IsExponent rest parts.negative parts.exponent
