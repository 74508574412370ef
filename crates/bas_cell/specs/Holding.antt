-- What a cell of a shape holds, and what becomes of a value that is stored there.
use Rattle.std.specs.Prelude.{ℕ, List, length, nat_lt, if◌then◌else◌, Result, Ok, Err}
use Rattle.std.specs.Result.{result_map_both}
use Rattle.bas_dec.specs.Number.{Number}
use Rattle.bas_dec.specs.Fixed.{fitted}
use Rattle.bas_dec.specs.declared.types.NumType.{NumType}
use Rattle.bas_dec.specs.declared.types.NumType.TheVariants.{General, Fix}
use Rattle.bas_face.specs.declared.shape.Shape.{Shape}
use Rattle.bas_face.specs.declared.shape.Shape.TheVariants.{NumValue, StrValue, Num, Str, NumArray, StrArray, Channel}
use Rattle.bas_fileval.specs.Kind as kind
use Rattle.bas_fileval.specs.Value as value
use Rattle.bas_text.specs.declared.byte_string.TheConstants.{MAX_STRING_LEN}

-- whether numbers or strings are held; a channel is held as its number
abbrev pub kind_held : Shape → kind.Kind
kind_held NumValue = kind.Number
kind_held StrValue = kind.Text
kind_held (Num type) = kind.Number
kind_held (Str length) = kind.Text
kind_held (NumArray type dimensions) = kind.Number
kind_held (StrArray length dimensions) = kind.Text
kind_held Channel = kind.Number

-- the type of the numbers that are held
abbrev pub number_type : Shape → NumType
number_type (Num type) = type
number_type (NumArray type dimensions) = type
number_type _ = General

-- the most bytes of a string that is held
abbrev pub longest_text : Shape → ℕ
longest_text (Str length) = length
longest_text (StrArray length dimensions) = length
longest_text _ = MAX_STRING_LEN

-- a number as a variable of a type holds it: a general one as it is, else rounded to the places of the type;
-- or exception 1010 where its whole part then has too many digits
abbrev pub number_held : NumType → Number → Result Number ℕ
number_held General x = Ok x
number_held (Fix type) x = result_map_both (λ y. y) (λ _. 1010) (fitted x type)

-- a string as it is, or exception 1106 where it is too long
abbrev pub text_held : (most : ℕ) → List ℕ → Result (List ℕ) ℕ
text_held most bytes = if nat_lt most (length bytes) then Err 1106 else Ok bytes

-- a value as a cell of a shape holds it, or the exception that is raised where it does not fit
abbrev pub held : Shape → value.Value → Result value.Value ℕ
held shape (value.Num x) = result_map_both value.Num (λ ex. ex) (number_held (number_type shape) x)
held shape (value.Text bytes) = result_map_both value.Text (λ ex. ex) (text_held (longest_text shape) bytes)
