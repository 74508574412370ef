-- The classes of bytes that the texts of the language are made of.
use Rattle.std.specs.Prelude.{ℕ, ◌==◌, ◌||◌, ◌&&◌, not, nat_le, Bool, if◌then◌else◌, List, length, Option, Some, None, codes}
use Rattle.std.specs.List.{list_any}
use Rattle.std.specs.Char.{is_ascii_digit, is_ascii_alphabetic}
use Rattle.bas_form.specs.Form.{Form, Terminal}
use Rattle.bas_form.specs.Reader.{Reader, terminal, all_from, end_of}
use Rattle.bas_form.specs.Element.{element_at}
use Rattle.bas_form.specs.declared.byte_class.ByteClass.{ByteClass}
use Rattle.bas_form.specs.declared.byte_class.ByteClass.TheVariants.{Space, Letter, WordPart, Dollar, Digit, Point, LetterE, PlusOrMinus, Quote, InQuotes, PlainSign, Less, Equal, Greater, EqualOrGreater, LessOrGreater, LessOrEqual, ExclamationMark, LetterR, LetterM, InRemark, Comma, DataStart, DataPart}

-- a byte that may stand in quotes and in remarks: no control byte but a tab
abbrev pub is_standing : ℕ → Bool
is_standing b = (nat_le 32 b && not (b == 127)) || b == 9

-- a byte that may stand in a datum with no quotes
abbrev pub is_unquoted : ℕ → Bool
is_unquoted b = nat_le 32 b && nat_le b 126 && not (b == 34) && not (b == 44)

-- the bytes of each class
abbrev pub is_of_class : ByteClass → ℕ → Bool
is_of_class Space b = b == 32 || b == 9
is_of_class Letter b = is_ascii_alphabetic b
is_of_class WordPart b = is_ascii_alphabetic b || is_ascii_digit b || b == 95
is_of_class Dollar b = b == 36
is_of_class Digit b = is_ascii_digit b
is_of_class Point b = b == 46
is_of_class LetterE b = b == 69 || b == 101
is_of_class PlusOrMinus b = b == 43 || b == 45
is_of_class Quote b = b == 34
is_of_class InQuotes b = is_standing b && not (b == 34)
is_of_class PlainSign b = list_any (λ sign. sign == b) (codes "+-*/^&(),;:#")
is_of_class Less b = b == 60
is_of_class Equal b = b == 61
is_of_class Greater b = b == 62
is_of_class EqualOrGreater b = b == 61 || b == 62
is_of_class LessOrGreater b = b == 60 || b == 62
is_of_class LessOrEqual b = b == 60 || b == 61
is_of_class ExclamationMark b = b == 33
is_of_class LetterR b = b == 82 || b == 114
is_of_class LetterM b = b == 77 || b == 109
is_of_class InRemark b = is_standing b
is_of_class Comma b = b == 44
is_of_class DataStart b = is_unquoted b && not (b == 32)
is_of_class DataPart b = is_unquoted b || b == 9

-- the byte, where it is of the class
abbrev pub of_class : ByteClass → ℕ → Option ℕ
of_class class b = if is_of_class class b then Some b else None

-- one byte of a class
abbrev pub Byte : List ℕ → ByteClass → Form ℕ
Byte line class = Terminal (element_at (of_class class) line)

abbrev pub byte : List ℕ → ByteClass → Reader ℕ
byte line class = terminal (element_at (of_class class) line)

-- behind one byte of a class
unfoldable pub byte_end : List ℕ → ByteClass → ℕ → Option ℕ
byte_end text class at = end_of (byte text class at)

-- behind all bytes of a class
unfoldable pub past : List ℕ → ByteClass → ℕ → ℕ
past text class at = (all_from (byte text class) (length text) at).1
