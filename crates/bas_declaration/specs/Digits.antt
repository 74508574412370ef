-- What a numeral's text stands for where the grammar has digits alone.
use Rattle.std.specs.Prelude.{ℕ, ◌+◌, ◌==◌, ◌&&◌, nat_lt, min, Bool, if◌then◌else◌, List, [], ◌∷◌, length, take, drop, Option, Some, None}
use Rattle.std.specs.List.{list_all, position}
use Rattle.std.specs.Char.{is_ascii_digit}
use Rattle.bas_form.specs.Element.{element_at}
use Rattle.bas_token.specs.declared.token.TokenKind.TheVariants as kind
use Rattle.bas_dec.specs.Numeral.{number_written}
use Rattle.bas_ast.specs.declared.declaration.TypeSpec.{TypeSpec}
use Rattle.bas_ast.specs.declared.declaration.Decl.{Decl}
use Rattle.bas_ast.specs.declared.declaration.Decl.TheVariants as decl
use Rattle.bas_expr.specs.Lexemes.{Lexeme}
use Rattle.bas_declaration.specs.declared.digits.TheConstants.{GREATEST}

-- the number that digits write, or the greatest that a tree holds
unfoldable pub held : List ℕ → ℕ
held digits = min GREATEST (number_written digits)

-- digits
abbrev pub digits_of_text : List ℕ → Option ℕ
digits_of_text text = if nat_lt 0 (length text) && list_all is_ascii_digit text then Some (held text) else None

abbrev pub whole_of : Option ℕ → Option TypeSpec
whole_of None = None
whole_of (Some whole) = Some (record { whole = whole; fraction = None })

abbrev pub whole_and_fraction_of : Option ℕ → Option ℕ → Option TypeSpec
whole_and_fraction_of None fraction = None
whole_and_fraction_of (Some whole) None = None
whole_and_fraction_of (Some whole) (Some fraction) = Some (record { whole = whole; fraction = Some fraction })

-- digits, or digits on both sides of the point
abbrev pub size_with : List ℕ → Option ℕ → Option TypeSpec
size_with text None = whole_of (digits_of_text text)
size_with text (Some point) = whole_and_fraction_of (digits_of_text (take point text)) (digits_of_text (drop (point + 1) text))

abbrev pub is_point : ℕ → Bool
is_point c = c == 46

-- digits [ "." digits ]
abbrev pub size_of_text : List ℕ → Option TypeSpec
size_of_text text = size_with text (position is_point text)

-- "0" | "1"
abbrev pub base_of_byte : ℕ → Option Decl
base_of_byte c = if c == 48 then Some decl.OptionBaseZero else (if c == 49 then Some decl.OptionBaseOne else None)

abbrev pub base_of_text : List ℕ → Option Decl
base_of_text [] = None
base_of_text (c ∷ []) = base_of_byte c
base_of_text (c ∷ d ∷ more) = None

-- what the text of a numeral is read as
abbrev pub of_numeral : {A : Type 0} → (List ℕ → Option A) → Lexeme → Option A
of_numeral read (kind.Word, text) = None
of_numeral read (kind.Numeral, text) = read text
of_numeral read (kind.Quoted, text) = None
of_numeral read (kind.Sign, text) = None
of_numeral read (kind.Remark, text) = None

-- the digits at a place
unfoldable pub digits : List Lexeme → ℕ → Option ℕ
digits tokens at = element_at (of_numeral digits_of_text) tokens at

-- the digits of a type at a place
unfoldable pub size : List Lexeme → ℕ → Option TypeSpec
size tokens at = element_at (of_numeral size_of_text) tokens at

-- the lowest index that an OPTION line gives, at a place
unfoldable pub base : List Lexeme → ℕ → Option Decl
base tokens at = element_at (of_numeral base_of_text) tokens at
