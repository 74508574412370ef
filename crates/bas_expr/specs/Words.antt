-- Words, numerals and quoted texts: what they are by value, and where they stand.
use Rattle.std.specs.Prelude.{ℕ, ◌==◌, ◌&&◌, ◌||◌, not, if◌then◌else◌, Bool, List, [], ◌∷◌, drop, Option, Some, None, codes}
use Rattle.std.specs.List.{list_all}
use Rattle.std.specs.Char.{is_ascii_digit}
use Rattle.std.specs.Str.{str_to_ascii_uppercase, str_eq_ignore_ascii_case}
use Rattle.bas_base.specs.Names.{is_name}
use Rattle.bas_form.specs.Element.{element_at}
use Rattle.bas_token.specs.declared.token.TokenKind.TheVariants as kind
use Rattle.bas_dec.specs.declared.numeral.Numeral as dec
use Rattle.bas_dec.specs.declared.numeral.Numeral.TheVariants.{Value, TooLarge, NotNumeral}
use Rattle.bas_dec.specs.Numeral.{numeral_of}
use Rattle.bas_ast.specs.declared.expression.Numeral.{Numeral}
use Rattle.bas_ast.specs.Supplied.{is_supplied}
use Rattle.bas_expr.specs.declared.word.Connective.{Connective}
use Rattle.bas_expr.specs.declared.word.Connective.TheVariants as w
use Rattle.bas_expr.specs.Lexemes.{Lexeme}

-- the words that are no names
abbrev pub is_reserved : List ℕ → Bool
is_reserved text =
    str_eq_ignore_ascii_case text (codes "NOT") || (
    str_eq_ignore_ascii_case text (codes "ELSE") || (
    str_eq_ignore_ascii_case text (codes "PRINT") || (
    str_eq_ignore_ascii_case text (codes "REM") ||
    str_eq_ignore_ascii_case text (codes "TAB"))))

-- a name in capitals, where the word is one and is not reserved
abbrev pub name_of_text : List ℕ → Option (List ℕ)
name_of_text text = if is_name text && not (is_reserved text) then Some (str_to_ascii_uppercase text) else None

-- the name that a token is
abbrev pub name_of : Lexeme → Option (List ℕ)
name_of (kind.Word, text) = name_of_text text
name_of (kind.Numeral, text) = None
name_of (kind.Quoted, text) = None
name_of (kind.Sign, text) = None
name_of (kind.Remark, text) = None

-- the name at a place, of whatever it names
unfoldable pub any_name : List Lexeme → ℕ → Option (List ℕ)
any_name tokens at = element_at name_of tokens at

-- a name, unless it is a supplied function's
abbrev pub unless_supplied : Option (List ℕ) → Option (List ℕ)
unless_supplied None = None
unless_supplied (Some name) = if is_supplied name then None else Some name

-- the name at a place, where it names no supplied function
abbrev pub own_name : List Lexeme → ℕ → Option (List ℕ)
own_name tokens at = unless_supplied (any_name tokens at)

-- a numeral that is too large is none; a numeral of digits alone is told
abbrev pub numeral_by : List ℕ → dec.Numeral → Option Numeral
numeral_by text (Value x) = Some (record { value = x; digits = list_all is_ascii_digit text })
numeral_by text TooLarge = None
numeral_by text NotNumeral = None

-- the numeral that a token is
abbrev pub numeral_of_lexeme : Lexeme → Option Numeral
numeral_of_lexeme (kind.Word, text) = None
numeral_of_lexeme (kind.Numeral, text) = numeral_by text (numeral_of text)
numeral_of_lexeme (kind.Quoted, text) = None
numeral_of_lexeme (kind.Sign, text) = None
numeral_of_lexeme (kind.Remark, text) = None

-- the numeral at a place
unfoldable pub numeral : List Lexeme → ℕ → Option Numeral
numeral tokens at = element_at numeral_of_lexeme tokens at

-- a space for a tab
abbrev pub as_space : ℕ → ℕ
as_space b = if b == 9 then 32 else b

-- behind the opening quote: one quote for each two, a space for a tab, and nothing for the last byte
abbrev pub inside_quotes : List ℕ → List ℕ
inside_quotes [] = []
inside_quotes (a ∷ []) = []
inside_quotes (a ∷ b ∷ more) = if a == 34 then 34 ∷ inside_quotes more else as_space a ∷ inside_quotes (b ∷ more)

-- the bytes that a token stands for
abbrev pub quoted_of : Lexeme → Option (List ℕ)
quoted_of (kind.Word, text) = None
quoted_of (kind.Numeral, text) = None
quoted_of (kind.Quoted, text) = Some (inside_quotes (drop 1 text))
quoted_of (kind.Sign, text) = None
quoted_of (kind.Remark, text) = None

-- the bytes that the quoted text at a place stands for
unfoldable pub quoted : List Lexeme → ℕ → Option (List ℕ)
quoted tokens at = element_at quoted_of tokens at

-- NOT, AND and OR, in any case
abbrev pub connective_of_text : List ℕ → Option Connective
connective_of_text text =
    if str_eq_ignore_ascii_case text (codes "NOT") then Some w.Not else (
    if str_eq_ignore_ascii_case text (codes "AND") then Some w.And else (
    if str_eq_ignore_ascii_case text (codes "OR") then Some w.Or else None))

-- the connective that a token is
abbrev pub connective_of : Lexeme → Option Connective
connective_of (kind.Word, text) = connective_of_text text
connective_of (kind.Numeral, text) = None
connective_of (kind.Quoted, text) = None
connective_of (kind.Sign, text) = None
connective_of (kind.Remark, text) = None

-- the connective at a place
unfoldable pub connective : List Lexeme → ℕ → Option Connective
connective tokens at = element_at connective_of tokens at

-- whether it is NOT
abbrev pub negation_by : Option Connective → Option (Unit {0})
negation_by (Some w.Not) = Some tt
negation_by _ = None

-- whether it is AND
abbrev pub and_by : Option Connective → Option (Unit {0})
and_by (Some w.And) = Some tt
and_by _ = None

-- whether it is OR
abbrev pub or_by : Option Connective → Option (Unit {0})
or_by (Some w.Or) = Some tt
or_by _ = None

-- the NOT at a place
abbrev pub negation : List Lexeme → ℕ → Option (Unit {0})
negation tokens at = negation_by (connective tokens at)

-- the AND at a place
abbrev pub and_word : List Lexeme → ℕ → Option (Unit {0})
and_word tokens at = and_by (connective tokens at)

-- the OR at a place
abbrev pub or_word : List Lexeme → ℕ → Option (Unit {0})
or_word tokens at = or_by (connective tokens at)
