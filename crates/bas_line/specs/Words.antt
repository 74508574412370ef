-- The words of one-line IF and ON, remarks, and where a line ends.
use Rattle.std.specs.Prelude.{◌≡◌, ℕ, ◌==◌, ◌⊎◌, if◌then◌else◌, List, length, map, take, drop, Option, Some, None, IsSome, slice_index, codes}
use Rattle.std.specs.Str.{str_eq_ignore_ascii_case}
use Rattle.bas_form.specs.Element.{element_at}
use Rattle.bas_token.specs.declared.token.TokenKind.TheVariants as kind
use Rattle.bas_text.specs.Trim.{as_space}
use Rattle.bas_expr.specs.Lexemes.{Lexeme}
use Rattle.bas_declaration.specs.declared.keyword.Keyword.{Keyword}
use Rattle.bas_declaration.specs.declared.keyword.Keyword.TheVariants as k

-- "IF"
abbrev pub if_word : Keyword → Option (Unit {0})
if_word k.If = Some tt
if_word _ = None

-- the bytes behind REM, with a space for a tab
abbrev pub behind_rem : List ℕ → Option (List ℕ)
behind_rem text = if str_eq_ignore_ascii_case (take 3 text) (codes "REM") then Some (map as_space (drop 3 text)) else None

-- the bytes of a remark that begins with REM
abbrev pub rem_of : Lexeme → Option (List ℕ)
rem_of (kind.Word, text) = None
rem_of (kind.Numeral, text) = None
rem_of (kind.Quoted, text) = None
rem_of (kind.Sign, text) = None
rem_of (kind.Remark, text) = behind_rem text

-- the bytes of the remark at a place, where it begins with REM
unfoldable pub rem : List Lexeme → ℕ → Option (List ℕ)
rem tokens at = element_at rem_of tokens at

-- a remark that begins with `!`
abbrev pub exclaimed_of : Lexeme → Option (Unit {0})
exclaimed_of (kind.Word, text) = None
exclaimed_of (kind.Numeral, text) = None
exclaimed_of (kind.Quoted, text) = None
exclaimed_of (kind.Sign, text) = None
exclaimed_of (kind.Remark, text) = if slice_index text 0 == 33 then Some tt else None

-- the remark at a place, where it begins with `!`
unfoldable pub exclaimed : List Lexeme → ℕ → Option (Unit {0})
exclaimed tokens at = element_at exclaimed_of tokens at

-- the line ends: behind the last token, or at a remark that begins with `!`
abbrev pub LineEnds : List Lexeme → ℕ → Type 0
LineEnds tokens at = (at ≡ length tokens) ⊎ IsSome (exclaimed tokens at)
