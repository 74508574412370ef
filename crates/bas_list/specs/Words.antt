-- The single tokens of lists, line numbers, and the tokens that end a statement.
use Rattle.std.specs.Prelude.{ℕ, ◌≤◌, ◌⊎◌, ◌&&◌, nat_le, if◌then◌else◌, List, length, Option, Some, None, IsSome, codes}
use Rattle.bas_form.specs.Reader.{◌>>=◌}
use Rattle.bas_form.specs.Element.{element_at}
use Rattle.bas_token.specs.declared.token.TokenKind.TheVariants as kind
use Rattle.bas_ast.specs.declared.statement.Sep.{Sep}
use Rattle.bas_ast.specs.declared.statement.Sep.TheVariants as sep
use Rattle.bas_expr.specs.declared.mark.Mark.{Mark}
use Rattle.bas_expr.specs.declared.mark.Mark.TheVariants as m
use Rattle.bas_expr.specs.Lexemes.{Lexeme}
use Rattle.bas_expr.specs.Marks.{mark_of_text}
use Rattle.bas_declaration.specs.Keywords.{same_word}
use Rattle.bas_declaration.specs.Digits.{digits_of_text, of_numeral}

-- sep = "," | ";"
abbrev pub separator_of : Mark → Option Sep
separator_of m.Comma = Some sep.Comma
separator_of m.Semicolon = Some sep.Semicolon
separator_of _ = None

-- the separator that a sign's text is
abbrev pub separator_of_text : List ℕ → Option Sep
separator_of_text text = mark_of_text text >>= separator_of

-- a line has a number from 1 to 99999
abbrev pub line_of : ℕ → Option ℕ
line_of n = if nat_le 1 n && nat_le n 99999 then Some n else None

-- 1 to 8 digits
abbrev pub line_number_of_text : List ℕ → Option ℕ
line_number_of_text text = if nat_le (length text) 8 then digits_of_text text >>= line_of else None

-- the line number at a place
unfoldable pub line_number : List Lexeme → ℕ → Option ℕ
line_number tokens at = element_at (of_numeral line_number_of_text) tokens at

-- the tokens that end a statement: a remark, and the word ELSE
abbrev pub ending_of : Lexeme → Option (Unit {0})
ending_of (kind.Word, text) = same_word (codes "ELSE") text
ending_of (kind.Numeral, text) = None
ending_of (kind.Quoted, text) = None
ending_of (kind.Sign, text) = None
ending_of (kind.Remark, text) = Some tt

-- the token at a place, where it ends a statement
unfoldable pub ending : List Lexeme → ℕ → Option (Unit {0})
ending tokens at = element_at ending_of tokens at

-- where a statement may end: behind the last token, at a remark and at ELSE
abbrev pub Ends : List Lexeme → ℕ → Type 0
Ends tokens n = (length tokens ≤ n) ⊎ IsSome (ending tokens n)
