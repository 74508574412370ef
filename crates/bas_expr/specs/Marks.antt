-- Signs: which marks they are, and where they stand.
use Rattle.std.specs.Prelude.{ℕ, ◌==◌, ◌&&◌, if◌then◌else◌, List, [], ◌∷◌, Option, Some, None}
use Rattle.bas_form.specs.Reader.{◌>>=◌}
use Rattle.bas_form.specs.Element.{element_at}
use Rattle.bas_token.specs.declared.token.TokenKind.TheVariants as kind
use Rattle.bas_ast.specs.declared.expression.Sign.{Sign}
use Rattle.bas_ast.specs.declared.expression.Sign.TheVariants as sign
use Rattle.bas_ast.specs.declared.expression.TermSign.{TermSign}
use Rattle.bas_ast.specs.declared.expression.TermSign.TheVariants as term
use Rattle.bas_ast.specs.declared.expression.FactorSign.{FactorSign}
use Rattle.bas_ast.specs.declared.expression.FactorSign.TheVariants as factor
use Rattle.bas_ast.specs.declared.condition.Rel.{Rel}
use Rattle.bas_ast.specs.declared.condition.Rel.TheVariants as rel
use Rattle.bas_expr.specs.declared.mark.Mark.{Mark}
use Rattle.bas_expr.specs.declared.mark.Mark.TheVariants as m
use Rattle.bas_expr.specs.Lexemes.{Lexeme}

-- + - * / ^ & ( ) , ; : # = < >
abbrev pub one_byte : ℕ → Option Mark
one_byte b =
    if b == 43 then Some m.Plus else (
    if b == 45 then Some m.Minus else (
    if b == 42 then Some m.Asterisk else (
    if b == 47 then Some m.Slash else (
    if b == 94 then Some m.Caret else (
    if b == 38 then Some m.Ampersand else (
    if b == 40 then Some m.Opening else (
    if b == 41 then Some m.Closing else (
    if b == 44 then Some m.Comma else (
    if b == 59 then Some m.Semicolon else (
    if b == 58 then Some m.Colon else (
    if b == 35 then Some m.Hash else (
    if b == 61 then Some m.Equal else (
    if b == 60 then Some m.Less else (
    if b == 62 then Some m.Greater else None))))))))))))))

-- <> and ><, <= and =<, >= and =>
abbrev pub two_bytes : ℕ → ℕ → Option Mark
two_bytes a b =
    if a == 60 && b == 62 then Some m.NotEqual else (
    if a == 62 && b == 60 then Some m.NotEqual else (
    if a == 60 && b == 61 then Some m.AtMost else (
    if a == 61 && b == 60 then Some m.AtMost else (
    if a == 62 && b == 61 then Some m.AtLeast else (
    if a == 61 && b == 62 then Some m.AtLeast else None)))))

-- the mark that a text spells
abbrev pub mark_of_text : List ℕ → Option Mark
mark_of_text [] = None
mark_of_text (a ∷ []) = one_byte a
mark_of_text (a ∷ b ∷ []) = two_bytes a b
mark_of_text (a ∷ b ∷ c ∷ more) = None

-- the mark that a token is
abbrev pub mark_of : Lexeme → Option Mark
mark_of (kind.Word, text) = None
mark_of (kind.Numeral, text) = None
mark_of (kind.Quoted, text) = None
mark_of (kind.Sign, text) = mark_of_text text
mark_of (kind.Remark, text) = None

-- the mark that is the token at a place
unfoldable pub mark : List Lexeme → ℕ → Option Mark
mark tokens at = element_at mark_of tokens at

-- the mark at a place, where it is one of those
abbrev pub at_mark : {A : Type 0} → (Mark → Option A) → List Lexeme → ℕ → Option A
at_mark test tokens at = mark tokens at >>= test

-- "("
abbrev pub opening : Mark → Option (Unit {0})
opening m.Opening = Some tt
opening _ = None

-- ")"
abbrev pub closing : Mark → Option (Unit {0})
closing m.Closing = Some tt
closing _ = None

-- ","
abbrev pub comma : Mark → Option (Unit {0})
comma m.Comma = Some tt
comma _ = None

-- ":"
abbrev pub colon : Mark → Option (Unit {0})
colon m.Colon = Some tt
colon _ = None

-- "#"
abbrev pub hash : Mark → Option (Unit {0})
hash m.Hash = Some tt
hash _ = None

-- "^"
abbrev pub caret : Mark → Option (Unit {0})
caret m.Caret = Some tt
caret _ = None

-- "+" | "-"
abbrev pub sign_of : Mark → Option Sign
sign_of m.Plus = Some sign.Plus
sign_of m.Minus = Some sign.Minus
sign_of _ = None

-- "+" | "-" | "&"
abbrev pub term_sign_of : Mark → Option TermSign
term_sign_of m.Plus = Some term.Add
term_sign_of m.Minus = Some term.Subtract
term_sign_of m.Ampersand = Some term.Join
term_sign_of _ = None

-- "*" | "/"
abbrev pub factor_sign_of : Mark → Option FactorSign
factor_sign_of m.Asterisk = Some factor.Multiply
factor_sign_of m.Slash = Some factor.Divide
factor_sign_of _ = None

-- rel = "=" | "<>" | "><" | "<" | ">" | "<=" | "=<" | ">=" | "=>"
abbrev pub rel_of : Mark → Option Rel
rel_of m.Equal = Some rel.Equal
rel_of m.NotEqual = Some rel.NotEqual
rel_of m.Less = Some rel.Less
rel_of m.Greater = Some rel.Greater
rel_of m.AtMost = Some rel.AtMost
rel_of m.AtLeast = Some rel.AtLeast
rel_of _ = None
