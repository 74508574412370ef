-- Stretches of tokens in which parentheses come in pairs.
use Rattle.std.specs.Prelude.{◌≡◌, ℕ, zero, suc, ◌+◌, ◌≤◌, Bool, true, false, if◌then◌else◌, List, Option, Some, None, IsSome, slice_get, codes}
use Rattle.std.specs.Str.{str_eq_ignore_ascii_case}
use Rattle.bas_form.specs.Form.{Form}
use Rattle.bas_form.specs.Reader.{◌>>=◌}
use Rattle.bas_token.specs.declared.token.TokenKind.TheVariants as kind
use Rattle.bas_ast.specs.declared.expression.Expr.{Expr}
use Rattle.bas_ast.specs.declared.condition.Cond.{Cond}
use Rattle.bas_expr.specs.declared.mark.Mark.{Mark}
use Rattle.bas_expr.specs.declared.mark.Mark.TheVariants as m
use Rattle.bas_expr.specs.Lexemes.{Lexeme}
use Rattle.bas_expr.specs.Marks.{mark_of, at_mark, colon}
use Rattle.bas_expr.specs.Grammar.{IsExpr}
use Rattle.bas_expr.specs.Conditions.{IsCond}

-- a token that no statement goes on at: a remark, or the word ELSE
abbrev pub is_end : Lexeme → Bool
is_end (kind.Word, text) = str_eq_ignore_ascii_case text (codes "ELSE")
is_end (kind.Numeral, text) = false
is_end (kind.Quoted, text) = false
is_end (kind.Sign, text) = false
is_end (kind.Remark, text) = true

-- how many parentheses are open behind a mark; none closes that is not open, and `:` stands where one is open
abbrev pub open_behind : Option Mark → ℕ → Option ℕ
open_behind (Some m.Opening) level = Some (suc level)
open_behind (Some m.Closing) zero = None
open_behind (Some m.Closing) (suc level) = Some level
open_behind (Some m.Colon) zero = None
open_behind (Some m.Colon) (suc level) = Some (suc level)
open_behind _ level = Some level

-- how many are open behind a token, which ends no statement
abbrev pub open_after : Lexeme → ℕ → Option ℕ
open_after token level = if is_end token then None else open_behind (mark_of token) level

-- how many are open behind so many tokens
unfoldable pub open_past : List Lexeme → ℕ → ℕ → ℕ → Option ℕ
open_past tokens zero at level = Some level
open_past tokens (suc count) at level = do
  token ← slice_get tokens at
  more ← open_after token level
  open_past tokens count (at + 1) more

-- inside so many parentheses, or more: those that open up to the second place close there
abbrev pub BalancedIn : ℕ → List Lexeme → ℕ → ℕ → Type 0
BalancedIn least tokens at next = (count : ℕ) × (next ≡ at + count) × ((level : ℕ) → least ≤ level → open_past tokens count at level ≡ Some level)

-- Up to the second place parentheses come in pairs, no `:` stands outside them, and no token ends a statement.
abbrev pub Balanced : List Lexeme → ℕ → ℕ → Type 0
Balanced tokens at next = BalancedIn 0 tokens at next

-- a form that stands on such tokens
abbrev pub Balances : {A : Type 0} → ℕ → List Lexeme → Form A → Type 0
Balances {A = A} least tokens F = (at : ℕ) (a : A) (next : ℕ) → F at a next → BalancedIn least tokens at next

-- a token on which a statement may go on
abbrev pub GoesOn : List Lexeme → ℕ → Type 0
GoesOn tokens at = (token : Lexeme) × (slice_get tokens at ≡ Some token) × (is_end token ≡ false)

-- an expression has no `:` outside parentheses
abbrev pub ExpressionsBalance : Type 0
ExpressionsBalance = (tokens : List Lexeme) (depth at : ℕ) (e : Expr) (next : ℕ) → IsExpr tokens depth at e next → Balanced tokens at next

-- nor has a condition
abbrev pub ConditionsBalance : Type 0
ConditionsBalance = (tokens : List Lexeme) (depth at : ℕ) (c : Cond) (next : ℕ) → IsCond tokens depth at c next → Balanced tokens at next

-- from one place on nothing balanced goes past a `:` that stands behind balanced tokens, and a statement may go on where it ends
abbrev pub ColonEnds : Type 0
ColonEnds = (tokens : List Lexeme) (at colon_at next : ℕ) → Balanced tokens at colon_at → IsSome (at_mark colon tokens colon_at) → Balanced tokens at next →
    (next ≤ colon_at) × GoesOn tokens next
