-- What stands where an expression begins.
use Rattle.std.proofs.Common.{ℕ, zero, suc, ◌⊎◌, inl, inr, List, Option, Some, None, IsSome, subst}
use Rattle.bas_form.specs.Form.{Form, Terminal, Optional, Chain}
use Rattle.bas_form.proofs.ReaderLaws.{some_is}
use Rattle.bas_ast.specs.declared.expression.Sign.{Sign}
use Rattle.bas_ast.specs.declared.expression.TermSign.{TermSign}
use Rattle.bas_ast.specs.declared.expression.Expr.{Expr}
use Rattle.bas_ast.specs.declared.expression.Term.{Term}
use Rattle.bas_ast.specs.declared.expression.Primary.{Primary}
use Rattle.bas_expr.specs.Lexemes.{Lexeme}
use Rattle.bas_expr.specs.Marks.{at_mark, opening, sign_of, term_sign_of}
use Rattle.bas_expr.specs.Words.{any_name, numeral, quoted}
use Rattle.bas_expr.specs.Grammar.{IsPrimary, IsTerm, IsSum, IsExpr}
use Rattle.bas_expr.proofs.MarkLaws.{own_is}
use Rattle.bas_expr.proofs.SeparatedLaws.{opened}

-- a sign, a parenthesis, a numeral, a quoted text or a name
abbrev pub Front : List Lexeme → ℕ → Type 0
Front tokens n = IsSome (at_mark sign_of tokens n) ⊎ (IsSome (at_mark opening tokens n) ⊎ (IsSome (numeral tokens n) ⊎ (IsSome (quoted tokens n) ⊎ IsSome (any_name tokens n))))

module _ (tokens : List Lexeme) (Inner : Form Expr) where
  primary_front : (at : ℕ) (x : Primary) (next : ℕ) → IsPrimary tokens Inner at x next → Front tokens at
  primary_front at x next (inl h) = inr (inr (inl (some_is h.2.0)))
  primary_front at x next (inr (inl h)) = inr (inr (inr (inl (some_is h.2.0))))
  primary_front at x next (inr (inr (inl h))) = let o = opened tokens Inner at h.0 next h.2 in inr (inl (some_is o.3))
  primary_front at x next (inr (inr (inr (inl h)))) = let body = h.2 in inr (inr (inr (inr (some_is body.1.0))))
  primary_front at x next (inr (inr (inr (inr h)))) =
      let body = h.2 in
      let target = body.1 in
      let parts = target.2 in
      inr (inr (inr (inr (some_is (own_is tokens at target.0.0 parts.1.0).0))))

  chain_front : (at : ℕ) (p : Term × List (TermSign × Term)) (next : ℕ) → Chain (at_mark term_sign_of tokens) (IsTerm tokens Inner) at p next → Front tokens at
  chain_front at p next h =
      let term = h.1 in
      let factors = term.2 in
      let factor = factors.1 in
      let primaries = factor.2 in
      primary_front at factor.0.0 primaries.0 primaries.1

  sum_by : (at : ℕ) (s : Option Sign) (p : Term × List (TermSign × Term)) (m next : ℕ) → Optional (Terminal (at_mark sign_of tokens)) at s m → Chain (at_mark term_sign_of tokens) (IsTerm tokens Inner) m p next → Front tokens at
  sum_by at None p m next o h = chain_front at p next (subst (λ (n : ℕ). Chain (at_mark term_sign_of tokens) (IsTerm tokens Inner) n p next) o h)
  sum_by at (Some s) p m next o h = inl (some_is o.0)

  sum_front : (at : ℕ) (e : Expr) (next : ℕ) → IsSum tokens Inner at e next → Front tokens at
  sum_front at e next h = let body = h.2 in sum_by at h.0.0 h.0.1 body.0 next body.1 body.2

pub expr_front : (tokens : List Lexeme) (depth at : ℕ) (e : Expr) (next : ℕ) → IsExpr tokens depth at e next → Front tokens at
unfolding IsExpr
expr_front tokens zero at e next h = absurd h
expr_front tokens (suc depth) at e next h = sum_front tokens (IsExpr tokens depth) at e next h
