-- The readers of factors, terms and expressions take the longest, at each depth.
use Rattle.std.proofs.Common.{◌≡◌, ℕ, zero, suc, ◌+◌, ◌≤◌, ◌⊎◌, inl, inr, List, length, Option, Some, None, refl, subst, arith}
use Rattle.bas_form.specs.Form.{Form, Terminal, ◌then◌, Optional, Chain}
use Rattle.bas_form.specs.Reader.{Reader, terminal, chain, ReadsLongest, Begins}
use Rattle.bas_form.proofs.ReaderLaws.{terminal_longest, optional_longest, built_longest, some_is, begun, weaker}
use Rattle.bas_form.proofs.SequenceLaws.{then_longest}
use Rattle.bas_form.proofs.RepetitionLaws.{chain_longest, operator_item_longest}
use Rattle.bas_ast.specs.declared.expression.Sign.{Sign}
use Rattle.bas_ast.specs.declared.expression.TermSign.{TermSign}
use Rattle.bas_ast.specs.declared.expression.FactorSign.{FactorSign}
use Rattle.bas_ast.specs.declared.expression.Expr.{Expr}
use Rattle.bas_ast.specs.declared.expression.Term.{Term}
use Rattle.bas_ast.specs.declared.expression.Factor.{Factor}
use Rattle.bas_expr.specs.Lexemes.{Lexeme}
use Rattle.bas_expr.specs.Marks.{at_mark, caret, hash, sign_of, term_sign_of, factor_sign_of}
use Rattle.bas_expr.specs.Words.{negation}
use Rattle.bas_expr.specs.Separated.{Behind}
use Rattle.bas_expr.specs.Grammar.{IsPrimary, IsFactor, IsTerm, IsSum, IsExpr, factor_of, term_of, expr_of}
use Rattle.bas_expr.specs.Reading.{next_primary, one_factor, next_factor, one_term, next_term, sum, expr, Opens, GoesFactor, GoesTerm, GoesExpr}
use Rattle.bas_expr.proofs.MarkLaws.{no_caret, no_factor_sign, no_term_sign, mark_inside, at_sign, is_mark, mark_first}
use Rattle.bas_expr.proofs.SeparatedLaws.{behind_longest, separated_longest}
use Rattle.bas_expr.proofs.PrimaryLaws.{primary_longest, primary_begun, Begun}

-- what stands where an expression begins: no `#` and no NOT
abbrev pub Starts : List Lexeme → ℕ → Type 0
Starts tokens at = (at_mark hash tokens at ≡ None) × (negation tokens at ≡ None)

module _ (tokens : List Lexeme) (Inner : Form Expr) (inner : Reader Expr) (is : ReadsLongest (length tokens) 1 Inner (GoesExpr tokens) inner)
    (starts : (at : ℕ) (e : Expr) (next : ℕ) → Inner at e next → at_mark hash tokens at ≡ None) where
  pub next_primary_longest : ReadsLongest (length tokens) (1 + 1) (Behind (at_mark caret tokens) (IsPrimary tokens Inner)) (Opens tokens) (next_primary tokens inner)
  next_primary_longest = behind_longest (at_mark caret tokens) (mark_inside tokens caret) (primary_longest tokens Inner inner is starts) (no_caret tokens)

  pub factor_longest : ReadsLongest (length tokens) (1 + 0) (IsFactor tokens Inner) (GoesFactor tokens) (one_factor tokens inner)
  unfolding one_factor
  factor_longest = built_longest factor_of (separated_longest (at_mark caret tokens) (mark_inside tokens caret) (primary_longest tokens Inner inner is starts) (no_caret tokens))

  pub next_factor_longest : ReadsLongest (length tokens) (1 + (1 + 0)) (λ at (p : FactorSign × Factor) next. (Terminal (at_mark factor_sign_of tokens) then IsFactor tokens Inner) at p next) (GoesFactor tokens) (next_factor tokens inner)
  next_factor_longest = operator_item_longest (at_mark factor_sign_of tokens) (mark_inside tokens factor_sign_of) factor_longest (no_factor_sign tokens)

  pub term_longest : ReadsLongest (length tokens) (1 + 0 + 0) (IsTerm tokens Inner) (GoesTerm tokens) (one_term tokens inner)
  unfolding one_term
  term_longest = built_longest term_of (chain_longest (at_mark factor_sign_of tokens) (mark_inside tokens factor_sign_of) factor_longest (no_factor_sign tokens))

  pub next_term_longest : ReadsLongest (length tokens) (1 + (1 + 0 + 0)) (λ at (p : TermSign × Term) next. (Terminal (at_mark term_sign_of tokens) then IsTerm tokens Inner) at p next) (GoesTerm tokens) (next_term tokens inner)
  next_term_longest = operator_item_longest (at_mark term_sign_of tokens) (mark_inside tokens term_sign_of) term_longest (no_term_sign tokens)

  terms_longest : ReadsLongest (length tokens) (1 + 0 + 0 + 0) (Chain (at_mark term_sign_of tokens) (IsTerm tokens Inner)) (GoesExpr tokens) (chain (at_mark term_sign_of tokens) (one_term tokens inner) (length tokens))
  terms_longest = chain_longest (at_mark term_sign_of tokens) (mark_inside tokens term_sign_of) term_longest (no_term_sign tokens)

  terms_begun : (at : ℕ) (p : Term × List (TermSign × Term)) (next : ℕ) → Chain (at_mark term_sign_of tokens) (IsTerm tokens Inner) at p next → Begun tokens Inner inner is starts at
  terms_begun at p next h =
      let term = h.1 in
      let factors = term.2 in
      let factor = factors.1 in
      let primaries = factor.2 in
      primary_begun tokens Inner inner is starts at factor.0.0 primaries.0 primaries.1

  sign_longest : ReadsLongest (length tokens) 1 (Terminal (at_mark sign_of tokens)) (λ _. ⊥) (terminal (at_mark sign_of tokens))
  sign_longest = terminal_longest (length tokens) (at_mark sign_of tokens) (mark_inside tokens sign_of)

  takes_sign : 1 ≤ 1
  takes_sign = omega arith

  no_sign : (n : ℕ) → ⊥ ⊎ Begins (terminal (at_mark sign_of tokens)) n → (p : Term × List (TermSign × Term)) (m : ℕ) → Chain (at_mark term_sign_of tokens) (IsTerm tokens Inner) n p m → ⊥
  no_sign n (inl z) p m h = z
  no_sign n (inr s) p m h =
      let b = begun sign_longest n s in
      let some = b.2.0 in
      let none = (terms_begun n p m h).0 in
      absurd (cc)

  pub sum_longest : ReadsLongest (length tokens) (0 + (1 + 0 + 0 + 0)) (IsSum tokens Inner) (GoesExpr tokens) (sum tokens inner)
  unfolding sum
  sum_longest = built_longest expr_of (then_longest (optional_longest sign_longest takes_sign) terms_longest no_sign)

  sum_by : (at : ℕ) (s : Option Sign) (p : Term × List (TermSign × Term)) (m next : ℕ) → Optional (Terminal (at_mark sign_of tokens)) at s m → Chain (at_mark term_sign_of tokens) (IsTerm tokens Inner) m p next → Starts tokens at
  sum_by at None p m next o h = let b = terms_begun at p next (subst (λ (n : ℕ). Chain (at_mark term_sign_of tokens) (IsTerm tokens Inner) n p next) o h) in (b.1, b.2)
  sum_by at (Some s) p m next o h =
      let some = some_is o.0 in
      let x = is_mark tokens at sign_of some in
      let c = (mark_first tokens at x.0 x.1).0 in
      ((at_sign tokens at some).0, rw c refl)

  pub sum_starts : (at : ℕ) (e : Expr) (next : ℕ) → IsSum tokens Inner at e next → Starts tokens at
  sum_starts at e next h = let body = h.2 in sum_by at h.0.0 h.0.1 body.0 next body.1 body.2

-- ---- all depths

none_longest : (tokens : List Lexeme) → ReadsLongest (length tokens) 1 (IsExpr tokens 0) (GoesExpr tokens) (expr tokens 0)
unfolding IsExpr expr
none_longest tokens = record { sound = λ at e next h. absurd (cc); grows = λ at e next h. absurd h; within = λ at e next h. absurd h; longest = λ at e next h. absurd h }

abbrev pub ExprLaw : List Lexeme → ℕ → Type 0
ExprLaw tokens depth = ReadsLongest (length tokens) 1 (IsExpr tokens depth) (GoesExpr tokens) (expr tokens depth) ×
    ((at : ℕ) (e : Expr) (next : ℕ) → IsExpr tokens depth at e next → Starts tokens at)

expr_law : (tokens : List Lexeme) (depth : ℕ) → ExprLaw tokens depth
unfolding IsExpr expr
expr_law tokens zero = (none_longest tokens, λ at e next h. absurd h)
expr_law tokens (suc depth) =
    let ih = expr_law tokens depth in
    let starts = λ (at : ℕ) (e : Expr) (next : ℕ) (h : IsExpr tokens depth at e next). (ih.1 at e next h).0 in (
      weaker (sum_longest tokens (IsExpr tokens depth) (expr tokens depth) ih.0 starts) (GoesExpr tokens) 1 (λ n g. g) (omega arith),
      sum_starts tokens (IsExpr tokens depth) (expr tokens depth) ih.0 starts,
    )

pub expr_longest : (tokens : List Lexeme) (depth : ℕ) → ReadsLongest (length tokens) 1 (IsExpr tokens depth) (GoesExpr tokens) (expr tokens depth)
expr_longest tokens depth = (expr_law tokens depth).0

pub expr_starts : (tokens : List Lexeme) (depth at : ℕ) (e : Expr) (next : ℕ) → IsExpr tokens depth at e next → Starts tokens at
expr_starts tokens depth = (expr_law tokens depth).1

pub no_hash : (tokens : List Lexeme) (depth at : ℕ) (e : Expr) (next : ℕ) → IsExpr tokens depth at e next → at_mark hash tokens at ≡ None
no_hash tokens depth at e next h = (expr_starts tokens depth at e next h).0
