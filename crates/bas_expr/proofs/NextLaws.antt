-- The readers that the loops turn on take the longest, at each depth.
use Rattle.std.proofs.Common.{ℕ, ◌+◌, ◌≤◌, List, length, arith}
use Rattle.bas_form.specs.Form.{Terminal, ◌then◌}
use Rattle.bas_form.specs.Reader.{ReadsLongest}
use Rattle.bas_ast.specs.declared.expression.TermSign.{TermSign}
use Rattle.bas_ast.specs.declared.expression.FactorSign.{FactorSign}
use Rattle.bas_ast.specs.declared.expression.Term.{Term}
use Rattle.bas_ast.specs.declared.expression.Factor.{Factor}
use Rattle.bas_expr.specs.Lexemes.{Lexeme}
use Rattle.bas_expr.specs.Marks.{at_mark, comma, caret, term_sign_of, factor_sign_of}
use Rattle.bas_expr.specs.Separated.{Behind}
use Rattle.bas_expr.specs.Grammar.{IsActual, IsPrimary, IsFactor, IsTerm, IsExpr}
use Rattle.bas_expr.specs.Reading.{next_actual, next_primary, next_factor, next_term, expr, Opens, GoesFactor, GoesTerm, GoesExpr}
use Rattle.bas_expr.proofs.BracketLaws.{next_longest}
use Rattle.bas_expr.proofs.ExpressionLaws.{next_primary_longest, next_factor_longest, next_term_longest, expr_longest, no_hash}

module _ (tokens : List Lexeme) (depth : ℕ) where
  pub actuals : ReadsLongest (length tokens) (1 + 1) (Behind (at_mark comma tokens) (IsActual tokens (IsExpr tokens depth))) (GoesExpr tokens) (next_actual tokens (expr tokens depth))
  actuals = next_longest tokens (IsExpr tokens depth) (expr tokens depth) (expr_longest tokens depth) (no_hash tokens depth)

  pub primaries : ReadsLongest (length tokens) (1 + 1) (Behind (at_mark caret tokens) (IsPrimary tokens (IsExpr tokens depth))) (Opens tokens) (next_primary tokens (expr tokens depth))
  primaries = next_primary_longest tokens (IsExpr tokens depth) (expr tokens depth) (expr_longest tokens depth) (no_hash tokens depth)

  pub factors : ReadsLongest (length tokens) (1 + (1 + 0)) (λ at (p : FactorSign × Factor) next. (Terminal (at_mark factor_sign_of tokens) then IsFactor tokens (IsExpr tokens depth)) at p next) (GoesFactor tokens) (next_factor tokens (expr tokens depth))
  factors = next_factor_longest tokens (IsExpr tokens depth) (expr tokens depth) (expr_longest tokens depth) (no_hash tokens depth)

  pub terms : ReadsLongest (length tokens) (1 + (1 + 0 + 0)) (λ at (p : TermSign × Term) next. (Terminal (at_mark term_sign_of tokens) then IsTerm tokens (IsExpr tokens depth)) at p next) (GoesTerm tokens) (next_term tokens (expr tokens depth))
  terms = next_term_longest tokens (IsExpr tokens depth) (expr tokens depth) (expr_longest tokens depth) (no_hash tokens depth)

-- each turn takes two tokens at least
pub two : 1 ≤ 1 + 1
two = omega arith

pub two_and_none : 1 ≤ 1 + (1 + 0)
two_and_none = omega arith

pub two_and_none_more : 1 ≤ 1 + (1 + 0 + 0)
two_and_none_more = omega arith
