-- How the condition that a token begins is read.
use Rattle.std.specs.Prelude.{ℕ, zero, suc, ◌+◌, ◌⊎◌, List, length, Option, Some, None, IsSome}
use Rattle.bas_form.specs.Reader.{Reader, terminal, ◌followed_by◌, built}
use Rattle.bas_ast.specs.declared.expression.Expr.{Expr}
use Rattle.bas_ast.specs.declared.condition.Test.{Test}
use Rattle.bas_ast.specs.declared.condition.Test as t
use Rattle.bas_ast.specs.declared.condition.Conj.{Conj}
use Rattle.bas_ast.specs.declared.condition.Cond.{Cond}
use Rattle.bas_expr.specs.Lexemes.{Lexeme}
use Rattle.bas_expr.specs.Marks.{at_mark, rel_of}
use Rattle.bas_expr.specs.Words.{negation, and_word, or_word}
use Rattle.bas_expr.specs.Separated.{behind, separated}
use Rattle.bas_expr.specs.Conditions.{conj_of, cond_of, compare_of}
use Rattle.bas_expr.specs.Reading.{parenthesized, expr, GoesExpr}

-- `e` reads an expression.
module _ (tokens : List Lexeme) (e : Reader Expr) where
  -- reads expr rel expr
  unfoldable pub comparison : Reader Test
  comparison = built compare_of (e followed_by terminal (at_mark rel_of tokens) followed_by e)

-- `inner` reads a condition inside parentheses.
module _ (tokens : List Lexeme) (inner : Reader Cond) where
  -- reads "(" cond ")"
  unfoldable pub group : Reader Test
  group = built t.Group (parenthesized tokens inner)

module _ (tokens : List Lexeme) (e : Reader Expr) (inner : Reader Cond) where
  -- a comparison, or else a condition in parentheses
  abbrev pub compared_or : Option (Test × ℕ) → ℕ → Option (Test × ℕ)
  compared_or (Some found) at = Some found
  compared_or None at = group tokens inner at

  -- NOT in front of a test
  abbrev pub negated : Option (Test × ℕ) → Option (Test × ℕ)
  negated None = None
  negated (Some x) = Some (t.Not x.0, x.1)

  -- a test, by whether NOT stands there
  abbrev pub test_by : Option (Unit {0}) → (ℕ → Option (Test × ℕ)) → ℕ → Option (Test × ℕ)
  test_by (Some word) again at = negated (again (at + 1))
  test_by None again at = compared_or (comparison tokens e at) at

  -- so many NOT may stand in a row, less one
  unfoldable pub test : ℕ → Reader Test
  test zero at = None
  test (suc nots) at = test_by (negation tokens at) (test nots) at

  -- "AND" test
  abbrev pub next_test : ℕ → Reader Test
  next_test nots = behind (and_word tokens) (test nots)

  -- reads tests joined by AND
  unfoldable pub conj : ℕ → Reader Conj
  conj nots = built conj_of (separated (and_word tokens) (test nots) (length tokens))

  -- "OR" conj
  abbrev pub next_conj : ℕ → Reader Conj
  next_conj nots = behind (or_word tokens) (conj nots)

  -- reads a condition whose parentheses `inner` reads
  unfoldable pub alternative : ℕ → Reader Cond
  alternative nots = built cond_of (separated (or_word tokens) (conj nots) (length tokens))

-- reads a condition with parentheses nested less deep than the number
unfoldable pub cond : List Lexeme → ℕ → Reader Cond
cond tokens zero at = None
cond tokens (suc depth) at = alternative tokens (expr tokens (suc depth)) (cond tokens depth) (length tokens) at

-- ---- the places at which a part of a condition may go on

-- where a conjunction may go on: where an expression may, or at AND
abbrev pub GoesConj : List Lexeme → ℕ → Type 0
GoesConj tokens n = GoesExpr tokens n ⊎ IsSome (and_word tokens n)

-- or at OR
abbrev pub GoesCond : List Lexeme → ℕ → Type 0
GoesCond tokens n = GoesConj tokens n ⊎ IsSome (or_word tokens n)
