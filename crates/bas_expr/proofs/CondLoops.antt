-- The readers that the loops of conditions turn on take the longest, and how a test is read by what stands first.
use Rattle.std.proofs.Common.{◌≡◌, ℕ, suc, ◌+◌, ◌-◌, ◌≤◌, List, length, Option, Some, None, refl, subst, arith}
use Rattle.bas_form.specs.Reader.{ReadsLongest, Reader}
use Rattle.bas_ast.specs.declared.expression.Expr.{Expr}
use Rattle.bas_ast.specs.declared.condition.Cond.{Cond}
use Rattle.bas_ast.specs.declared.condition.Test.{Test}
use Rattle.bas_expr.specs.Lexemes.{Lexeme}
use Rattle.bas_expr.specs.Words.{negation, and_word, or_word}
use Rattle.bas_expr.specs.Separated.{Behind}
use Rattle.bas_expr.specs.Grammar.{IsExpr}
use Rattle.bas_expr.specs.Reading.{expr, GoesExpr}
use Rattle.bas_expr.specs.Conditions.{IsTest, IsConj, IsCond}
use Rattle.bas_expr.specs.Testing.{test, negated, group, comparison, next_test, next_conj, alternative, cond, GoesConj}
use Rattle.bas_expr.proofs.ExpressionLaws.{expr_longest, expr_starts}
use Rattle.bas_expr.proofs.ConditionLaws.{next_test_longest, next_conj_longest, cond_longest, one_of}

module _ (tokens : List Lexeme) (depth : ℕ) where
  tests_by : ReadsLongest (length tokens) (1 + 1) (Behind (and_word tokens) (IsTest tokens (IsExpr tokens (suc depth)) (IsCond tokens depth) (length tokens))) (GoesExpr tokens) (next_test tokens (expr tokens (suc depth)) (cond tokens depth) (length tokens))
  tests_by = next_test_longest tokens (IsExpr tokens (suc depth)) (expr tokens (suc depth)) (expr_longest tokens (suc depth)) (expr_starts tokens (suc depth)) (IsCond tokens depth) (cond tokens depth) (cond_longest tokens depth) (one_of tokens depth) (length tokens)

  conjs_by : ReadsLongest (length tokens) (1 + (1 + 0)) (Behind (or_word tokens) (IsConj tokens (IsExpr tokens (suc depth)) (IsCond tokens depth) (length tokens))) (GoesConj tokens) (next_conj tokens (expr tokens (suc depth)) (cond tokens depth) (length tokens))
  conjs_by = next_conj_longest tokens (IsExpr tokens (suc depth)) (expr tokens (suc depth)) (expr_longest tokens (suc depth)) (expr_starts tokens (suc depth)) (IsCond tokens depth) (cond tokens depth) (cond_longest tokens depth) (one_of tokens depth) (length tokens)

  one_more : suc depth ≡ depth + 1
  one_more = omega arith

  abbrev TestsAt : ℕ → Type 0
  TestsAt d = ReadsLongest (length tokens) (1 + 1) (Behind (and_word tokens) (IsTest tokens (IsExpr tokens d) (IsCond tokens depth) (length tokens))) (GoesExpr tokens) (next_test tokens (expr tokens d) (cond tokens depth) (length tokens))

  abbrev ConjsAt : ℕ → Type 0
  ConjsAt d = ReadsLongest (length tokens) (1 + (1 + 0)) (Behind (or_word tokens) (IsConj tokens (IsExpr tokens d) (IsCond tokens depth) (length tokens))) (GoesConj tokens) (next_conj tokens (expr tokens d) (cond tokens depth) (length tokens))

  pub tests : TestsAt (depth + 1)
  tests = subst TestsAt one_more tests_by

  pub conjs : ConjsAt (depth + 1)
  conjs = subst ConjsAt one_more conjs_by

-- each turn takes two tokens at least
pub two : 1 ≤ 1 + 1
two = omega arith

pub two_and_none : 1 ≤ 1 + (1 + 0)
two_and_none = omega arith

-- no condition stands in no parentheses
pub cond_none : (tokens : List Lexeme) (depth at : ℕ) → depth ≡ 0 → None ≡ cond tokens depth at
unfolding cond
cond_none tokens depth at e = rw e refl

level_by : (tokens : List Lexeme) (depth n at : ℕ) → depth ≡ suc n → alternative tokens (expr tokens (n + 1)) (cond tokens n) (length tokens) at ≡ cond tokens depth at
unfolding cond
level_by tokens depth n at e = let one : n + 1 ≡ suc n = omega arith in rw (e, one) refl

pub cond_of_level : (tokens : List Lexeme) (depth at : ℕ) → (depth ≡ 0 → ⊥) → alternative tokens (expr tokens (depth - 1 + 1)) (cond tokens (depth - 1)) (length tokens) at ≡ cond tokens depth at
cond_of_level tokens depth at some = level_by tokens depth (depth - 1) at (omega arith)

module _ (tokens : List Lexeme) (e : Reader Expr) (inner : Reader Cond) (nots at : ℕ) where
  pub test_none : nots ≡ 0 → None ≡ test tokens e inner nots at
  unfolding test
  test_none z = rw z refl

  pub test_not : (u : Unit {0}) (o : Option (Test × ℕ)) → (nots ≡ 0 → ⊥) → negation tokens at ≡ Some u → o ≡ test tokens e inner (nots - 1) (at + 1) → negated tokens e inner o ≡ test tokens e inner nots at
  unfolding test
  test_not u o some en eo = let s : nots ≡ suc (nots - 1) = omega arith in rw (s, en, eo) refl

  pub test_found : (x : Test × ℕ) → (nots ≡ 0 → ⊥) → negation tokens at ≡ None → comparison tokens e at ≡ Some x → Some x ≡ test tokens e inner nots at
  unfolding test
  test_found x some en ec = let s : nots ≡ suc (nots - 1) = omega arith in rw (s, en, ec) refl

  pub test_group : (nots ≡ 0 → ⊥) → negation tokens at ≡ None → comparison tokens e at ≡ None → group tokens inner at ≡ test tokens e inner nots at
  unfolding test
  test_group some en ec = let s : nots ≡ suc (nots - 1) = omega arith in rw (s, en, ec) refl
