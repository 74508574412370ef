-- The readers of values and targets take the longest.
use Rattle.std.proofs.Common.{◌≡◌, ℕ, ◌+◌, ◌≤◌, ◌⊎◌, inl, inr, List, length, Option, Some, None, IsSome, refl, arith}
use Rattle.std.specs.Option.{option_map}
use Rattle.bas_form.specs.Reader.{Reader, terminal, both, built, ReadsLongest, Begins}
use Rattle.bas_form.proofs.ReaderLaws.{some_is, built_longest, weaker, begun}
use Rattle.bas_form.proofs.SequenceLaws.{perhaps_longest}
use Rattle.bas_expr.specs.Lexemes.{Lexeme}
use Rattle.bas_expr.specs.Marks.{at_mark, comma, opening, closing}
use Rattle.bas_expr.specs.Separated.{Behind, Separated}
use Rattle.bas_expr.specs.Grammar.{IsExpr, IsTarget, Parenthesized, target_of}
use Rattle.bas_expr.specs.Reading.{parenthesized, GoesExpr, Opens}
use Rattle.bas_expr.proofs.MarkLaws.{stops, at_comma, mark_inside}
use Rattle.bas_expr.proofs.SeparatedLaws.{behind_longest, separated_longest}
use Rattle.bas_expr.proofs.ExpressionLaws.{expr_longest}
use Rattle.bas_declaration.specs.Parts.{listed_of, Listed}
use Rattle.bas_declaration.proofs.PartLaws.{listed_longest, name_longest, no_comma_past, enclosed_longest}
use Rattle.bas_list.specs.declared.TheConstants.{INNER_LEVELS}
use Rattle.bas_list.specs.Lists.{Inner, IsValues, IsEnclosed, IsTargets, targets_of}
use Rattle.bas_list.specs.Reading.{in_list, next_value, values, enclosed_values, subscripts, one_target, next_target, target_list, targets, GoesList}

-- each turn of a list takes two tokens at least
pub two : 1 ≤ 1 + 1
two = omega arith

-- ---- a list in parentheses, with its first item apart or not

module _ {A : Type 0} (tokens : List Lexeme) (f : Reader (A × List A)) (at : ℕ) where
  abbrev IsListed : Type 0
  IsListed = parenthesized tokens (built (λ (p : A × List A). listed_of p) f) at ≡ option_map in_list (parenthesized tokens f at)

  closed_by : (u : Unit {0}) (p : (A × List A) × ℕ) (c : Option (Unit {0})) → at_mark opening tokens at ≡ Some u → f (at + 1) ≡ Some p → at_mark closing tokens p.1 ≡ c → IsListed
  unfolding built both terminal
  closed_by u p None eo er ec = rw (eo, er, ec) refl
  closed_by u p (Some v) eo er ec = rw (eo, er, ec) refl

  read_by : (u : Unit {0}) (r : Option ((A × List A) × ℕ)) → at_mark opening tokens at ≡ Some u → f (at + 1) ≡ r → IsListed
  unfolding built both terminal
  read_by u None eo er = rw (eo, er) refl
  read_by u (Some p) eo er = closed_by u p (at_mark closing tokens p.1) eo er refl

  open_by : (o : Option (Unit {0})) → at_mark opening tokens at ≡ o → IsListed
  unfolding built both terminal
  open_by None eo = rw eo refl
  open_by (Some u) eo = read_by u (f (at + 1)) eo refl

pub subscripts_listed : (tokens : List Lexeme) (at : ℕ) → enclosed_values tokens at ≡ option_map in_list (subscripts tokens at)
unfolding enclosed_values subscripts values
subscripts_listed tokens at = open_by tokens _ at (at_mark opening tokens at) refl

module _ (tokens : List Lexeme) where
  -- ---- values

  pub next_value_longest : (depth : ℕ) → ReadsLongest (length tokens) (1 + 1) (Behind (at_mark comma tokens) (IsExpr tokens depth)) (GoesExpr tokens) (next_value tokens depth)
  next_value_longest depth = behind_longest (at_mark comma tokens) (mark_inside tokens comma) (expr_longest tokens depth) (no_comma_past tokens)

  pub values_longest : (depth : ℕ) → ReadsLongest (length tokens) 1 (IsValues tokens depth) (GoesList tokens) (values tokens depth)
  unfolding values
  values_longest depth = weaker (listed_longest tokens (expr_longest tokens depth) (no_comma_past tokens)) (GoesList tokens) 1 (λ n g. g) (omega arith)

  not_closed : (n : ℕ) → GoesList tokens n → (u : Unit {0}) → at_mark closing tokens n ≡ Some u → ⊥
  not_closed n (inl g) u e = let f = (stops tokens n g).2 in absurd (cc)
  not_closed n (inr h) u e = let f = (at_comma tokens n h).1 in absurd (cc)

  pub enclosed_values_longest : ReadsLongest (length tokens) 3 (IsEnclosed tokens) (λ _. ⊥) (enclosed_values tokens)
  unfolding enclosed_values
  enclosed_values_longest = weaker (enclosed_longest tokens (values_longest INNER_LEVELS) not_closed) (λ _. ⊥) 3 (λ n z. z) (omega arith)

  -- ---- targets

  subscripts_longest : ReadsLongest (length tokens) 3 (Parenthesized tokens (Separated (at_mark comma tokens) (Inner tokens))) (λ _. ⊥) (subscripts tokens)
  unfolding subscripts
  subscripts_longest = weaker (enclosed_longest tokens (separated_longest (at_mark comma tokens) (mark_inside tokens comma) (expr_longest tokens INNER_LEVELS) (no_comma_past tokens)) not_closed)
      (λ _. ⊥) 3 (λ n z. z) (omega arith)

  subscripts_open : (n : ℕ) → Begins (subscripts tokens) n → IsSome (at_mark opening tokens n)
  subscripts_open n h = let b = begun subscripts_longest n h in let body = b.2.2 in some_is body.1.0

  pub target_longest : ReadsLongest (length tokens) 1 (IsTarget tokens (Inner tokens)) (Opens tokens) (one_target tokens)
  unfolding one_target
  target_longest = weaker (built_longest target_of (perhaps_longest (name_longest tokens) subscripts_longest (omega arith) (λ n z b m h. z)))
      (Opens tokens) 1 (λ n g. elim g as (λ _. Opens tokens n) [ inl z ↦ absurd z | inr (inl z) ↦ absurd z | inr (inr d) ↦ subscripts_open n d ]) (omega arith)

  no_comma : (n : ℕ) → Opens tokens n → at_mark comma tokens n ≡ None
  no_comma n h = no_comma_past tokens n (inl (inl (inl h)))

  pub next_target_longest : ReadsLongest (length tokens) (1 + 1) (Behind (at_mark comma tokens) (IsTarget tokens (Inner tokens))) (Opens tokens) (next_target tokens)
  next_target_longest = behind_longest (at_mark comma tokens) (mark_inside tokens comma) target_longest no_comma

  opens_list : (n : ℕ) → (Opens tokens n ⊎ IsSome (at_mark comma tokens n)) → GoesList tokens n
  opens_list n (inl h) = inl (inl (inl (inl h)))
  opens_list n (inr h) = inr h

  target_list_longest : ReadsLongest (length tokens) 1 (Listed tokens (IsTarget tokens (Inner tokens))) (GoesList tokens) (target_list tokens)
  unfolding target_list
  target_list_longest = weaker (listed_longest tokens target_longest no_comma) (GoesList tokens) 1 opens_list (omega arith)

  pub targets_longest : ReadsLongest (length tokens) 1 (IsTargets tokens) (GoesList tokens) (targets tokens)
  unfolding targets
  targets_longest = built_longest targets_of target_list_longest
