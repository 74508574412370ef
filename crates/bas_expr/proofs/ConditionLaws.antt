-- The readers of conditions take the longest: `(` begins a condition in parentheses or an expression, and never both.
use Rattle.std.proofs.Common.{◌≡◌, ℕ, zero, suc, ◌+◌, ◌<◌, ◌⊎◌, inl, inr, List, length, Option, Some, None, IsSome, refl, sym, ap, ◌∙◌, subst, arith}
use Rattle.bas_form.specs.Form.{Form, Terminal, ◌then◌, Optional, ◌or◌, Built, Chain}
use Rattle.bas_form.specs.Reader.{Reader, either, both, built, terminal, ReadsLongest}
use Rattle.bas_form.proofs.ReaderLaws.{same_some, some_is, terminal_longest, built_longest, either_longest, weaker, ends}
use Rattle.bas_form.proofs.SequenceLaws.{then_longest, between_longest}
use Rattle.bas_ast.specs.declared.expression.Sign.{Sign}
use Rattle.bas_ast.specs.declared.expression.TermSign.{TermSign}
use Rattle.bas_ast.specs.declared.expression.Expr.{Expr}
use Rattle.bas_ast.specs.declared.expression.Term.{Term}
use Rattle.bas_ast.specs.declared.expression.Primary.{Primary}
use Rattle.bas_ast.specs.declared.condition.Rel.{Rel}
use Rattle.bas_ast.specs.declared.condition.Test.{Test}
use Rattle.bas_ast.specs.declared.condition.Test as t
use Rattle.bas_ast.specs.declared.condition.Cond.{Cond}
use Rattle.bas_expr.specs.declared.word.Connective.{Connective}
use Rattle.bas_expr.specs.declared.word.Connective.TheVariants as w
use Rattle.bas_expr.specs.Lexemes.{Lexeme}
use Rattle.bas_expr.specs.Marks.{mark, at_mark, opening, closing, sign_of, term_sign_of, rel_of}
use Rattle.bas_expr.specs.Words.{connective, negation_by, negation, and_by, and_word, or_by, or_word}
use Rattle.bas_expr.specs.Separated.{Behind, behind}
use Rattle.bas_expr.specs.Grammar.{Parenthesized, IsPrimary, IsTerm, IsSum, IsExpr}
use Rattle.bas_expr.specs.Reading.{expr, GoesExpr}
use Rattle.bas_expr.specs.Conditions.{conj_of, cond_of, compare_of, IsComparison, IsTest, IsConj, IsAlternative, IsCond}
use Rattle.bas_expr.specs.Testing.{comparison, group, compared_or, negated, test, next_test, conj, next_conj, alternative, cond, GoesConj, GoesCond}
use Rattle.bas_expr.proofs.MarkLaws.{stops, goes_mark, mark_inside, mark_first, is_mark, at_sign, at_closing, numeral_first, quoted_first, name_first, own_is, word_inside}
use Rattle.bas_expr.proofs.SeparatedLaws.{behind_longest, separated_longest, opened}
use Rattle.bas_expr.proofs.ExpressionLaws.{Starts, expr_longest, expr_starts}

-- ---- an expression that begins with a parenthesis has an expression in it

module _ (tokens : List Lexeme) (Inner : Form Expr) where
  abbrev InParentheses : ℕ → Type 0
  InParentheses at = (x : Expr) × (close : ℕ) × Inner (at + 1) x close × IsSome (at_mark closing tokens close)

  no_mark : (at : ℕ) → mark tokens at ≡ None → IsSome (at_mark opening tokens at) → InParentheses at
  no_mark at e h = let f = rw e at h in absurd (cc)

  in_primary : (at : ℕ) (p : Primary) (next : ℕ) → IsPrimary tokens Inner at p next → IsSome (at_mark opening tokens at) → InParentheses at
  in_primary at p next (inl h) s = no_mark at (numeral_first tokens at h.0 h.2.0).0.0 s
  in_primary at p next (inr (inl h)) s = no_mark at (quoted_first tokens at h.0 h.2.0).0.0 s
  in_primary at p next (inr (inr (inl h))) s = let o = opened tokens Inner at h.0 next h.2 in (h.0, o.2, o.4, some_is o.5)
  in_primary at p next (inr (inr (inr (inl h)))) s = let body = h.2 in no_mark at (name_first tokens at h.0.0 body.1.0).0.0 s
  in_primary at p next (inr (inr (inr (inr h)))) s =
      let body = h.2 in
      let target = body.1 in
      let parts = target.2 in
      no_mark at (name_first tokens at target.0.0 (own_is tokens at target.0.0 parts.1.0).0).0.0 s

  in_terms : (at : ℕ) (p : Term × List (TermSign × Term)) (next : ℕ) → Chain (at_mark term_sign_of tokens) (IsTerm tokens Inner) at p next → IsSome (at_mark opening tokens at) → InParentheses at
  in_terms at p next h s =
      let term = h.1 in
      let factors = term.2 in
      let factor = factors.1 in
      let primaries = factor.2 in
      in_primary at factor.0.0 primaries.0 primaries.1 s

  in_signed : (at : ℕ) (o : Option Sign) (p : Term × List (TermSign × Term)) (m next : ℕ) → Optional (Terminal (at_mark sign_of tokens)) at o m → Chain (at_mark term_sign_of tokens) (IsTerm tokens Inner) m p next →
      IsSome (at_mark opening tokens at) → InParentheses at
  in_signed at None p m next o h s = in_terms at p next (subst (λ (n : ℕ). Chain (at_mark term_sign_of tokens) (IsTerm tokens Inner) n p next) o h) s
  in_signed at (Some sign) p m next o h s = let n = (at_sign tokens at (some_is o.0)).1 in let f = rw n at s in absurd (cc)

  in_sum : (at : ℕ) (e : Expr) (next : ℕ) → IsSum tokens Inner at e next → IsSome (at_mark opening tokens at) → InParentheses at
  in_sum at e next h s = let body = h.2 in in_signed at h.0.0 h.0.1 body.0 next body.1 body.2 s

in_expr : (tokens : List Lexeme) (depth at : ℕ) (e : Expr) (next : ℕ) → IsExpr tokens (suc depth) at e next → IsSome (at_mark opening tokens at) → InParentheses tokens (IsExpr tokens depth) at
unfolding IsExpr
in_expr tokens depth at e next h s = in_sum tokens (IsExpr tokens depth) at e next h s

-- ---- words

and_no_or : (o : Option Connective) → IsSome (and_by o) → or_by o ≡ None
and_no_or (Some w.Or) h = absurd (cc)
and_no_or _ h = refl

module _ (tokens : List Lexeme) (n : ℕ) where
  -- where a mark stands no word does
  no_word : GoesExpr tokens n → connective tokens n ≡ None
  no_word g = let x = goes_mark tokens n g in (mark_first tokens n x.0 x.1).0

  pub no_and : GoesExpr tokens n → and_word tokens n ≡ None
  no_and g = rw (no_word g) refl

  pub no_or : GoesConj tokens n → or_word tokens n ≡ None
  no_or (inl g) = rw (no_word g) refl
  no_or (inr h) = and_no_or (connective tokens n) h

  no_rel : GoesExpr tokens n → at_mark rel_of tokens n ≡ None
  no_rel g = (stops tokens n g).3

  closing_word : IsSome (at_mark closing tokens n) → connective tokens n ≡ None
  closing_word h = let x = is_mark tokens n closing h in (mark_first tokens n x.0 x.1).0

  past_cond : GoesCond tokens n → IsSome (at_mark closing tokens n) → ⊥
  past_cond (inl (inl g)) h = let e = (stops tokens n g).2 in let f = rw e at h in absurd (cc)
  past_cond (inl (inr g)) h = let f = rw (closing_word h) at g in absurd (cc)
  past_cond (inr g) h = let f = rw (closing_word h) at g in absurd (cc)

module _ (tokens : List Lexeme) where
  pub not_inside : (n : ℕ) (u : Unit {0}) → negation tokens n ≡ Some u → n < length tokens
  not_inside = word_inside tokens negation_by refl

  pub and_inside : (n : ℕ) (u : Unit {0}) → and_word tokens n ≡ Some u → n < length tokens
  and_inside = word_inside tokens and_by refl

  pub or_inside : (n : ℕ) (u : Unit {0}) → or_word tokens n ≡ Some u → n < length tokens
  or_inside = word_inside tokens or_by refl

-- ---- one depth

module _ (tokens : List Lexeme) (E : Form Expr) (e : Reader Expr) (is : ReadsLongest (length tokens) 1 E (GoesExpr tokens) e)
    (starts : (at : ℕ) (x : Expr) (next : ℕ) → E at x next → Starts tokens at) where
  rel_longest : ReadsLongest (length tokens) 1 (Terminal (at_mark rel_of tokens)) (λ _. ⊥) (terminal (at_mark rel_of tokens))
  rel_longest = terminal_longest (length tokens) (at_mark rel_of tokens) (mark_inside tokens rel_of)

  before_rel : (n : ℕ) → GoesExpr tokens n → (p : Rel × Expr) (m : ℕ) → (Terminal (at_mark rel_of tokens) then E) n p m → ⊥
  before_rel n g p m k = let absent = no_rel tokens n g in let some = k.1.0 in absurd (cc)

  pub comparison_longest : ReadsLongest (length tokens) 1 (Built compare_of (IsComparison tokens E)) (GoesExpr tokens) (comparison tokens e)
  unfolding comparison
  comparison_longest = weaker (built_longest compare_of (then_longest is (then_longest rel_longest is (λ n z b m k. z)) before_rel)) (GoesExpr tokens) 1 (λ n g. g) (omega arith)

  module _ (Inner : Form Cond) (inner : Reader Cond) (isc : ReadsLongest (length tokens) 1 Inner (GoesCond tokens) inner)
      (one : (at : ℕ) (c : Expr × (Rel × Expr)) (next : ℕ) → IsComparison tokens E at c next → (d : Cond) (after : ℕ) → Parenthesized tokens Inner at d after → ⊥) where
    group_longest : ReadsLongest (length tokens) 1 (Built t.Group (Parenthesized tokens Inner)) (GoesExpr tokens) (group tokens inner)
    unfolding group
    group_longest = weaker (built_longest t.Group (between_longest (at_mark opening tokens) (mark_inside tokens opening) (at_mark closing tokens) (mark_inside tokens closing) isc
        (λ n g u c. past_cond tokens n g (some_is c)))) (GoesExpr tokens) 1 (λ n z. absurd z) (omega arith)

    group_or_comparison : (n : ℕ) (a : Test) (k : ℕ) → Built t.Group (Parenthesized tokens Inner) n a k → (b : Test) (m : ℕ) → Built compare_of (IsComparison tokens E) n b m → ⊥
    group_or_comparison n a k g b m c = one n c.0 m c.2 g.0 k g.2

    base_longest : ReadsLongest (length tokens) 1 (Built t.Group (Parenthesized tokens Inner) or Built compare_of (IsComparison tokens E)) (λ n. GoesExpr tokens n ⊎ GoesExpr tokens n) (either (group tokens inner) (comparison tokens e))
    base_longest = either_longest group_longest comparison_longest group_or_comparison

    negation_longest : (nots : ℕ) → ReadsLongest (length tokens) 1 (IsTest tokens E Inner nots) (GoesExpr tokens) (test tokens e inner nots) →
        ReadsLongest (length tokens) 1 (Built t.Not (Behind (negation tokens) (IsTest tokens E Inner nots))) (GoesExpr tokens) (built t.Not (behind (negation tokens) (test tokens e inner nots)))
    negation_longest nots ih = weaker (built_longest t.Not (behind_longest (negation tokens) (not_inside tokens) ih (λ n g. rw (no_word tokens n g) refl))) (GoesExpr tokens) 1 (λ n g. g) (omega arith)

    no_group : (n : ℕ) → IsSome (negation tokens n) → (d : Cond) (k : ℕ) → Parenthesized tokens Inner n d k → ⊥
    no_group n h d k p =
        let o = opened tokens Inner n d k p in
        let x = is_mark tokens n opening (some_is o.3) in
        let c = (mark_first tokens n x.0 x.1).0 in
        let f = rw c at h in absurd (cc)

    no_comparison : (n : ℕ) → IsSome (negation tokens n) → (c : Expr × (Rel × Expr)) (k : ℕ) → IsComparison tokens E n c k → ⊥
    no_comparison n h c k p = let s = (starts n c.0 p.0 p.1).1 in let f = rw s at h in absurd (cc)

    no_base : (n : ℕ) → IsSome (negation tokens n) → (b : Test) (m : ℕ) → (Built t.Group (Parenthesized tokens Inner) or Built compare_of (IsComparison tokens E)) n b m → ⊥
    no_base n h b m (inl g) = no_group n h g.0 m g.2
    no_base n h b m (inr c) = no_comparison n h c.0 m c.2

    all_longest : (nots : ℕ) → ReadsLongest (length tokens) 1 (IsTest tokens E Inner nots) (GoesExpr tokens) (test tokens e inner nots) →
        ReadsLongest (length tokens) 1 (Built t.Not (Behind (negation tokens) (IsTest tokens E Inner nots)) or Built t.Group (Parenthesized tokens Inner) or Built compare_of (IsComparison tokens E)) (GoesExpr tokens)
        (either (built t.Not (behind (negation tokens) (test tokens e inner nots))) (either (group tokens inner) (comparison tokens e)))
    all_longest nots ih = weaker (either_longest (negation_longest nots ih) base_longest not_apart) (GoesExpr tokens) 1
        (λ n g. elim g as (λ _. GoesExpr tokens n) [ inl d ↦ d | inr (inl d) ↦ d | inr (inr d) ↦ d ]) (omega arith)
      where
        not_apart : (n : ℕ) (a : Test) (k : ℕ) → Built t.Not (Behind (negation tokens) (IsTest tokens E Inner nots)) n a k → (b : Test) (m : ℕ) → (Built t.Group (Parenthesized tokens Inner) or Built compare_of (IsComparison tokens E)) n b m → ⊥
        not_apart n a k h b m c = let front = h.2 in let body = front.2 in no_base n (some_is body.1.0) b m c

    negated_is : (nots at : ℕ) (u : Unit {0}) (o : Option (Test × ℕ)) → negation tokens at ≡ Some u → test tokens e inner nots (at + 1) ≡ o → built t.Not (behind (negation tokens) (test tokens e inner nots)) at ≡ negated tokens e inner o
    unfolding built both terminal
    negated_is nots at u None eu eo = rw (eu, eo) refl
    negated_is nots at u (Some x) eu eo = rw (eu, eo) refl

    negated_none : (nots at : ℕ) → negation tokens at ≡ None → built t.Not (behind (negation tokens) (test tokens e inner nots)) at ≡ None
    unfolding built both terminal
    negated_none nots at en = rw en refl

    either_is : (at : ℕ) (g c : Option (Test × ℕ)) → group tokens inner at ≡ g → comparison tokens e at ≡ c → either (group tokens inner) (comparison tokens e) at ≡ compared_or tokens e inner c at
    unfolding either
    either_is at None None eg ec = rw (eg, ec) refl
    either_is at None (Some c) eg ec = rw (eg, ec) refl
    either_is at (Some g) None eg ec = rw eg refl
    either_is at (Some g) (Some c) eg ec =
        let p = group_longest.sound at g.0 g.1 eg in
        let q = comparison_longest.sound at c.0 c.1 ec in
        absurd (group_or_comparison at g.0 g.1 p c.0 c.1 q)

    no_base_read : (at : ℕ) (o : Option (Test × ℕ)) → IsSome (negation tokens at) → either (group tokens inner) (comparison tokens e) at ≡ o → either (group tokens inner) (comparison tokens e) at ≡ None
    no_base_read at None h eo = eo
    no_base_read at (Some x) h eo = absurd (no_base at h x.0 x.1 (base_longest.sound at x.0 x.1 eo))

    whole : (nots : ℕ) → Reader Test
    whole nots = either (built t.Not (behind (negation tokens) (test tokens e inner nots))) (either (group tokens inner) (comparison tokens e))

    as_whole : (nots at : ℕ) (n : Option (Unit {0})) (o : Option (Test × ℕ)) → negation tokens at ≡ n → test tokens e inner nots (at + 1) ≡ o → test tokens e inner (suc nots) at ≡ whole nots at
    unfolding test either whole
    as_whole nots at None o en eo = rw (negated_none nots at en, en) (sym (either_is at (group tokens inner at) (comparison tokens e at) refl refl))
    as_whole nots at (Some u) (Some x) en eo = rw (negated_is nots at u (Some x) en eo, en, eo) refl
    as_whole nots at (Some u) None en eo =
        let b = no_base_read at (either (group tokens inner) (comparison tokens e) at) (some_is en) refl in
        rw (negated_is nots at u None en eo, en, eo) (sym b)

    as_test : (nots at : ℕ) → test tokens e inner (suc nots) at ≡ whole nots at
    as_test nots at = as_whole nots at (negation tokens at) (test tokens e inner nots (at + 1)) refl refl

    no_test : ReadsLongest (length tokens) 1 (IsTest tokens E Inner 0) (GoesExpr tokens) (test tokens e inner 0)
    unfolding IsTest test
    no_test = record { sound = λ at x next h. absurd (cc); grows = λ at x next h. absurd h; within = λ at x next h. absurd h; longest = λ at x next h. absurd h }

    more_test : (nots : ℕ) → ReadsLongest (length tokens) 1 (IsTest tokens E Inner nots) (GoesExpr tokens) (test tokens e inner nots) →
        ReadsLongest (length tokens) 1 (IsTest tokens E Inner (suc nots)) (GoesExpr tokens) (test tokens e inner (suc nots))
    unfolding IsTest whole
    more_test nots ih =
        let all = all_longest nots ih in
        record {
          sound = λ at x next h. all.sound at x next (sym (as_test nots at) ∙ h);
          grows = all.grows;
          within = all.within;
          longest = λ at x next h. rw (as_test nots at) (all.longest at x next h);
        }

    pub test_longest : (nots : ℕ) → ReadsLongest (length tokens) 1 (IsTest tokens E Inner nots) (GoesExpr tokens) (test tokens e inner nots)
    test_longest zero = no_test
    test_longest (suc nots) = more_test nots (test_longest nots)

    pub next_test_longest : (nots : ℕ) → ReadsLongest (length tokens) (1 + 1) (Behind (and_word tokens) (IsTest tokens E Inner nots)) (GoesExpr tokens) (next_test tokens e inner nots)
    next_test_longest nots = behind_longest (and_word tokens) (and_inside tokens) (test_longest nots) (no_and tokens)

    pub conj_longest : (nots : ℕ) → ReadsLongest (length tokens) (1 + 0) (IsConj tokens E Inner nots) (GoesConj tokens) (conj tokens e inner nots)
    unfolding conj
    conj_longest nots = built_longest conj_of (separated_longest (and_word tokens) (and_inside tokens) (test_longest nots) (no_and tokens))

    pub next_conj_longest : (nots : ℕ) → ReadsLongest (length tokens) (1 + (1 + 0)) (Behind (or_word tokens) (IsConj tokens E Inner nots)) (GoesConj tokens) (next_conj tokens e inner nots)
    next_conj_longest nots = behind_longest (or_word tokens) (or_inside tokens) (conj_longest nots) (no_or tokens)

    pub alternative_longest : (nots : ℕ) → ReadsLongest (length tokens) (1 + 0 + 0) (IsAlternative tokens E Inner nots) (GoesCond tokens) (alternative tokens e inner nots)
    unfolding alternative
    alternative_longest nots = built_longest cond_of (separated_longest (or_word tokens) (or_inside tokens) (conj_longest nots) (no_or tokens))

-- ---- all depths

-- no expression and condition end at a closing parenthesis each
module _ (tokens : List Lexeme) (depth : ℕ)
    (ih : (at : ℕ) (x : Expr) (n : ℕ) (c : Cond) (m : ℕ) → IsExpr tokens depth at x n → IsSome (at_mark closing tokens n) → IsCond tokens depth at c m → IsSome (at_mark closing tokens m) → ⊥)
    (at : ℕ) (x : Expr) (n : ℕ) (hx : IsExpr tokens (suc depth) at x n) (sx : IsSome (at_mark closing tokens n)) where
  no_comparison_there : (c : Expr × (Rel × Expr)) (next : ℕ) → IsComparison tokens (IsExpr tokens (suc depth)) at c next → ⊥
  no_comparison_there c next h =
      let law = expr_longest tokens (suc depth) in
      let tail = h.2 in
      let one = ends law at c.0 h.0 h.1 (λ g. let absent = no_rel tokens h.0 g in let some = tail.1.0 in absurd (cc)) in
      let two = ends law at x n hx (λ g. past_cond tokens n (inl (inl g)) sx) in
      let place : h.0 ≡ n = ap (λ q. q.1) (same_some (sym one ∙ two)) in
      let absent = (at_closing tokens n sx).2 in
      let some = rw place at tail.1.0 in
      absurd (cc)

  no_test_there : (nots : ℕ) (y : Test) (next : ℕ) → IsTest tokens (IsExpr tokens (suc depth)) (IsCond tokens depth) nots at y next → ⊥
  unfolding IsTest
  no_test_there zero y next h = h
  no_test_there (suc nots) y next (inl h) =
      let front = h.2 in
      let body = front.2 in
      let s = (expr_starts tokens (suc depth) at x n hx).1 in
      let some = body.1.0 in
      absurd (cc)
  no_test_there (suc nots) y next (inr (inl h)) =
      let o = opened tokens (IsCond tokens depth) at h.0 next h.2 in
      let i = in_expr tokens depth at x n hx (some_is o.3) in
      ih (at + 1) i.0 i.1 h.0 o.2 i.2 i.3 o.4 (some_is o.5)
  no_test_there (suc nots) y next (inr (inr h)) = no_comparison_there h.0 next h.2

not_both : (tokens : List Lexeme) (depth at : ℕ) (x : Expr) (n : ℕ) (c : Cond) (m : ℕ) → IsExpr tokens depth at x n → IsSome (at_mark closing tokens n) → IsCond tokens depth at c m → IsSome (at_mark closing tokens m) → ⊥
unfolding IsCond
not_both tokens zero at x n c m hx sx hc sc = hc
not_both tokens (suc depth) at x n c m hx sx hc sc =
    let conjs = hc.2 in
    let first = conjs.1 in
    let tests = first.2 in
    no_test_there tokens depth (not_both tokens depth) at x n hx sx (length tokens) first.0.0 tests.0 tests.1

pub one_of : (tokens : List Lexeme) (depth at : ℕ) (c : Expr × (Rel × Expr)) (next : ℕ) → IsComparison tokens (IsExpr tokens (suc depth)) at c next → (d : Cond) (after : ℕ) → Parenthesized tokens (IsCond tokens depth) at d after → ⊥
one_of tokens depth at c next h d after k =
    let o = opened tokens (IsCond tokens depth) at d after k in
    let i = in_expr tokens depth at c.0 h.0 h.1 (some_is o.3) in
    not_both tokens depth (at + 1) i.0 i.1 d o.2 i.2 i.3 o.4 (some_is o.5)

no_cond : (tokens : List Lexeme) → ReadsLongest (length tokens) 1 (IsCond tokens 0) (GoesCond tokens) (cond tokens 0)
unfolding IsCond cond
no_cond tokens = record { sound = λ at x next h. absurd (cc); grows = λ at x next h. absurd h; within = λ at x next h. absurd h; longest = λ at x next h. absurd h }

pub cond_longest : (tokens : List Lexeme) (depth : ℕ) → ReadsLongest (length tokens) 1 (IsCond tokens depth) (GoesCond tokens) (cond tokens depth)
unfolding IsCond cond
cond_longest tokens zero = no_cond tokens
cond_longest tokens (suc depth) = weaker (alternative_longest tokens (IsExpr tokens (suc depth)) (expr tokens (suc depth)) (expr_longest tokens (suc depth)) (expr_starts tokens (suc depth))
    (IsCond tokens depth) (cond tokens depth) (cond_longest tokens depth) (one_of tokens depth) (length tokens)) (GoesCond tokens) 1 (λ n g. g) (omega arith)
