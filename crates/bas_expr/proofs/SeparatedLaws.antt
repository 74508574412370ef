-- Items with separators, and what stands in parentheses.
use Rattle.std.proofs.Common.{◌≡◌, ℕ, ◌+◌, ◌<◌, ◌≤◌, ◌⊎◌, inl, inr, List, Option, Some, None, IsSome, refl, sym, ◌∙◌, subst, arith}
use Rattle.bas_form.specs.Form.{Form, Repeated}
use Rattle.bas_form.specs.Reader.{Reader, all_from, repeated, ReadsLongest, Begins}
use Rattle.bas_form.proofs.ReaderLaws.{same_some, some_is, built_longest, weaker, begun, ends}
use Rattle.bas_form.proofs.RepetitionLaws.{operator_item_longest, repeating_longest, repeated_longest}
use Rattle.bas_expr.specs.Lexemes.{Lexeme}
use Rattle.bas_expr.specs.Marks.{at_mark, opening, closing}
use Rattle.bas_expr.specs.Separated.{Behind, Separated, behind, separated}
use Rattle.bas_expr.specs.Grammar.{Parenthesized}

module _ {A O : Type 0} {len least : ℕ} (separator : ℕ → Option O) (inside : (n : ℕ) (o : O) → separator n ≡ Some o → n < len)
    {F : Form A} {GoesOn : ℕ → Type 0} {f : Reader A} (is : ReadsLongest len least F GoesOn f) (apart : (n : ℕ) → GoesOn n → separator n ≡ None) where
  pub behind_longest : ReadsLongest len (1 + least) (Behind separator F) GoesOn (behind separator f)
  behind_longest = built_longest (λ (parts : O × A). parts.1) (operator_item_longest separator inside is apart)

  -- a separator stands in front
  pub separator_first : (n : ℕ) (b : A) (m : ℕ) → Behind separator F n b m → IsSome (separator n)
  separator_first n b m k = let body = k.2 in some_is body.1.0

  no_behind : (n : ℕ) → GoesOn n → (b : A) (m : ℕ) → Behind separator F n b m → ⊥
  no_behind n h b m k = let none = apart n h in let some = separator_first n b m k in let f = rw none at some in absurd (cc)

  pub at_separator : (n : ℕ) → Begins (behind separator f) n → IsSome (separator n)
  at_separator n h = let b = begun behind_longest n h in separator_first n b.0 b.1 b.2

  takes : 1 ≤ 1 + least
  takes = omega arith

  abbrev pub GoesSeparated : ℕ → Type 0
  GoesSeparated n = GoesOn n ⊎ IsSome (separator n)

  pub separated_longest : ReadsLongest len (least + 0) (Separated separator F) GoesSeparated (separated separator f len)
  separated_longest = weaker (repeating_longest is behind_longest takes no_behind no_behind) GoesSeparated (least + 0)
      (λ n h. elim h as (λ _. GoesSeparated n) [ inl g ↦ inl g | inr (inl g) ↦ inl g | inr (inr g) ↦ inr (at_separator n g) ]) (omega arith)

  repeated_is : (at : ℕ) → repeated (behind separator f) len at ≡ Some (all_from (behind separator f) len at)
  unfolding repeated
  repeated_is at = refl

  -- what is read behind the first item, where it may not go on behind the last
  pub rest_exact : (at : ℕ) (more : List A) (next : ℕ) → Repeated (Behind separator F) at more next → (GoesOn next → ⊥) → separator next ≡ None →
      all_from (behind separator f) len at ≡ (more, next)
  rest_exact at more next h stops none =
      let e = ends (repeated_longest behind_longest takes no_behind) at more next h
      (λ g. elim g as (λ _. ⊥) [ inl d ↦ stops d | inr d ↦ (let some = at_separator next d in let f = rw none at some in absurd (cc)) ]) in
      same_some (sym (repeated_is at) ∙ e)

-- what stands between the parentheses
pub opened : {A : Type 0} (tokens : List Lexeme) (F : Form A) (at : ℕ) (a : A) (next : ℕ) → Parenthesized tokens F at a next →
    (u : Unit {0}) × (v : Unit {0}) × (close : ℕ) × (at_mark opening tokens at ≡ Some u) × F (at + 1) a close × (at_mark closing tokens close ≡ Some v) × (next ≡ close + 1)
opened {A = A} tokens F at a next h =
    let parts = h.0 in
    let body = h.2 in
    let inner = body.2 in
    let f : F (at + 1) parts.1.0 inner.0 = subst (λ (n : ℕ). F n parts.1.0 inner.0) body.1.1 inner.1 in
    let g : F (at + 1) a inner.0 = subst (λ (x : A). F (at + 1) x inner.0) (sym h.1) f in
    (parts.0, parts.1.1, inner.0, body.1.0, g, inner.2.0, inner.2.1)

pub enclosed : {A : Type 0} (tokens : List Lexeme) (F : Form A) (at : ℕ) (a : A) (close : ℕ) (u v : Unit {0}) → at_mark opening tokens at ≡ Some u → F (at + 1) a close →
    at_mark closing tokens close ≡ Some v → Parenthesized tokens F at a (close + 1)
enclosed tokens F at a close u v eo h ec = ((u, (a, v)), refl, (at + 1, (eo, refl), (close, h, (ec, refl))))
