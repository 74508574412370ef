-- What stands in parentheses behind a name: arguments, or the ends of a substring, and never both.
use Rattle.std.proofs.Common.{◌≡◌, ℕ, ◌+◌, ◌<◌, ◌≤◌, ◌⊎◌, inl, inr, List, [], ◌∷◌, length, Option, Some, None, IsSome, refl, sym, ap, ◌∙◌, subst, arith}
use Rattle.bas_form.specs.Form.{Form, Terminal, ◌then◌, Repeated}
use Rattle.bas_form.specs.Reader.{Reader, all_from, ReadsLongest}
use Rattle.bas_form.proofs.ReaderLaws.{same_some, some_is, IsBest, bound, ends}
use Rattle.bas_form.proofs.RepetitionLaws.{all_sound}
use Rattle.bas_ast.specs.declared.expression.Expr.{Expr}
use Rattle.bas_ast.specs.declared.expression.Actual.{Actual}
use Rattle.bas_ast.specs.declared.expression.Actual as actual
use Rattle.bas_expr.specs.declared.bracket.Bracket.{Bracket}
use Rattle.bas_expr.specs.declared.bracket.Bracket.TheVariants as bracket
use Rattle.bas_expr.specs.Lexemes.{Lexeme}
use Rattle.bas_expr.specs.Marks.{at_mark, opening, closing, comma, colon, hash}
use Rattle.bas_expr.specs.Separated.{Behind, separated}
use Rattle.bas_expr.specs.Grammar.{Parenthesized, IsActual, IsArgs, IsRange}
use Rattle.bas_expr.specs.Reading.{actual_by, one_actual, next_actual, list_from, range_from, after_first, after_opening, bracket_at, GoesExpr}
use Rattle.bas_expr.proofs.MarkLaws.{stops, at_comma, at_closing, mark_inside}
use Rattle.bas_expr.proofs.SeparatedLaws.{behind_longest, separator_first, separated_longest, rest_exact, opened, enclosed}

abbrev range_to : Expr × Expr → ℕ → Bracket × ℕ
range_to r n = (bracket.Range r.0 r.1, n)

same_range : (r s : Expr × Expr) (n m : ℕ) → r ≡ s → n ≡ m → Some (range_to s m) ≡ Some (range_to r n)
same_range r s n m e f = rw (e, f) refl

module _ (tokens : List Lexeme) (Inner : Form Expr) (inner : Reader Expr) (is : ReadsLongest (length tokens) 1 Inner (GoesExpr tokens) inner)
    (starts : (at : ℕ) (e : Expr) (next : ℕ) → Inner at e next → at_mark hash tokens at ≡ None) where
  -- ---- one argument

  of_expr : (at : ℕ) (e : Expr × ℕ) → at_mark hash tokens at ≡ None → inner at ≡ Some e → one_actual tokens inner at ≡ Some (actual.Expr e.0, e.1)
  unfolding one_actual
  of_expr at e eh ee = rw (eh, ee) refl

  of_chan : (at : ℕ) (u : Unit {0}) (e : Expr × ℕ) → at_mark hash tokens at ≡ Some u → inner (at + 1) ≡ Some e → one_actual tokens inner at ≡ Some (actual.Chan e.0, e.1)
  unfolding one_actual
  of_chan at u e eh ee = rw (eh, ee) refl

  actual_sound : (at : ℕ) (a : Actual × ℕ) (o : Option (Unit {0})) → at_mark hash tokens at ≡ o → actual_by tokens inner at o ≡ Some a → IsActual tokens Inner at a.0 a.1
  actual_sound at a None eo h =
      let b = bound (inner at) _ _ h in
      let goal : Actual × ℕ → Type 0 = λ t. IsActual tokens Inner at t.0 t.1 in
      subst goal (same_some b.2) (inl (b.0.0, refl, is.sound at b.0.0 b.0.1 b.1))
  actual_sound at a (Some u) eo h =
      let b = bound (inner (at + 1)) _ _ h in
      let goal : Actual × ℕ → Type 0 = λ t. IsActual tokens Inner at t.0 t.1 in
      subst goal (same_some b.2) (inr ((u, b.0.0), refl, (at + 1, (eo, refl), is.sound (at + 1) b.0.0 b.0.1 b.1)))

  chan_in : (at : ℕ) (p : Unit {0} × Expr) (next : ℕ) → (Terminal (at_mark hash tokens) then Inner) at p next → Inner (at + 1) p.1 next
  chan_in at p next k = subst (λ (n : ℕ). Inner n p.1 next) k.1.1 k.2

  actual_grows : (at : ℕ) (a : Actual) (next : ℕ) → IsActual tokens Inner at a next → at + 1 ≤ next
  actual_grows at a next (inl h) = is.grows at h.0 next h.2
  actual_grows at a next (inr h) = let g = is.grows (at + 1) h.0.1 next (chan_in at h.0 next h.2) in omega arith

  actual_within : (at : ℕ) (a : Actual) (next : ℕ) → IsActual tokens Inner at a next → at < next → next ≤ length tokens
  actual_within at a next (inl h) later = is.within at h.0 next h.2 later
  actual_within at a next (inr h) later =
      let k = chan_in at h.0 next h.2 in
      let g = is.grows (at + 1) h.0.1 next k in
      is.within (at + 1) h.0.1 next k (omega arith)

  actual_best : (at : ℕ) (a : Actual) (next : ℕ) → IsActual tokens Inner at a next → IsBest (one_actual tokens inner) (GoesExpr tokens) at a next
  actual_best at a next (inl h) =
      let n = starts at h.0 next h.2 in
      elim (is.longest at h.0 next h.2) as (λ _. IsBest (one_actual tokens inner) (GoesExpr tokens) at a next) [
        | inl d ↦ inl (of_expr at (h.0, next) n d ∙ ap (λ x. Some (x, next)) (sym h.1))
        | inr d ↦ inr (d.0, (actual.Expr d.1.0, d.1.1), of_expr at d.1 n d.2, d.3)
      ]
  actual_best at a next (inr h) =
      let k = chan_in at h.0 next h.2 in
      let s : at_mark hash tokens at ≡ Some h.0.0 = (let body = h.2 in body.1.0) in
      elim (is.longest (at + 1) h.0.1 next k) as (λ _. IsBest (one_actual tokens inner) (GoesExpr tokens) at a next) [
        | inl d ↦ inl (of_chan at h.0.0 (h.0.1, next) s d ∙ ap (λ x. Some (x, next)) (sym h.1))
        | inr d ↦ inr (d.0, (actual.Chan d.1.0, d.1.1), of_chan at h.0.0 d.1 s d.2, d.3)
      ]

  actual_unfolded : (at : ℕ) (a : Actual) (next : ℕ) → one_actual tokens inner at ≡ Some (a, next) → IsActual tokens Inner at a next
  unfolding one_actual
  actual_unfolded at a next h = actual_sound at (a, next) (at_mark hash tokens at) refl h

  pub actual_longest : ReadsLongest (length tokens) 1 (IsActual tokens Inner) (GoesExpr tokens) (one_actual tokens inner)
  actual_longest = record { sound = actual_unfolded; grows = actual_grows; within = actual_within; longest = actual_best }

  -- ---- arguments

  no_comma : (n : ℕ) → GoesExpr tokens n → at_mark comma tokens n ≡ None
  no_comma n g = (stops tokens n g).0

  pub next_longest : ReadsLongest (length tokens) (1 + 1) (Behind (at_mark comma tokens) (IsActual tokens Inner)) (GoesExpr tokens) (next_actual tokens inner)
  next_longest = behind_longest (at_mark comma tokens) (mark_inside tokens comma) actual_longest no_comma

  pub args_longest : ReadsLongest (length tokens) (1 + 0) (IsArgs tokens Inner) (λ n. GoesExpr tokens n ⊎ IsSome (at_mark comma tokens n)) (separated (at_mark comma tokens) (one_actual tokens inner) (length tokens))
  args_longest = separated_longest (at_mark comma tokens) (mark_inside tokens comma) actual_longest no_comma

  -- an expression ends before a closing parenthesis, a comma and a colon
  ends_closing : (n : ℕ) → IsSome (at_mark closing tokens n) → GoesExpr tokens n → ⊥
  ends_closing n h g = let none = (stops tokens n g).2 in let f = rw none at h in absurd (cc)

  ends_comma : (n : ℕ) → IsSome (at_mark comma tokens n) → GoesExpr tokens n → ⊥
  ends_comma n h g = let none = (stops tokens n g).0 in let f = rw none at h in absurd (cc)

  ends_colon : (n : ℕ) → IsSome (at_mark colon tokens n) → GoesExpr tokens n → ⊥
  ends_colon n h g = let none = (stops tokens n g).1 in let f = rw none at h in absurd (cc)

  -- what stands behind the first argument
  behind_first : (at : ℕ) (more : List Actual) (close : ℕ) → Repeated (Behind (at_mark comma tokens) (IsActual tokens Inner)) at more close → IsSome (at_mark closing tokens close) →
      (GoesExpr tokens at → ⊥) × (at_mark colon tokens at ≡ None)
  behind_first at [] close h c =
      let d : IsSome (at_mark closing tokens at) = subst (λ (n : ℕ). IsSome (at_mark closing tokens n)) h c in
      (ends_closing at d, (at_closing tokens at d).0)
  behind_first at (x ∷ more) close h c =
      let s = separator_first (at_mark comma tokens) (mark_inside tokens comma) actual_longest no_comma at x h.0 h.1 in
      (ends_comma at s, (at_comma tokens at s).0)

  list_of : (at : ℕ) (first : Actual) (more : List Actual) (close : ℕ) (v : Unit {0}) → all_from (next_actual tokens inner) (length tokens) at ≡ (more, close) →
      at_mark closing tokens close ≡ Some v → list_from tokens inner first at ≡ Some (bracket.List (first ∷ more), close + 1)
  unfolding list_from
  list_of at first more close v er ec = rw (er, ec) refl

  bracket_expr : (at : ℕ) (u : Unit {0}) (e : Expr × ℕ) → at_mark opening tokens at ≡ Some u → at_mark hash tokens (at + 1) ≡ None → inner (at + 1) ≡ Some e →
      bracket_at tokens inner at ≡ after_first tokens inner e (at_mark colon tokens e.1)
  unfolding bracket_at
  bracket_expr at u e eo eh ee = rw (eo, eh, ee) refl

  bracket_chan : (at : ℕ) (u v : Unit {0}) (e : Expr × ℕ) → at_mark opening tokens at ≡ Some u → at_mark hash tokens (at + 1) ≡ Some v → inner (at + 1 + 1) ≡ Some e →
      bracket_at tokens inner at ≡ list_from tokens inner (actual.Chan e.0) e.1
  unfolding bracket_at
  bracket_chan at u v e eo eh ee = rw (eo, eh, ee) refl

  list_by : (at next : ℕ) (first : Actual) (more : List Actual) (u : Unit {0}) (mid close : ℕ) → at_mark opening tokens at ≡ Some u → IsActual tokens Inner (at + 1) first mid →
      (GoesExpr tokens mid → ⊥) → at_mark colon tokens mid ≡ None → list_from tokens inner first mid ≡ Some (bracket.List (first ∷ more), close) →
      bracket_at tokens inner at ≡ Some (bracket.List (first ∷ more), close)
  list_by at next first more u mid close eo (inl h) may nc el =
      let e = ends is (at + 1) h.0 mid h.2 may in
      let n = starts (at + 1) h.0 mid h.2 in
      bracket_expr at u (h.0, mid) eo n e ∙ rw (nc, ← h.1) el
  list_by at next first more u mid close eo (inr h) may nc el =
      let e = ends is (at + 1 + 1) h.0.1 mid (chan_in (at + 1) h.0 mid h.2) may in
      let s : at_mark hash tokens (at + 1) ≡ Some h.0.0 = (let body = h.2 in body.1.0) in
      bracket_chan at u h.0.0 (h.0.1, mid) eo s e ∙ rw (← h.1) el

  -- arguments in parentheses are read as they stand
  pub list_exact : (at : ℕ) (first : Actual) (more : List Actual) (next : ℕ) → Parenthesized tokens (IsArgs tokens Inner) at (first, more) next →
      bracket_at tokens inner at ≡ Some (bracket.List (first ∷ more), next)
  list_exact at first more next h =
      let o = opened tokens (IsArgs tokens Inner) at (first, more) next h in
      let close = o.2 in
      let args = o.4 in
      let c : IsSome (at_mark closing tokens close) = some_is o.5 in
      let b = behind_first args.0 more close args.2 c in
      let r = rest_exact (at_mark comma tokens) (mark_inside tokens comma) actual_longest no_comma args.0 more close args.2 (ends_closing close c) (at_closing tokens close c).1 in
      list_by at next first more o.0 args.0 (close + 1) o.3 args.1 b.0 b.1 (list_of args.0 first more close o.1 r o.5) ∙ ap (λ n. Some (bracket.List (first ∷ more), n)) (sym o.6)

  range_of : (at : ℕ) (first : Expr) (last : Expr × ℕ) (v : Unit {0}) → inner at ≡ Some last → at_mark closing tokens last.1 ≡ Some v →
      range_from tokens inner first at ≡ Some (bracket.Range first last.0, last.1 + 1)
  unfolding range_from
  range_of at first last v el ec = rw (el, ec) refl

  -- the ends of a substring are read as they stand
  pub range_exact : (at : ℕ) (r : Expr × Expr) (next : ℕ) → Parenthesized tokens (IsRange tokens Inner) at r next →
      bracket_at tokens inner at ≡ Some (bracket.Range r.0 r.1, next)
  range_exact at r next h =
      let o = opened tokens (IsRange tokens Inner) at r next h in
      let close = o.2 in
      let range = o.4 in
      let p = range.0 in
      let body = range.2 in
      let c : IsSome (at_mark closing tokens close) = some_is o.5 in
      let tail = body.2 in
      let k : IsSome (at_mark colon tokens body.0) = some_is tail.1.0 in
      let l : Inner (body.0 + 1) p.1.1 close = subst (λ (n : ℕ). Inner n p.1.1 close) tail.1.1 tail.2 in
      let e = ends is (at + 1) p.0 body.0 body.1 (ends_colon body.0 k) in
      let f = ends is (body.0 + 1) p.1.1 close l (ends_closing close c) in
      let n = starts (at + 1) p.0 body.0 body.1 in
      let read = range_of (body.0 + 1) p.0 (p.1.1, close) o.1 f o.5 in
      bracket_expr at o.0 (p.0, body.0) o.3 n e ∙ rw (tail.1.0) read ∙ same_range r (p.0, p.1.1) next (close + 1) range.1 o.6

  -- ---- what is read stands there

  abbrev pub IsBracket : ℕ → Bracket → ℕ → Type 0
  IsBracket at (bracket.List actuals) next = (first : Actual) × (more : List Actual) × (actuals ≡ first ∷ more) × Parenthesized tokens (IsArgs tokens Inner) at (first, more) next
  IsBracket at (bracket.Range first last) next = Parenthesized tokens (IsRange tokens Inner) at (first, last) next

  list_sound : (at : ℕ) (u : Unit {0}) (mid : ℕ) (first : Actual) (r : Bracket × ℕ) → at_mark opening tokens at ≡ Some u → IsActual tokens Inner (at + 1) first mid →
      list_from tokens inner first mid ≡ Some r → IsBracket at r.0 r.1
  unfolding list_from
  list_sound at u mid first r eo h e =
      let rest = all_from (next_actual tokens inner) (length tokens) mid in
      let b = bound (at_mark closing tokens rest.1) _ _ e in
      let goal : Bracket × ℕ → Type 0 = λ t. IsBracket at t.0 t.1 in
      subst goal (same_some b.2) (first, rest.0, refl, enclosed tokens (IsArgs tokens Inner) at (first, rest.0) rest.1 u b.0 eo (mid, h, all_sound next_longest (omega arith) mid) b.1)

  range_sound : (at : ℕ) (u v : Unit {0}) (mid : ℕ) (first : Expr) (r : Bracket × ℕ) → at_mark opening tokens at ≡ Some u → Inner (at + 1) first mid → at_mark colon tokens mid ≡ Some v →
      range_from tokens inner first (mid + 1) ≡ Some r → IsBracket at r.0 r.1
  unfolding range_from
  range_sound at u v mid first r eo h ek e =
      let l = bound (inner (mid + 1)) _ _ e in
      let c = bound (at_mark closing tokens l.0.1) _ _ l.2 in
      let goal : Bracket × ℕ → Type 0 = λ t. IsBracket at t.0 t.1 in
      let range : IsRange tokens Inner (at + 1) (first, l.0.0) l.0.1 = ((first, (v, l.0.0)), refl, (mid, h, (mid + 1, (ek, refl), is.sound (mid + 1) l.0.0 l.0.1 l.1))) in
      subst goal (same_some c.2) (enclosed tokens (IsRange tokens Inner) at (first, l.0.0) l.0.1 u c.0 eo range c.1)

  first_sound : (at : ℕ) (u : Unit {0}) (e : Expr × ℕ) (k : Option (Unit {0})) (r : Bracket × ℕ) → at_mark opening tokens at ≡ Some u → Inner (at + 1) e.0 e.1 → at_mark colon tokens e.1 ≡ k →
      after_first tokens inner e k ≡ Some r → IsBracket at r.0 r.1
  first_sound at u e None r eo h ek f = list_sound at u e.1 (actual.Expr e.0) r eo (inl (e.0, refl, h)) f
  first_sound at u e (Some v) r eo h ek f = range_sound at u v e.1 e.0 r eo h ek f

  opening_sound : (at : ℕ) (u : Unit {0}) (k : Option (Unit {0})) (r : Bracket × ℕ) → at_mark opening tokens at ≡ Some u → at_mark hash tokens (at + 1) ≡ k →
      after_opening tokens inner (at + 1) k ≡ Some r → IsBracket at r.0 r.1
  opening_sound at u None r eo ek f =
      let e = bound (inner (at + 1)) _ _ f in
      first_sound at u e.0 (at_mark colon tokens e.0.1) r eo (is.sound (at + 1) e.0.0 e.0.1 e.1) refl e.2
  opening_sound at u (Some v) r eo ek f =
      let e = bound (inner (at + 1 + 1)) _ _ f in
      list_sound at u e.0.1 (actual.Chan e.0.0) r eo (inr ((v, e.0.0), refl, (at + 1 + 1, (ek, refl), is.sound (at + 1 + 1) e.0.0 e.0.1 e.1))) e.2

  pub bracket_sound : (at : ℕ) (r : Bracket × ℕ) → bracket_at tokens inner at ≡ Some r → IsBracket at r.0 r.1
  unfolding bracket_at
  bracket_sound at r e =
      let o = bound (at_mark opening tokens at) _ _ e in
      opening_sound at o.0 (at_mark hash tokens (at + 1)) r o.1 refl o.2

  bracket_later : (at : ℕ) (b : Bracket) (next : ℕ) → IsBracket at b next → IsSome (at_mark opening tokens at) × (at < next)
  bracket_later at (bracket.List actuals) next h =
      let o = opened tokens (IsArgs tokens Inner) at (h.0, h.1) next h.3 in
      let g = args_longest.grows (at + 1) (h.0, h.1) o.2 o.4 in
      (some_is o.3, (let n = o.6 in omega arith))
  bracket_later at (bracket.Range first last) next h =
      let o = opened tokens (IsRange tokens Inner) at (first, last) next h in
      let range = o.4 in
      let body = range.2 in
      let tail = body.2 in
      let g = is.grows (at + 1) range.0.0 body.0 body.1 in
      let l = is.grows tail.0 range.0.1.1 o.2 tail.2 in
      let m = tail.1.1 in
      (some_is o.3, (let n = o.6 in omega arith))

  -- where a bracket is read, a parenthesis opens, and it takes tokens
  pub bracket_opens : (at : ℕ) (r : Bracket × ℕ) → bracket_at tokens inner at ≡ Some r → IsSome (at_mark opening tokens at) × (at < r.1)
  bracket_opens at r e = bracket_later at r.0 r.1 (bracket_sound at r e)
