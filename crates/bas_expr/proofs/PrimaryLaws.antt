-- The reader of operands takes the longest.
use Rattle.std.proofs.Common.{◌≡◌, ℕ, ◌+◌, ◌<◌, ◌≤◌, inl, inr, Bool, true, false, List, [], ◌∷◌, length, map, Option, Some, None, IsSome, refl, sym, ap, ◌∙◌, subst, arith}
use Rattle.bas_form.specs.Form.{Form, Optional, Repeated, Built}
use Rattle.bas_form.specs.Reader.{Reader, ReadsLongest}
use Rattle.bas_form.proofs.ReaderLaws.{same_some, some_is, IsBest, built_longest, ends}
use Rattle.bas_form.proofs.SequenceLaws.{between_longest}
use Rattle.bas_ast.specs.declared.expression.Numeral.{Numeral}
use Rattle.bas_ast.specs.declared.expression.Expr.{Expr}
use Rattle.bas_ast.specs.declared.expression.Actual.{Actual}
use Rattle.bas_ast.specs.declared.expression.Actual as actual
use Rattle.bas_ast.specs.declared.expression.Primary.{Primary}
use Rattle.bas_ast.specs.declared.expression.Primary as primary
use Rattle.bas_expr.specs.declared.bracket.Bracket.{Bracket}
use Rattle.bas_expr.specs.declared.bracket.Bracket.TheVariants as bracket
use Rattle.bas_expr.specs.Lexemes.{Lexeme}
use Rattle.bas_expr.specs.Marks.{mark, at_mark, opening, closing, comma, hash, sign_of}
use Rattle.bas_ast.specs.Supplied.{is_supplied}
use Rattle.bas_expr.specs.Words.{any_name, own_name, numeral, quoted, negation}
use Rattle.bas_expr.specs.Separated.{Behind, Separated}
use Rattle.bas_expr.specs.Grammar.{Parenthesized, IsActual, IsArgs, IsRange, IsPrimary, named_of, target_of, substring_of}
use Rattle.bas_expr.specs.Reading.{is_plain, expr_in, are_plain, parenthesized, bracket_at, after_list, element_or_call, after_own, after_supplied, named, group, primary_by, one_primary, plain_name, name_with, substring, Opens, GoesExpr}
use Rattle.bas_expr.proofs.ActualLaws.{in_expr, plain_chan, plain_all, in_all}
use Rattle.bas_expr.proofs.MarkLaws.{stops, mark_inside, at_opening, numeral_first, quoted_first, name_first, mark_first, is_mark, numeral_inside, quoted_inside, name_inside, own_is, own_from}
use Rattle.bas_expr.proofs.SeparatedLaws.{opened, enclosed}
use Rattle.bas_expr.proofs.BracketLaws.{IsBracket, args_longest, list_exact, range_exact, bracket_sound, bracket_opens}

module _ (tokens : List Lexeme) (Inner : Form Expr) (inner : Reader Expr) (is : ReadsLongest (length tokens) 1 Inner (GoesExpr tokens) inner)
    (starts : (at : ℕ) (e : Expr) (next : ℕ) → Inner at e next → at_mark hash tokens at ≡ None) where
  -- ---- subscripts are arguments with no channel

  as_actuals : (es : List Expr) (at next : ℕ) → Repeated (Behind (at_mark comma tokens) Inner) at es next → Repeated (Behind (at_mark comma tokens) (IsActual tokens Inner)) at (map actual.Expr es) next
  as_actuals [] at next h = h
  as_actuals (e ∷ es) at next h =
      let front = h.1 in
      let body = front.2 in
      (h.0, ((front.0.0, actual.Expr front.0.1), ap actual.Expr front.1, (body.0, body.1, inl (front.0.1, refl, body.2))), as_actuals es h.0 next h.2)

  actual_is : (at : ℕ) (a : Actual) (next : ℕ) → IsActual tokens Inner at a next → is_plain a ≡ true → Inner at (expr_in a) next
  actual_is at a next (inl h) p =
      let e : expr_in a ≡ h.0 = ap expr_in h.1 ∙ in_expr h.0 in
      subst (λ (x : Expr). Inner at x next) (sym e) h.2
  actual_is at a next (inr h) p =
      let e : is_plain a ≡ false = ap is_plain h.1 ∙ plain_chan h.0.1 in
      absurd (cc)

  plain_by : (a : Actual) (more : List Actual) (b : Bool) → is_plain a ≡ b → are_plain (a ∷ more) ≡ true → (is_plain a ≡ true) × (are_plain more ≡ true)
  plain_by a more true eb e = (eb, (let f = rw eb at e in f))
  plain_by a more false eb e = let f = rw eb at e in absurd (cc)

  plain_front : (a : Actual) (more : List Actual) → are_plain (a ∷ more) ≡ true → (is_plain a ≡ true) × (are_plain more ≡ true)
  plain_front a more e = plain_by a more (is_plain a) refl e

  as_exprs : (actuals : List Actual) (at next : ℕ) → Repeated (Behind (at_mark comma tokens) (IsActual tokens Inner)) at actuals next → are_plain actuals ≡ true → Repeated (Behind (at_mark comma tokens) Inner) at (map expr_in actuals) next
  as_exprs [] at next h p = h
  as_exprs (a ∷ more) at next h p =
      let q = plain_front a more p in
      let front = h.1 in
      let body = front.2 in
      let plain : is_plain front.0.1 ≡ true = ap is_plain (sym front.1) ∙ q.0 in
      (h.0, ((front.0.0, expr_in front.0.1), ap expr_in front.1, (body.0, body.1, actual_is body.0 front.0.1 h.0 body.2 plain)), as_exprs more h.0 next h.2 q.1)

  -- ---- the other operands

  group_closed : ReadsLongest (length tokens) (1 + (1 + 1)) (Parenthesized tokens Inner) (λ _. ⊥) (parenthesized tokens inner)
  group_closed = between_longest (at_mark opening tokens) (mark_inside tokens opening) (at_mark closing tokens) (mark_inside tokens closing) is
      (λ n g c e. let none = (stops tokens n g).2 in absurd (cc))

  group_longest : ReadsLongest (length tokens) (1 + (1 + 1)) (Built primary.Group (Parenthesized tokens Inner)) (λ _. ⊥) (group tokens inner)
  unfolding group
  group_longest = built_longest primary.Group group_closed

  numeral_of : (at : ℕ) (v : Numeral) → numeral tokens at ≡ Some v → one_primary tokens inner at ≡ Some (primary.Numeral v, at + 1)
  unfolding one_primary
  numeral_of at v e = rw e refl

  quoted_of : (at : ℕ) (t : List ℕ) → quoted tokens at ≡ Some t → one_primary tokens inner at ≡ Some (primary.Quoted t, at + 1)
  unfolding one_primary
  quoted_of at t e = let f = (quoted_first tokens at t e).1 in rw (f.0, e) refl

  name_of : (at : ℕ) (n : List ℕ) → any_name tokens at ≡ Some n → one_primary tokens inner at ≡ Some (named tokens inner n (at + 1))
  unfolding one_primary
  name_of at n e = let f = (name_first tokens at n e).1 in rw (f.0, f.1, e) refl

  group_of : (at : ℕ) → IsSome (at_mark opening tokens at) → one_primary tokens inner at ≡ group tokens inner at
  unfolding one_primary
  group_of at h = let x = is_mark tokens at opening h in let f = mark_first tokens at x.0 x.1 in rw (f.1, f.2, f.3) refl

  -- ---- names

  supplied_of : (n : List ℕ) (at : ℕ) (o : Option (Bracket × ℕ)) → is_supplied n ≡ true → bracket_at tokens inner at ≡ o → named tokens inner n at ≡ after_supplied tokens inner n at o
  unfolding named
  supplied_of n at o es eo = rw (es, eo) refl

  own_of : (n : List ℕ) (at : ℕ) (o : Option (Bracket × ℕ)) → is_supplied n ≡ false → bracket_at tokens inner at ≡ o → named tokens inner n at ≡ after_own tokens inner n at o
  unfolding named
  own_of n at o es eo = rw (es, eo) refl

  abbrev IsFound : ℕ → Primary × ℕ → Type 0
  IsFound at r = IsPrimary tokens Inner at r.0 r.1

  found_plain : (at : ℕ) (n : List ℕ) → any_name tokens at ≡ Some n → IsFound at (plain_name n, at + 1)
  found_plain at n en = inr (inr (inr (inl ((n, None), refl, (at + 1, (en, refl), refl)))))

  found_list : (at : ℕ) (n : List ℕ) (actuals : List Actual) (next : ℕ) → any_name tokens at ≡ Some n → IsBracket tokens Inner inner is starts (at + 1) (bracket.List actuals) next → IsFound at (name_with n actuals, next)
  found_list at n actuals next en h = inr (inr (inr (inl ((n, Some (h.0, h.1)), ap (name_with n) h.2, (at + 1, (en, refl), h.3)))))

  found_range : (at : ℕ) (n : List ℕ) (first last : Expr) (next : ℕ) → own_name tokens at ≡ Some n → IsBracket tokens Inner inner is starts (at + 1) (bracket.Range first last) next → IsFound at (substring n [] first last, next)
  found_range at n first last next en h = inr (inr (inr (inr ((target_of (n, None), (first, last)), refl, (at + 1, ((n, None), refl, (at + 1, (en, refl), refl)), h)))))

  -- subscripts in parentheses, where arguments that are no channels stand there
  subscripts_closed : (at : ℕ) (first : Actual) (more : List Actual) (next : ℕ) → are_plain (first ∷ more) ≡ true → Parenthesized tokens (IsArgs tokens Inner) at (first, more) next →
      Parenthesized tokens (Separated (at_mark comma tokens) Inner) at (expr_in first, map expr_in more) next
  subscripts_closed at first more next p h =
      let q = plain_front first more p in
      let o = opened tokens (IsArgs tokens Inner) at (first, more) next h in
      let args = o.4 in
      let front = actual_is (at + 1) first args.0 args.1 q.0 in
      let back = as_exprs more args.0 o.2 args.2 q.1 in
      let all = enclosed tokens (Separated (at_mark comma tokens) Inner) at (expr_in first, map expr_in more) o.2 o.0 o.1 o.3 (args.0, front, back) o.5 in
      subst (λ (n : ℕ). Parenthesized tokens (Separated (at_mark comma tokens) Inner) at (expr_in first, map expr_in more) n) (sym o.6) all

  found_element : (at : ℕ) (n : List ℕ) (actuals : List Actual) (mid : ℕ) (first last : Expr) (next : ℕ) → own_name tokens at ≡ Some n → are_plain actuals ≡ true →
      IsBracket tokens Inner inner is starts (at + 1) (bracket.List actuals) mid → IsBracket tokens Inner inner is starts mid (bracket.Range first last) next → IsFound at (substring n (map expr_in actuals) first last, next)
  found_element at n actuals mid first last next en p h k =
      let q : are_plain (h.0 ∷ h.1) ≡ true = ap are_plain (sym h.2) ∙ p in
      let s = subscripts_closed (at + 1) h.0 h.1 mid q h.3 in
      let e : substring n (map expr_in actuals) first last ≡ substring_of (target_of (n, Some (expr_in h.0, map expr_in h.1)), (first, last)) = ap (λ (list : List Actual). substring n (map expr_in list) first last) h.2 in
      inr (inr (inr (inr ((target_of (n, Some (expr_in h.0, map expr_in h.1)), (first, last)), e, (mid, ((n, Some (expr_in h.0, map expr_in h.1)), refl, (at + 1, (en, refl), s)), k)))))

  list_found : (at : ℕ) (n : List ℕ) (actuals : List Actual) (mid : ℕ) (o : Option (Bracket × ℕ)) → own_name tokens at ≡ Some n → any_name tokens at ≡ Some n → are_plain actuals ≡ true →
      IsBracket tokens Inner inner is starts (at + 1) (bracket.List actuals) mid → bracket_at tokens inner mid ≡ o → IsFound at (after_list tokens inner n actuals mid o)
  list_found at n actuals mid None eo en p h eb = found_list at n actuals mid en h
  list_found at n actuals mid (Some (bracket.List more, next)) eo en p h eb = found_list at n actuals mid en h
  list_found at n actuals mid (Some (bracket.Range first last, next)) eo en p h eb =
      found_element at n actuals mid first last next eo p h (bracket_sound tokens Inner inner is starts mid (bracket.Range first last, next) eb)

  element_found : (at : ℕ) (n : List ℕ) (actuals : List Actual) (mid : ℕ) (p : Bool) → own_name tokens at ≡ Some n → any_name tokens at ≡ Some n → are_plain actuals ≡ p →
      IsBracket tokens Inner inner is starts (at + 1) (bracket.List actuals) mid → IsFound at (element_or_call tokens inner n actuals mid p)
  element_found at n actuals mid true eo en ep h = list_found at n actuals mid (bracket_at tokens inner mid) eo en ep h refl
  element_found at n actuals mid false eo en ep h = found_list at n actuals mid en h

  own_found : (at : ℕ) (n : List ℕ) (o : Option (Bracket × ℕ)) → own_name tokens at ≡ Some n → any_name tokens at ≡ Some n → bracket_at tokens inner (at + 1) ≡ o → IsFound at (after_own tokens inner n (at + 1) o)
  own_found at n None eo en eb = found_plain at n en
  own_found at n (Some (bracket.Range first last, next)) eo en eb = found_range at n first last next eo (bracket_sound tokens Inner inner is starts (at + 1) (bracket.Range first last, next) eb)
  own_found at n (Some (bracket.List actuals, next)) eo en eb = element_found at n actuals next (are_plain actuals) eo en refl (bracket_sound tokens Inner inner is starts (at + 1) (bracket.List actuals, next) eb)

  supplied_found : (at : ℕ) (n : List ℕ) (o : Option (Bracket × ℕ)) → any_name tokens at ≡ Some n → bracket_at tokens inner (at + 1) ≡ o → IsFound at (after_supplied tokens inner n (at + 1) o)
  supplied_found at n None en eb = found_plain at n en
  supplied_found at n (Some (bracket.Range first last, next)) en eb = found_plain at n en
  supplied_found at n (Some (bracket.List actuals, next)) en eb = found_list at n actuals next en (bracket_sound tokens Inner inner is starts (at + 1) (bracket.List actuals, next) eb)

  named_found : (at : ℕ) (n : List ℕ) (s : Bool) → any_name tokens at ≡ Some n → is_supplied n ≡ s → IsFound at (named tokens inner n (at + 1))
  named_found at n true en es = subst (IsFound at) (sym (supplied_of n (at + 1) (bracket_at tokens inner (at + 1)) es refl)) (supplied_found at n (bracket_at tokens inner (at + 1)) en refl)
  named_found at n false en es = subst (IsFound at) (sym (own_of n (at + 1) (bracket_at tokens inner (at + 1)) es refl)) (own_found at n (bracket_at tokens inner (at + 1)) (own_from tokens at n en es) en refl)

  -- ---- sound

  by_kind : (at : ℕ) (v : Option Numeral) (q n : Option (List ℕ)) (r : Primary × ℕ) → numeral tokens at ≡ v → quoted tokens at ≡ q → any_name tokens at ≡ n → primary_by tokens inner at v q n ≡ Some r → IsFound at r
  by_kind at (Some v) q n r ev eq en e = subst (IsFound at) (same_some e) (inl (v, refl, (ev, refl)))
  by_kind at None (Some t) n r ev eq en e = subst (IsFound at) (same_some e) (inr (inl (t, refl, (eq, refl))))
  by_kind at None None (Some n) r ev eq en e = subst (IsFound at) (same_some e) (named_found at n (is_supplied n) en refl)
  by_kind at None None None r ev eq en e = inr (inr (inl (group_longest.sound at r.0 r.1 e)))

  primary_sound : (at : ℕ) (x : Primary) (next : ℕ) → one_primary tokens inner at ≡ Some (x, next) → IsPrimary tokens Inner at x next
  unfolding one_primary
  primary_sound at x next e = by_kind at (numeral tokens at) (quoted tokens at) (any_name tokens at) (x, next) refl refl refl e

  -- ---- as long as it stands

  abbrev IsBestOne : ℕ → Primary → ℕ → Type 0
  IsBestOne at x next = IsBest (one_primary tokens inner) (Opens tokens) at x next

  -- behind a name stands no more than is read
  opens_more : (at : ℕ) (x : Primary) (next : ℕ) (found : Primary × ℕ) (b : Bracket × ℕ) → bracket_at tokens inner next ≡ Some b → one_primary tokens inner at ≡ Some found → b.1 ≤ found.1 → IsBestOne at x next
  opens_more at x next found b eb ef l =
      let o = bracket_opens tokens Inner inner is starts next b eb in
      inr (o.0, found, ef, (let later = o.1 in omega arith))

  list_later : (n : List ℕ) (actuals : List Actual) (mid : ℕ) (o : Option (Bracket × ℕ)) → bracket_at tokens inner mid ≡ o → mid ≤ (after_list tokens inner n actuals mid o).1
  list_later n actuals mid None e = omega arith
  list_later n actuals mid (Some (bracket.List more, next)) e = omega arith
  list_later n actuals mid (Some (bracket.Range first last, next)) e = let o = bracket_opens tokens Inner inner is starts mid (bracket.Range first last, next) e in let later = o.1 in omega arith

  element_later : (n : List ℕ) (actuals : List Actual) (mid : ℕ) (p : Bool) → mid ≤ (element_or_call tokens inner n actuals mid p).1
  element_later n actuals mid true = list_later n actuals mid (bracket_at tokens inner mid) refl
  element_later n actuals mid false = omega arith

  plain_best : (at : ℕ) (n : List ℕ) (s : Bool) (o : Option (Bracket × ℕ)) → any_name tokens at ≡ Some n → is_supplied n ≡ s → bracket_at tokens inner (at + 1) ≡ o → IsBestOne at (plain_name n) (at + 1)
  plain_best at n true None en es eb = inl (name_of at n en ∙ ap (λ t. Some t) (supplied_of n (at + 1) None es eb))
  plain_best at n true (Some (bracket.Range first last, next)) en es eb = inl (name_of at n en ∙ ap (λ t. Some t) (supplied_of n (at + 1) (Some (bracket.Range first last, next)) es eb))
  plain_best at n true (Some (bracket.List actuals, next)) en es eb =
      opens_more at (plain_name n) (at + 1) (name_with n actuals, next) (bracket.List actuals, next) eb (name_of at n en ∙ ap (λ t. Some t) (supplied_of n (at + 1) (Some (bracket.List actuals, next)) es eb)) (omega arith)
  plain_best at n false None en es eb = inl (name_of at n en ∙ ap (λ t. Some t) (own_of n (at + 1) None es eb))
  plain_best at n false (Some (bracket.Range first last, next)) en es eb =
      opens_more at (plain_name n) (at + 1) (substring n [] first last, next) (bracket.Range first last, next) eb (name_of at n en ∙ ap (λ t. Some t) (own_of n (at + 1) (Some (bracket.Range first last, next)) es eb)) (omega arith)
  plain_best at n false (Some (bracket.List actuals, next)) en es eb =
      opens_more at (plain_name n) (at + 1) (element_or_call tokens inner n actuals next (are_plain actuals)) (bracket.List actuals, next) eb
      (name_of at n en ∙ ap (λ t. Some t) (own_of n (at + 1) (Some (bracket.List actuals, next)) es eb)) (element_later n actuals next (are_plain actuals))

  -- behind a name with arguments that may be an element
  call_best : (at : ℕ) (n : List ℕ) (actuals : List Actual) (mid : ℕ) (p : Bool) (o : Option (Bracket × ℕ)) → are_plain actuals ≡ p → bracket_at tokens inner mid ≡ o →
      one_primary tokens inner at ≡ Some (element_or_call tokens inner n actuals mid (are_plain actuals)) → IsBestOne at (name_with n actuals) mid
  call_best at n actuals mid false o ep eb e = inl (e ∙ rw ep refl)
  call_best at n actuals mid true None ep eb e = inl (e ∙ rw (ep, eb) refl)
  call_best at n actuals mid true (Some (bracket.List more, next)) ep eb e = inl (e ∙ rw (ep, eb) refl)
  call_best at n actuals mid true (Some (bracket.Range first last, next)) ep eb e =
      opens_more at (name_with n actuals) mid (substring n (map expr_in actuals) first last, next) (bracket.Range first last, next) eb (e ∙ rw (ep, eb) refl) (omega arith)

  list_best : (at : ℕ) (n : List ℕ) (actuals : List Actual) (mid : ℕ) (s : Bool) → any_name tokens at ≡ Some n → is_supplied n ≡ s → bracket_at tokens inner (at + 1) ≡ Some (bracket.List actuals, mid) →
      IsBestOne at (name_with n actuals) mid
  list_best at n actuals mid true en es eb = inl (name_of at n en ∙ ap (λ t. Some t) (supplied_of n (at + 1) (Some (bracket.List actuals, mid)) es eb))
  list_best at n actuals mid false en es eb =
      call_best at n actuals mid (are_plain actuals) (bracket_at tokens inner mid) refl refl (name_of at n en ∙ ap (λ t. Some t) (own_of n (at + 1) (Some (bracket.List actuals, mid)) es eb))

  name_best : (at : ℕ) (n : List ℕ) (list : Option (Actual × List Actual)) (next : ℕ) → any_name tokens at ≡ Some n → Optional (Parenthesized tokens (IsArgs tokens Inner)) (at + 1) list next →
      IsBestOne at (named_of (n, list)) next
  name_best at n None next en h = subst (λ (m : ℕ). IsBestOne at (plain_name n) m) (sym h) (plain_best at n (is_supplied n) (bracket_at tokens inner (at + 1)) en refl refl)
  name_best at n (Some (first, more)) next en h = list_best at n (first ∷ more) next (is_supplied n) en refl (list_exact tokens Inner inner is starts (at + 1) first more next h)

  -- subscripts in parentheses are read as arguments
  as_list : (at : ℕ) (first : Expr) (more : List Expr) (next : ℕ) → Parenthesized tokens (Separated (at_mark comma tokens) Inner) at (first, more) next →
      Parenthesized tokens (IsArgs tokens Inner) at (actual.Expr first, map actual.Expr more) next
  as_list at first more next h =
      let o = opened tokens (Separated (at_mark comma tokens) Inner) at (first, more) next h in
      let list = o.4 in
      let all = enclosed tokens (IsArgs tokens Inner) at (actual.Expr first, map actual.Expr more) o.2 o.0 o.1 o.3 (list.0, inl (first, refl, list.1), as_actuals more list.0 o.2 list.2) o.5 in
      subst (λ (n : ℕ). Parenthesized tokens (IsArgs tokens Inner) at (actual.Expr first, map actual.Expr more) n) (sym o.6) all

  part_best : (at : ℕ) (n : List ℕ) (list : Option (Expr × List Expr)) (mid : ℕ) (r : Expr × Expr) (next : ℕ) → own_name tokens at ≡ Some n →
      Optional (Parenthesized tokens (Separated (at_mark comma tokens) Inner)) (at + 1) list mid → Parenthesized tokens (IsRange tokens Inner) mid r next →
      one_primary tokens inner at ≡ Some (substring_of (target_of (n, list), r), next)
  part_best at n None mid r next eo h k =
      let own = own_is tokens at n eo in
      let b = range_exact tokens Inner inner is starts mid r next k in
      let c : bracket_at tokens inner (at + 1) ≡ Some (bracket.Range r.0 r.1, next) = ap (bracket_at tokens inner) (sym h) ∙ b in
      name_of at n own.0 ∙ ap (λ t. Some t) (own_of n (at + 1) (Some (bracket.Range r.0 r.1, next)) own.1 c)
  part_best at n (Some (first, more)) mid r next eo h k =
      let own = own_is tokens at n eo in
      let es = first ∷ more in
      let l = list_exact tokens Inner inner is starts (at + 1) (actual.Expr first) (map actual.Expr more) mid (as_list (at + 1) first more mid h) in
      let b = range_exact tokens Inner inner is starts mid r next k in
      name_of at n own.0 ∙ ap (λ t. Some t) (own_of n (at + 1) (Some (bracket.List (map actual.Expr es), mid)) own.1 l) ∙ rw (plain_all es, b, in_all es) refl

  primary_best : (at : ℕ) (x : Primary) (next : ℕ) → IsPrimary tokens Inner at x next → IsBestOne at x next
  primary_best at x next (inl h) = inl (numeral_of at h.0 h.2.0 ∙ ap (λ (t : Primary × ℕ). Some t) (rw (h.1, h.2.1) refl))
  primary_best at x next (inr (inl h)) = inl (quoted_of at h.0 h.2.0 ∙ ap (λ (t : Primary × ℕ). Some t) (rw (h.1, h.2.1) refl))
  primary_best at x next (inr (inr (inl h))) =
      let o = opened tokens Inner at h.0 next h.2 in
      inl (group_of at (some_is o.3) ∙ ends group_longest at x next h (λ z. z))
  primary_best at x next (inr (inr (inr (inl h)))) =
      let p = h.0 in
      let body = h.2 in
      let list : Optional (Parenthesized tokens (IsArgs tokens Inner)) (at + 1) p.1 next = subst (λ (m : ℕ). Optional (Parenthesized tokens (IsArgs tokens Inner)) m p.1 next) body.1.1 body.2 in
      subst (λ (y : Primary). IsBestOne at y next) (sym h.1) (name_best at p.0 p.1 next body.1.0 list)
  primary_best at x next (inr (inr (inr (inr h)))) =
      let body = h.2 in
      let target = body.1 in
      let q = target.0 in
      let parts = target.2 in
      let list : Optional (Parenthesized tokens (Separated (at_mark comma tokens) Inner)) (at + 1) q.1 body.0 = subst (λ (m : ℕ). Optional (Parenthesized tokens (Separated (at_mark comma tokens) Inner)) m q.1 body.0) parts.1.1 parts.2 in
      let e = part_best at q.0 q.1 body.0 h.0.1 next parts.1.0 list body.2 in
      inl (e ∙ ap (λ (t : Primary × ℕ). Some t) (rw (h.1, target.1) refl))

  -- ---- how far it stands

  bounds_closed : {A : Type 0} (F : Form A) (at : ℕ) (a : A) (next : ℕ) → ((m : ℕ) (n : ℕ) → F m a n → m ≤ n) → Parenthesized tokens F at a next → (at < next) × (next ≤ length tokens)
  bounds_closed F at a next grows h =
      let o = opened tokens F at a next h in
      let g = grows (at + 1) o.2 o.4 in
      let c = mark_inside tokens closing o.2 o.1 o.5 in
      let n = o.6 in
      (omega arith, omega arith)

  range_grows : (m : ℕ) (r : Expr × Expr) (n : ℕ) → IsRange tokens Inner m r n → m ≤ n
  range_grows m r n h =
      let body = h.2 in
      let tail = body.2 in
      let a = is.grows m h.0.0 body.0 body.1 in
      let b = is.grows tail.0 h.0.1.1 n tail.2 in
      let c = tail.1.1 in
      omega arith

  args_grow : (m : ℕ) (p : Actual × List Actual) (n : ℕ) → IsArgs tokens Inner m p n → m ≤ n
  args_grow m p n h = let g = (args_longest tokens Inner inner is starts).grows m p n h in omega arith

  name_bounds : (at : ℕ) (n : List ℕ) (list : Option (Actual × List Actual)) (next : ℕ) → any_name tokens at ≡ Some n → Optional (Parenthesized tokens (IsArgs tokens Inner)) (at + 1) list next → (at < next) × (next ≤ length tokens)
  name_bounds at n None next en h = let i = name_inside tokens at n en in let e = h in (omega arith, omega arith)
  name_bounds at n (Some p) next en h = let b = bounds_closed (IsArgs tokens Inner) (at + 1) p next (λ m k. args_grow m p k) h in let l = b.0 in (omega arith, b.1)

  target_bounds : (at : ℕ) (n : List ℕ) (list : Option (Expr × List Expr)) (next : ℕ) → own_name tokens at ≡ Some n → Optional (Parenthesized tokens (Separated (at_mark comma tokens) Inner)) (at + 1) list next → at < next
  target_bounds at n None next en h = let e = h in omega arith
  target_bounds at n (Some p) next en h =
      let b = bounds_closed (IsArgs tokens Inner) (at + 1) (actual.Expr p.0, map actual.Expr p.1) next (λ m k. args_grow m (actual.Expr p.0, map actual.Expr p.1) k) (as_list (at + 1) p.0 p.1 next h) in
      let l = b.0 in omega arith

  primary_bounds : (at : ℕ) (x : Primary) (next : ℕ) → IsPrimary tokens Inner at x next → (at < next) × (next ≤ length tokens)
  primary_bounds at x next (inl h) = let i = numeral_inside tokens at h.0 h.2.0 in let e = h.2.1 in (omega arith, omega arith)
  primary_bounds at x next (inr (inl h)) = let i = quoted_inside tokens at h.0 h.2.0 in let e = h.2.1 in (omega arith, omega arith)
  primary_bounds at x next (inr (inr (inl h))) = bounds_closed Inner at h.0 next (λ m n k. let g = is.grows m h.0 n k in omega arith) h.2
  primary_bounds at x next (inr (inr (inr (inl h)))) =
      let p = h.0 in
      let body = h.2 in
      let list : Optional (Parenthesized tokens (IsArgs tokens Inner)) (at + 1) p.1 next = subst (λ (m : ℕ). Optional (Parenthesized tokens (IsArgs tokens Inner)) m p.1 next) body.1.1 body.2 in
      name_bounds at p.0 p.1 next body.1.0 list
  primary_bounds at x next (inr (inr (inr (inr h)))) =
      let body = h.2 in
      let target = body.1 in
      let q = target.0 in
      let parts = target.2 in
      let list : Optional (Parenthesized tokens (Separated (at_mark comma tokens) Inner)) (at + 1) q.1 body.0 = subst (λ (m : ℕ). Optional (Parenthesized tokens (Separated (at_mark comma tokens) Inner)) m q.1 body.0) parts.1.1 parts.2 in
      let t = target_bounds at q.0 q.1 body.0 parts.1.0 list in
      let r = bounds_closed (IsRange tokens Inner) body.0 h.0.1 next (λ m n k. range_grows m h.0.1 n k) body.2 in
      let l = r.0 in
      (omega arith, r.1)

  pub primary_longest : ReadsLongest (length tokens) 1 (IsPrimary tokens Inner) (Opens tokens) (one_primary tokens inner)
  primary_longest = record {
    sound = primary_sound;
    grows = λ at x next h. let b = (primary_bounds at x next h).0 in omega arith;
    within = λ at x next h later. (primary_bounds at x next h).1;
    longest = primary_best;
  }

  -- ---- what stands where an operand begins: no sign, no `#` and no NOT

  abbrev pub Begun : ℕ → Type 0
  Begun at = (at_mark sign_of tokens at ≡ None) × (at_mark hash tokens at ≡ None) × (negation tokens at ≡ None)

  begun_apart : (at : ℕ) → (mark tokens at ≡ None) × (negation tokens at ≡ None) → Begun at
  begun_apart at h = (rw h.0 refl, rw h.0 refl, h.1)

  pub primary_begun : (at : ℕ) (x : Primary) (next : ℕ) → IsPrimary tokens Inner at x next → Begun at
  primary_begun at x next (inl h) = begun_apart at (numeral_first tokens at h.0 h.2.0).0
  primary_begun at x next (inr (inl h)) = begun_apart at (quoted_first tokens at h.0 h.2.0).0
  primary_begun at x next (inr (inr (inl h))) =
      let o = opened tokens Inner at h.0 next h.2 in
      let s = some_is o.3 in
      let b = at_opening tokens at s in
      let m = is_mark tokens at opening s in
      (b.1, b.0, (let c = (mark_first tokens at m.0 m.1).0 in rw c refl))
  primary_begun at x next (inr (inr (inr (inl h)))) = let body = h.2 in begun_apart at (name_first tokens at h.0.0 body.1.0).0
  primary_begun at x next (inr (inr (inr (inr h)))) =
      let body = h.2 in
      let target = body.1 in
      let parts = target.2 in
      begun_apart at (name_first tokens at target.0.0 (own_is tokens at target.0.0 parts.1.0).0).0
