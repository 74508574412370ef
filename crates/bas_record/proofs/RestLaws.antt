-- Items and behind them perhaps an element that also begins an item: where an item stands behind it, it begins one.
use Rattle.std.proofs.Common.{◌≡◌, ℕ, ◌+◌, ◌<◌, ◌≤◌, ◌⊎◌, inl, inr, List, [], ◌∷◌, Option, Some, None, IsSome, refl, sym, ap, ◌∙◌, subst, arith}
use Rattle.bas_form.specs.Form.{Form, Terminal, ◌then◌, Optional, Repeated}
use Rattle.bas_form.specs.Reader.{Reader, terminal, both, ◌followed_by◌, optional, repeated, all_from, ReadsLongest, Begins, AlwaysReads}
use Rattle.bas_form.proofs.ReaderLaws.{same_some, some_is, bound, IsBest, terminal_longest, optional_longest, optional_reads, begun}
use Rattle.bas_form.proofs.SequenceLaws.{both_of}
use Rattle.bas_form.proofs.RepetitionLaws.{all_sound, all_on, all_end, repeated_longest, repeated_reads}

module _ {A B : Type 0} {len least : ℕ} {F : Form A} {GoesOn : ℕ → Type 0} {f : Reader A} (is : ReadsLongest len least F GoesOn f) (takes : 2 ≤ least)
    (apart : (n : ℕ) → GoesOn n → (a : A) (m : ℕ) → F n a m → ⊥)
    (element : ℕ → Option B) (inside : (n : ℕ) (b : B) → element n ≡ Some b → n < len) (stops : (n : ℕ) → GoesOn n → (b : B) → element n ≡ Some b → ⊥) where
  one : 1 ≤ least
  one = omega arith

  one_is : 1 ≤ 1
  one_is = omega arith

  items_longest : ReadsLongest len 0 (Repeated F) (λ n. GoesOn n ⊎ Begins f n) (repeated f len)
  items_longest = repeated_longest is one apart

  last_longest : ReadsLongest len 0 (Optional (Terminal element)) (λ n. ⊥ ⊎ Begins (terminal element) n) (optional (terminal element))
  last_longest = optional_longest (terminal_longest len element inside) one_is

  repeated_is : (at : ℕ) → repeated f len at ≡ Some (all_from f len at)
  unfolding repeated
  repeated_is at = refl

  no_earlier : (at : ℕ) → at ≤ (all_from f len at).1
  no_earlier at = let g = items_longest.grows at (all_from f len at).0 (all_from f len at).1 (all_sound is one at) in omega arith

  -- what is read from a place on, against items that stand there and end at the element
  abbrev IsBestTo : ℕ → List A → ℕ → Type 0
  IsBestTo at items next = (all_from f len at ≡ (items, next)) ⊎ (Begins f next × (next + 2 ≤ (all_from f len at).1))

  none_best : (at : ℕ) (o : Option (A × ℕ)) → f at ≡ o → IsBestTo at [] at
  none_best at None e = inl (all_end is one at e)
  none_best at (Some found) e =
      let g = is.grows at found.0 found.1 (is.sound at found.0 found.1 e) in
      let l = no_earlier found.1 in
      let later : at + 2 ≤ (all_from f len found.1).1 = omega arith in
      inr (some_is e, rw (all_on is one at found e) later)

  item_best : (at middle next : ℕ) (a : A) (more : List A) (b : B) → Repeated F middle more next → element next ≡ Some b → IsBest f GoesOn at a middle → IsBestTo middle more next → IsBestTo at (a ∷ more) next
  item_best at middle next a more b rest eb (inl e) (inl r) = inl (all_on is one at (a, middle) e ∙ rw r refl)
  item_best at middle next a more b rest eb (inl e) (inr r) = inr (r.0, rw (all_on is one at (a, middle) e) r.1)
  item_best at middle next a [] b rest eb (inr d) ih = absurd (stops middle d.0 b (rw (← rest) eb))
  item_best at middle next a (c ∷ more) b rest eb (inr d) ih = absurd (apart middle d.0 c rest.0 rest.1)

  items_best : (items : List A) (at next : ℕ) (b : B) → Repeated F at items next → element next ≡ Some b → IsBestTo at items next
  items_best [] at next b h eb = let goal : ℕ → Type 0 = λ n. IsBestTo at [] n in subst goal (sym h) (none_best at (f at) refl)
  items_best (a ∷ more) at next b h eb = item_best at h.0 next a more b h.2 eb (is.longest at a h.0 h.1) (items_best more h.0 next b h.2 eb)

  -- where they may go on: at an item, at the element, and behind the place at which an item begins
  abbrev pub GoesRest : ℕ → Type 0
  GoesRest n = (GoesOn n ⊎ Begins f n) ⊎ (IsSome (element n) ⊎ ((m : ℕ) × (n ≡ m + 1) × Begins f m))

  abbrev rest : Reader (List A × Option B)
  rest = repeated f len followed_by optional (terminal element)

  pub rest_reads : AlwaysReads rest
  rest_reads at =
      let all = repeated_reads is one apart at in
      let last = optional_reads (terminal_longest len element inside) one_is all.0.1 in
      (((all.0.0, last.0.0), last.0.1), both_of items_longest last_longest at all.0 last.0 all.1 last.1)

  rest_sound : (at : ℕ) (r : (List A × Option B) × ℕ) → rest at ≡ Some r → (Repeated F then Optional (Terminal element)) at r.0 r.1
  unfolding both
  rest_sound at r e =
      let a = bound (repeated f len at) _ _ e in
      let b = bound (optional (terminal element) a.0.1) _ _ a.2 in
      let goal : (List A × Option B) × ℕ → Type 0 = λ t. (Repeated F then Optional (Terminal element)) at t.0 t.1 in
      subst goal (same_some b.2) (a.0.1, items_longest.sound at a.0.0 a.0.1 a.1, last_longest.sound a.0.1 b.0.0 b.0.1 b.1)

  rest_within : (at middle next : ℕ) → (at < middle → middle ≤ len) → (middle < next → next ≤ len) → at ≤ middle → middle ≤ next → at < next → next ≤ len
  rest_within at middle next front back ordered after later = grind arith

  at_element : (n : ℕ) → ⊥ ⊎ Begins (terminal element) n → GoesRest n
  at_element n (inl z) = absurd z
  at_element n (inr h) = let b = begun (terminal_longest len element inside) n h in inr (inl (some_is b.2.0))

  -- where all items are read as they stand
  last_best : (at middle next : ℕ) (items : List A) (o : Option B) → repeated f len at ≡ Some (items, middle) → Optional (Terminal element) middle o next → IsBest rest GoesRest at (items, o) next
  last_best at middle next items o e h = elim (last_longest.longest middle o next h) as (λ _. IsBest rest GoesRest at (items, o) next) [
    | inl d ↦ inl (both_of items_longest last_longest at (items, middle) (o, next) e d)
    | inr d ↦ inr (at_element next d.0, ((items, d.1.0), d.1.1), both_of items_longest last_longest at (items, middle) d.1 e d.2, d.3)
  ]

  -- where more items are read
  later_best : (at next : ℕ) (items : List A) (o : Option B) (found : List A × ℕ) → repeated f len at ≡ Some found → next < found.1 → GoesRest next → IsBest rest GoesRest at (items, o) next
  later_best at next items o found e l g =
      let last = optional_reads (terminal_longest len element inside) one_is found.1 in
      let grown = last_longest.grows found.1 last.0.0 last.0.1 (last_longest.sound found.1 last.0.0 last.0.1 last.1) in
      inr (g, ((found.0, last.0.0), last.0.1), both_of items_longest last_longest at found last.0 e last.1, omega arith)

  rest_best : (at middle next : ℕ) (items : List A) (o : Option B) → Repeated F at items middle → Optional (Terminal element) middle o next → IsBest rest GoesRest at (items, o) next
  rest_best at middle next items None h k = elim (items_longest.longest at items middle h) as (λ _. IsBest rest GoesRest at (items, None) next) [
    | inl d ↦ last_best at middle next items None d k
    | inr d ↦ (let l = d.3 in let same = k in later_best at next items None d.1 d.2 (omega arith) (inl (rw k d.0)))
  ]
  rest_best at middle next items (Some b) h k = elim (items_best items at middle b h k.0) as (λ _. IsBest rest GoesRest at (items, Some b) next) [
    | inl d ↦ last_best at middle next items (Some b) (repeated_is at ∙ ap (λ (t : List A × ℕ). Some t) d) k
    | inr d ↦ (let l = d.1 in let same = k.1 in later_best at next items (Some b) (all_from f len at) (repeated_is at) (omega arith) (inr (inr (middle, k.1, d.0))))
  ]

  pub rest_longest : ReadsLongest len 0 (Repeated F then Optional (Terminal element)) GoesRest rest
  rest_longest = record {
    sound = λ at r next e. rest_sound at (r, next) e;
    grows = λ at r next h. let x = items_longest.grows at r.0 h.0 h.1 in let y = last_longest.grows h.0 r.1 next h.2 in omega arith;
    within = λ at r next h later. let u = items_longest.grows at r.0 h.0 h.1 in let v = last_longest.grows h.0 r.1 next h.2 in rest_within at h.0 next (items_longest.within at r.0 h.0 h.1) (last_longest.within h.0 r.1 next h.2) (omega arith) (omega arith) later;
    longest = λ at r next h. rest_best at h.0 next r.0 r.1 h.1 h.2;
  }
