-- The laws of a form that stands any number of times, and of the loops that read it.
use Rattle.std.proofs.Common.{◌≡◌, ℕ, zero, suc, ◌+◌, ◌-◌, ◌<◌, ◌≤◌, ◌⊎◌, inl, inr, List, [], ◌∷◌, ◌++◌, Option, Some, None, IsSome, refl, sym, ap, ◌∙◌, subst, arith, append_assoc, append-nil}
use Rattle.bas_form.specs.Form.{Form, Terminal, ◌then◌, Repeated, ◌repeating◌, Chain}
use Rattle.bas_form.specs.Reader.{Reader, terminal, ◌followed_by◌, repeated_on, repeated_by, all_from, repeated, chain, IsAsFar, ReadsLongest, Begins, AlwaysReads}
use Rattle.bas_form.proofs.ReaderLaws.{same_some, some_is, IsBest, terminal_longest, begun, weaker}
use Rattle.bas_form.proofs.SequenceLaws.{then_longest, then_open, both_of}

module _ {A : Type 0} {len least : ℕ} {F : Form A} {GoesOn : ℕ → Type 0} {f : Reader A} (is : ReadsLongest len least F GoesOn f) (takes : 1 ≤ least) where
  -- each turn takes an element of the text
  pub progress : (at : ℕ) (found : A × ℕ) → f at ≡ Some found → (at < found.1) × (found.1 ≤ len)
  progress at found e =
      let h = is.sound at found.0 found.1 e in
      let g = is.grows at found.0 found.1 h in
      let later : at < found.1 = omega arith in
      (later, is.within at found.0 found.1 h later)

  on_sound : (go : ℕ → List A × ℕ) (at : ℕ) (o : Option (A × ℕ)) → f at ≡ o → ((n : ℕ) → Repeated F n (go n).0 (go n).1) → Repeated F at (repeated_on go at o).0 (repeated_on go at o).1
  on_sound go at None e ih = refl
  on_sound go at (Some found) e ih = (found.1, is.sound at found.0 found.1 e, ih found.1)

  by_sound : (turns at : ℕ) → Repeated F at (repeated_by f turns at).0 (repeated_by f turns at).1
  unfolding repeated_by
  by_sound zero at = refl
  by_sound (suc turns) at = on_sound (repeated_by f turns) at (f at) refl (by_sound turns)

  -- what a repetition reads stands there
  pub all_sound : (at : ℕ) → Repeated F at (all_from f len at).0 (all_from f len at).1
  all_sound at = by_sound (len - at) at

  repeated_grows : (at : ℕ) (items : List A) (next : ℕ) → Repeated F at items next → at + 0 ≤ next
  repeated_grows at [] next h = omega arith
  repeated_grows at (a ∷ more) next h =
      let g = is.grows at a h.0 h.1 in
      let r = repeated_grows h.0 more next h.2 in
      omega arith

  repeated_within : (at : ℕ) (items : List A) (next : ℕ) → Repeated F at items next → at < next → next ≤ len
  repeated_within at [] next h later = absurd (omega arith)
  repeated_within at (a ∷ []) next h later =
      let g = is.grows at a h.0 h.1 in
      let i : h.0 ≤ len = is.within at a h.0 h.1 (omega arith) in
      let same = h.2 in omega arith
  repeated_within at (a ∷ b ∷ more) next h later =
      let g = is.grows h.0 b h.2.0 h.2.1 in
      let r = repeated_grows h.2.0 more next h.2.2 in
      repeated_within h.0 (b ∷ more) next h.2 (omega arith)

  -- where a repetition may go on
  abbrev pub GoesRepeated : ℕ → Type 0
  GoesRepeated n = GoesOn n ⊎ Begins f n

  turn_on : (turns at : ℕ) (found : A × ℕ) → f at ≡ Some found → repeated_by f (suc turns) at ≡ (found.0 ∷ (repeated_by f turns found.1).0, (repeated_by f turns found.1).1)
  unfolding repeated_by
  turn_on turns at found e = rw e refl

  no_turns : (at : ℕ) → repeated_by f zero at ≡ ([], at)
  unfolding repeated_by
  no_turns at = refl

  turn_end : (turns at : ℕ) → f at ≡ None → repeated_by f turns at ≡ ([], at)
  unfolding repeated_by
  turn_end zero at e = refl
  turn_end (suc turns) at e = rw e refl

  no_earlier : (turns at : ℕ) → at ≤ (repeated_by f turns at).1
  no_earlier turns at = let g = repeated_grows at (repeated_by f turns at).0 (repeated_by f turns at).1 (by_sound turns at) in omega arith

  -- what is read in so many turns, against a repetition that stands there
  abbrev IsBestBy : ℕ → ℕ → List A → ℕ → Type 0
  IsBestBy turns at items next = (repeated_by f turns at ≡ (items, next)) ⊎ (GoesRepeated next × (next < (repeated_by f turns at).1))

  nothing_by : (turns at : ℕ) (o : Option (A × ℕ)) → f at ≡ o → IsBestBy turns at [] at
  nothing_by turns at None e = inl (turn_end turns at e)
  nothing_by zero at (Some found) e = inl (no_turns at)
  nothing_by (suc turns) at (Some found) e =
      let p = progress at found e in
      let n = no_earlier turns found.1 in
      let later : at < (repeated_by f turns found.1).1 = omega arith in
      inr (inr (some_is e), rw (turn_on turns at found e) later)

  -- No item but the last is read longer than it stands, since the next one begins behind it.
  module _ (apart : (n : ℕ) → GoesOn n → (a : A) (m : ℕ) → F n a m → ⊥) where
    item_by : (turns at middle next : ℕ) (a : A) (more : List A) → F at a middle → Repeated F middle more next →
        IsBest f GoesOn at a middle → IsBestBy turns middle more next → IsBestBy (suc turns) at (a ∷ more) next
    item_by turns at middle next a more h rest (inl e) (inl r) = inl (turn_on turns at (a, middle) e ∙ rw r refl)
    item_by turns at middle next a more h rest (inl e) (inr r) = inr (r.0, rw (turn_on turns at (a, middle) e) r.1)
    item_by turns at middle next a [] h rest (inr d) ih =
        let n = no_earlier turns d.1.1 in
        let past = d.3 in
        let later : next < (repeated_by f turns d.1.1).1 = omega arith in
        inr (inl (subst GoesOn (sym rest) d.0), rw (turn_on turns at d.1 d.2) later)
    item_by turns at middle next a (b ∷ more) h rest (inr d) ih = absurd (apart middle d.0 b rest.0 rest.1)

    best_by : (items : List A) (turns at next : ℕ) → Repeated F at items next → len ≤ at + turns → IsBestBy turns at items next
    best_by [] turns at next h enough = let goal : ℕ → Type 0 = λ n. IsBestBy turns at [] n in subst goal (sym h) (nothing_by turns at (f at) refl)
    best_by (a ∷ more) zero at next h enough =
        let g = is.grows at a h.0 h.1 in
        let i : h.0 ≤ len = is.within at a h.0 h.1 (omega arith) in
        absurd (omega arith)
    best_by (a ∷ more) (suc turns) at next h enough =
        let g = is.grows at a h.0 h.1 in
        item_by turns at h.0 next a more h.1 h.2 (is.longest at a h.0 h.1) (best_by more turns h.0 next h.2 (omega arith))

    repeated_of : (at : ℕ) → repeated f len at ≡ Some (all_from f len at)
    unfolding repeated
    repeated_of at = refl

    pub repeated_reads : AlwaysReads (repeated f len)
    repeated_reads at = (all_from f len at, repeated_of at)

    repeated_best : (at : ℕ) (items : List A) (next : ℕ) → Repeated F at items next → IsBest (repeated f len) GoesRepeated at items next
    repeated_best at items next h = elim (best_by items (len - at) at next h (omega arith)) as (λ _. IsBest (repeated f len) GoesRepeated at items next) [
      | inl d ↦ inl (repeated_of at ∙ ap (λ t. Some t) d)
      | inr d ↦ inr (d.0, all_from f len at, repeated_of at, d.1)
    ]

    pub repeated_longest : ReadsLongest len 0 (Repeated F) GoesRepeated (repeated f len)
    repeated_longest = record {
      sound = λ at items next e.
          (let same : all_from f len at ≡ (items, next) = same_some (sym (repeated_of at) ∙ e) in
          let goal : List A × ℕ → Type 0 = λ t. Repeated F at t.0 t.1 in
          subst goal same (by_sound (len - at) at));
      grows = repeated_grows;
      within = repeated_within;
      longest = repeated_best;
    }

  -- ---- the loop that reads a repetition

  none_left : (turns at : ℕ) → len ≤ at → (o : Option (A × ℕ)) → f at ≡ o → repeated_by f turns at ≡ ([], at)
  none_left turns at l None e = turn_end turns at e
  none_left turns at l (Some found) e = let p = progress at found e in absurd (omega arith)

  agree_on : (k n at : ℕ) (o : Option (A × ℕ)) → f at ≡ o → ((m : ℕ) → at < m → repeated_by f k m ≡ repeated_by f n m) → repeated_by f (suc k) at ≡ repeated_by f (suc n) at
  agree_on k n at None e ih = turn_end (suc k) at e ∙ sym (turn_end (suc n) at e)
  agree_on k n at (Some found) e ih =
      let p = progress at found e in
      turn_on k at found e ∙ rw (ih found.1 p.0) refl ∙ sym (turn_on n at found e)

  -- more turns than there are elements left change nothing
  turns_agree : (k n at : ℕ) → len ≤ at + k → len ≤ at + n → repeated_by f k at ≡ repeated_by f n at
  turns_agree zero n at hk hn = no_turns at ∙ sym (none_left n at (omega arith) (f at) refl)
  turns_agree (suc k) zero at hk hn = none_left (suc k) at (omega arith) (f at) refl ∙ sym (no_turns at)
  turns_agree (suc k) (suc n) at hk hn = agree_on k n at (f at) refl (λ m l. turns_agree k n m (omega arith) (omega arith))

  -- one turn of the loop, and its end
  pub all_on : (at : ℕ) (found : A × ℕ) → f at ≡ Some found → all_from f len at ≡ (found.0 ∷ (all_from f len found.1).0, (all_from f len found.1).1)
  all_on at found e =
      let p = progress at found e in
      let turns : len - at ≡ suc (len - at - 1) = omega arith in
      let same = turns_agree (len - at - 1) (len - found.1) found.1 (omega arith) (omega arith) in
      ap (λ n. repeated_by f n at) turns ∙ turn_on (len - at - 1) at found e ∙ rw same refl

  pub all_end : (at : ℕ) → f at ≡ None → all_from f len at ≡ ([], at)
  all_end at e = turn_end (len - at) at e

  nothing_past : (at : ℕ) → len ≤ at → (o : Option (A × ℕ)) → f at ≡ o → f at ≡ None
  nothing_past at l None e = e
  nothing_past at l (Some found) e = let p = progress at found e in absurd (omega arith)

  stops_on : (turns at : ℕ) (o : Option (A × ℕ)) → f at ≡ o → ((m : ℕ) → at < m → f (repeated_by f turns m).1 ≡ None) → f (repeated_by f (suc turns) at).1 ≡ None
  stops_on turns at None e ih = rw (turn_end (suc turns) at e) e
  stops_on turns at (Some found) e ih = let p = progress at found e in rw (turn_on turns at found e) (ih found.1 p.0)

  stops_by : (turns at : ℕ) → len ≤ at + turns → f (repeated_by f turns at).1 ≡ None
  stops_by zero at enough = rw (no_turns at) (nothing_past at (omega arith) (f at) refl)
  stops_by (suc turns) at enough = stops_on turns at (f at) refl (λ m l. stops_by turns m (omega arith))

  -- a repetition ends where the reader reads nothing more
  pub all_stops : (at : ℕ) → f (all_from f len at).1 ≡ None
  all_stops at = stops_by (len - at) at (omega arith)

  pub as_far_begins : (at : ℕ) → IsAsFar f len at [] at
  as_far_begins at = refl

  pub as_far_on : (from at : ℕ) (front : List A) (a : A) (next : ℕ) → IsAsFar f len from front at → f at ≡ Some (a, next) → IsAsFar f len from (front ++ a ∷ []) next
  as_far_on from at front a next far e = far ∙ rw (all_on at (a, next) e, append_assoc) refl

  pub as_far_ends : (from at : ℕ) (front : List A) → IsAsFar f len from front at → f at ≡ None → all_from f len from ≡ (front, at)
  as_far_ends from at front far e = far ∙ rw (all_end at e, append-nil) refl

-- ---- F { G }

module _ {A B : Type 0} {len least_f least_g : ℕ} {F : Form A} {GF : ℕ → Type 0} {f : Reader A} (isf : ReadsLongest len least_f F GF f)
    {G : Form B} {GG : ℕ → Type 0} {g : Reader B} (isg : ReadsLongest len least_g G GG g) (takes : 1 ≤ least_g)
    (apart_f : (n : ℕ) → GF n → (b : B) (m : ℕ) → G n b m → ⊥) (apart_g : (n : ℕ) → GG n → (b : B) (m : ℕ) → G n b m → ⊥) where
  -- where a form with others behind it may go on
  abbrev pub GoesRepeating : ℕ → Type 0
  GoesRepeating n = GF n ⊎ (GG n ⊎ Begins g n)

  empty : (n : ℕ) → GF n → (items : List B) (m : ℕ) → Repeated G n items m → (m ≡ n) × GoesRepeating n × AlwaysReads (repeated g len)
  empty n h [] m k = (k, inl h, repeated_reads isg takes apart_g)
  empty n h (b ∷ more) m k = absurd (apart_f n h b k.0 k.1)

  pub repeating_longest : ReadsLongest len (least_f + 0) (F repeating G) GoesRepeating (f followed_by repeated g len)
  repeating_longest = then_open isf (repeated_longest isg takes apart_g) GoesRepeating (λ n h. inr h) empty

  repeated_is : (at : ℕ) → repeated g len at ≡ Some (all_from g len at)
  unfolding repeated
  repeated_is at = refl

  -- a loop has read all of it
  pub repeating_whole : (at from next : ℕ) (first : A) (items : List B) → f at ≡ Some (first, from) → IsAsFar g len from items next → g next ≡ None →
      (f followed_by repeated g len) at ≡ Some ((first, items), next)
  repeating_whole at from next first items e far end =
      both_of isf (repeated_longest isg takes apart_g) at (first, from) (items, next) e (repeated_is from ∙ ap (λ t. Some t) (as_far_ends isg takes from next items far end))

-- ---- item { operator item }

module _ {A O : Type 0} {len least : ℕ} (operator : ℕ → Option O) (inside : (n : ℕ) (o : O) → operator n ≡ Some o → n < len)
    {F : Form A} {GoesOn : ℕ → Type 0} {f : Reader A} (is : ReadsLongest len least F GoesOn f) (apart : (n : ℕ) → GoesOn n → operator n ≡ None) where
  pub operator_item_longest : ReadsLongest len (1 + least) (Terminal operator then F) GoesOn (terminal operator followed_by f)
  operator_item_longest = then_longest (terminal_longest len operator inside) is (λ n h b m k. absurd h)

  no_operator : (n : ℕ) → GoesOn n → (b : O × A) (m : ℕ) → (Terminal operator then F) n b m → ⊥
  no_operator n h b m k = let none = apart n h in let some = k.1.0 in absurd (cc)

  takes_operator : 1 ≤ 1 + least
  takes_operator = omega arith

  -- where a chain may go on
  abbrev pub GoesChain : ℕ → Type 0
  GoesChain n = GoesOn n ⊎ IsSome (operator n)

  at_operator : (n : ℕ) → Begins (terminal operator followed_by f) n → IsSome (operator n)
  at_operator n h = let b = begun operator_item_longest n h in some_is b.2.1.0

  pub chain_longest : ReadsLongest len (least + 0) (Chain operator F) GoesChain (chain operator f len)
  chain_longest = weaker (repeating_longest is operator_item_longest takes_operator no_operator no_operator) GoesChain (least + 0)
      (λ n h. elim h as (λ _. GoesChain n) [ inl g ↦ inl g | inr (inl g) ↦ inl g | inr (inr g) ↦ inr (at_operator n g) ]) (omega arith)

  pub chain_whole : (at from next : ℕ) (first : A) (items : List (O × A)) → f at ≡ Some (first, from) →
      IsAsFar (terminal operator followed_by f) len from items next → (terminal operator followed_by f) next ≡ None → chain operator f len at ≡ Some ((first, items), next)
  chain_whole = repeating_whole is operator_item_longest takes_operator no_operator no_operator
