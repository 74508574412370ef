-- What callers learn from a reader that takes the longest form, and the laws of the forms that have one part.
use Rattle.std.proofs.Common.{◌≡◌, ℕ, ◌+◌, ◌<◌, ◌≤◌, ◌⊎◌, inl, inr, Option, Some, None, IsSome, refl, sym, ap, ◌∙◌, subst, arith}
use Rattle.bas_form.specs.Form.{Form, Terminal, Optional, ◌or◌, Dispatched, NotAhead, Built}
use Rattle.bas_form.specs.Reader.{Reader, ◌>>=◌, terminal, optional, optional_at, either, dispatched, not_ahead_at, not_ahead, built, ReadsLongest, Begins, AlwaysReads}

pub same_some : {A : Type 0} {x y : A} → Some x ≡ Some y → x ≡ y
same_some e = cc

pub some_is : {A : Type 0} {o : Option A} {a : A} → o ≡ Some a → IsSome o
some_is e = rw e refl

pub value_of : {A : Type 0} (o : Option A) → IsSome o → (a : A) × (o ≡ Some a)
value_of None h = absurd (cc)
value_of (Some a) h = (a, refl)

-- what a reader of two steps has read in the first
pub bound : {A B : Type 0} (o : Option A) (f : A → Option B) (y : B) → (o >>= f) ≡ Some y → (x : A) × (o ≡ Some x) × (f x ≡ Some y)
bound None f y e = absurd (cc)
bound (Some x) f y e = (x, refl, e)

-- what `longest` says of one form
abbrev pub IsBest : {A : Type 0} → Reader A → (ℕ → Type 0) → ℕ → A → ℕ → Type 0
IsBest {A = A} f GoesOn at a next = (f at ≡ Some (a, next)) ⊎ (GoesOn next × (found : A × ℕ) × (f at ≡ Some found) × (next < found.1))

-- ---- for callers

module _ {A : Type 0} {len least : ℕ} {F : Form A} {GoesOn : ℕ → Type 0} {f : Reader A} (is : ReadsLongest len least F GoesOn f) where
  -- no form ends later than what is read
  pub last : (at : ℕ) (found : A × ℕ) → f at ≡ Some found → (a : A) (next : ℕ) → F at a next → next ≤ found.1
  last at found e a next h = elim (is.longest at a next h) as (λ _. next ≤ found.1) [
    | inl d ↦ (let n : next ≡ found.1 = ap (λ t. t.1) (same_some (sym d ∙ e)) in omega arith)
    | inr d ↦ (let n : d.1.1 ≡ found.1 = ap (λ t. t.1) (same_some (sym d.2 ∙ e)) in omega arith)
  ]

  -- no other tree ends where what is read ends
  pub only : (at : ℕ) (found : A × ℕ) → f at ≡ Some found → (a : A) → F at a found.1 → a ≡ found.0
  only at found e a h = elim (is.longest at a found.1 h) as (λ _. a ≡ found.0) [
    | inl d ↦ ap (λ t. t.0) (same_some (sym d ∙ e))
    | inr d ↦ (let n : d.1.1 ≡ found.1 = ap (λ t. t.1) (same_some (sym d.2 ∙ e)) in absurd (omega arith))
  ]

  -- where nothing is read no form begins
  pub none : (at : ℕ) → f at ≡ None → (a : A) (next : ℕ) → F at a next → ⊥
  none at e a next h = elim (is.longest at a next h) as (λ _. ⊥) [ inl d ↦ absurd (cc) | inr d ↦ (let read = d.2 in absurd (cc)) ]

  -- a form that may not go on where it ends is what is read
  pub ends : (at : ℕ) (a : A) (next : ℕ) → F at a next → (GoesOn next → ⊥) → f at ≡ Some (a, next)
  ends at a next h stops = elim (is.longest at a next h) as (λ _. f at ≡ Some (a, next)) [ inl d ↦ d | inr d ↦ absurd (stops d.0) ]

  -- where a form stands something is read
  pub begins : (at : ℕ) (a : A) (next : ℕ) → F at a next → Begins f at
  begins at a next h = elim (is.longest at a next h) as (λ _. Begins f at) [ inl d ↦ some_is d | inr d ↦ some_is d.2 ]

  -- what is read where something is
  pub begun : (at : ℕ) → Begins f at → (a : A) × (next : ℕ) × F at a next
  begun at h = let r = value_of (f at) h in (r.0.0, r.0.1, is.sound at r.0.0 r.0.1 r.1)

  -- a form may be taken to go on at more places, and to take fewer elements
  pub weaker : (GoesOn' : ℕ → Type 0) (least' : ℕ) → ((n : ℕ) → GoesOn n → GoesOn' n) → least' ≤ least → ReadsLongest len least' F GoesOn' f
  weaker GoesOn' least' more fewer = record {
    sound = is.sound;
    grows = λ at a next h. let g = is.grows at a next h in omega arith;
    within = is.within;
    longest = λ at a next h. elim (is.longest at a next h) as (λ _. IsBest f GoesOn' at a next) [ inl d ↦ inl d | inr d ↦ inr (more next d.0, d.1, d.2, d.3) ];
  }

-- the form that never stands anywhere
pub no_form_longest : {A : Type 0} (len least : ℕ) (GoesOn : ℕ → Type 0) → ReadsLongest {A = A} len least (λ at a next. ⊥) GoesOn (λ at. None)
no_form_longest len least GoesOn = record { sound = λ at a next e. absurd (cc); grows = λ at a next h. absurd h; within = λ at a next h. absurd h; longest = λ at a next h. absurd h }

-- ---- one element

module _ {A : Type 0} (len : ℕ) (element : ℕ → Option A) (inside : (n : ℕ) (a : A) → element n ≡ Some a → n < len) where
  terminal_sound : (at : ℕ) (a : A) (next : ℕ) → terminal element at ≡ Some (a, next) → Terminal element at a next
  unfolding terminal
  terminal_sound at a next e =
      let b = bound (element at) _ _ e in
      let same : (b.0, at + 1) ≡ (a, next) = same_some b.2 in
      (b.1 ∙ ap (λ t. Some t.0) same, sym (ap (λ t. t.1) same))

  terminal_of : (at : ℕ) (a : A) → element at ≡ Some a → terminal element at ≡ Some (a, at + 1)
  unfolding terminal
  terminal_of at a e = rw e refl

  pub terminal_longest : ReadsLongest len 1 (Terminal element) (λ _. ⊥) (terminal element)
  terminal_longest = record {
    sound = terminal_sound;
    grows = λ at a next h. let n = h.1 in omega arith;
    within = λ at a next h later. let i = inside at a h.0 in let n = h.1 in omega arith;
    longest = λ at a next h. inl (terminal_of at a h.0 ∙ ap (λ n. Some (a, n)) (sym h.1));
  }

-- ---- a form or nothing

module _ {A : Type 0} {len least : ℕ} {F : Form A} {GoesOn : ℕ → Type 0} {f : Reader A} (is : ReadsLongest len least F GoesOn f) (takes : 1 ≤ least) where
  pub optional_of : (at : ℕ) (o : Option (A × ℕ)) → f at ≡ o → optional f at ≡ Some (optional_at at o)
  unfolding optional
  optional_of at o e = rw e refl

  pub optional_reads : AlwaysReads (optional f)
  optional_reads at = (optional_at at (f at), optional_of at (f at) refl)

  optional_sound : (at : ℕ) (o : Option (A × ℕ)) → f at ≡ o → Optional F at (optional_at at o).0 (optional_at at o).1
  optional_sound at None e = refl
  optional_sound at (Some found) e = is.sound at found.0 found.1 e

  optional_grows : (at : ℕ) (a : Option A) (next : ℕ) → Optional F at a next → at + 0 ≤ next
  optional_grows at None next h = omega arith
  optional_grows at (Some a) next h = let g = is.grows at a next h in omega arith

  optional_within : (at : ℕ) (a : Option A) (next : ℕ) → Optional F at a next → at < next → next ≤ len
  optional_within at None next h later = absurd (omega arith)
  optional_within at (Some a) next h later = is.within at a next h later

  -- where a form or nothing may go on
  abbrev pub GoesOptional : ℕ → Type 0
  GoesOptional n = GoesOn n ⊎ Begins f n

  nothing_best : (at : ℕ) (o : Option (A × ℕ)) → f at ≡ o → IsBest (optional f) GoesOptional at None at
  nothing_best at None e = inl (optional_of at None e)
  nothing_best at (Some found) e =
      let g = is.grows at found.0 found.1 (is.sound at found.0 found.1 e) in
      inr (inr (some_is e), (Some found.0, found.1), optional_of at (Some found) e, omega arith)

  optional_best : (at : ℕ) (a : Option A) (next : ℕ) → Optional F at a next → IsBest (optional f) GoesOptional at a next
  optional_best at None next h = let goal : ℕ → Type 0 = λ n. IsBest (optional f) GoesOptional at None n in subst goal (sym h) (nothing_best at (f at) refl)
  optional_best at (Some a) next h = elim (is.longest at a next h) as (λ _. IsBest (optional f) GoesOptional at (Some a) next) [
    | inl d ↦ inl (optional_of at (Some (a, next)) d)
    | inr d ↦ inr (inl d.0, (Some d.1.0, d.1.1), optional_of at (Some d.1) d.2, d.3)
  ]

  pub optional_longest : ReadsLongest len 0 (Optional F) GoesOptional (optional f)
  optional_longest = record {
    sound = λ at a next e.
        (let same : optional_at at (f at) ≡ (a, next) = same_some (sym (optional_of at (f at) refl) ∙ e) in
        let goal : Option A × ℕ → Type 0 = λ t. Optional F at t.0 t.1 in
        subst goal same (optional_sound at (f at) refl));
    grows = optional_grows;
    within = optional_within;
    longest = optional_best;
  }

-- ---- one of two forms

module _ {A : Type 0} {len least : ℕ} {F : Form A} {GF : ℕ → Type 0} {f : Reader A} (isf : ReadsLongest len least F GF f)
    {G : Form A} {GG : ℕ → Type 0} {g : Reader A} (isg : ReadsLongest len least G GG g)
    (apart : (n : ℕ) (a : A) (k : ℕ) → F n a k → (b : A) (m : ℕ) → G n b m → ⊥) where
  abbrev pub GoesEither : ℕ → Type 0
  GoesEither n = GF n ⊎ GG n

  either_sound : (at : ℕ) (o : Option (A × ℕ)) (r : A × ℕ) → f at ≡ o → either f g at ≡ Some r → (F or G) at r.0 r.1
  unfolding either
  either_sound at None r eo e = inr (isg.sound at r.0 r.1 (let h = rw eo at e in h))
  either_sound at (Some a) r eo e = inl (isf.sound at r.0 r.1 (eo ∙ (let h = rw eo at e in h)))

  left_of : (at : ℕ) (a : A × ℕ) → f at ≡ Some a → either f g at ≡ Some a
  unfolding either
  left_of at a e = rw e refl

  right_of : (at : ℕ) (o : Option (A × ℕ)) (a : A × ℕ) → f at ≡ o → g at ≡ Some a → either f g at ≡ Some a
  unfolding either
  right_of at None a eo e = rw (eo, e) refl
  right_of at (Some b) a eo e = absurd (apart at b.0 b.1 (isf.sound at b.0 b.1 eo) a.0 a.1 (isg.sound at a.0 a.1 e))

  either_grows : (at : ℕ) (a : A) (next : ℕ) → (F or G) at a next → at + least ≤ next
  either_grows at a next (inl h) = isf.grows at a next h
  either_grows at a next (inr h) = isg.grows at a next h

  either_within : (at : ℕ) (a : A) (next : ℕ) → (F or G) at a next → at < next → next ≤ len
  either_within at a next (inl h) = isf.within at a next h
  either_within at a next (inr h) = isg.within at a next h

  either_best : (at : ℕ) (a : A) (next : ℕ) → (F or G) at a next → IsBest (either f g) GoesEither at a next
  either_best at a next (inl h) = elim (isf.longest at a next h) as (λ _. IsBest (either f g) GoesEither at a next) [
    | inl d ↦ inl (left_of at (a, next) d)
    | inr d ↦ inr (inl d.0, d.1, left_of at d.1 d.2, d.3)
  ]
  either_best at a next (inr h) = elim (isg.longest at a next h) as (λ _. IsBest (either f g) GoesEither at a next) [
    | inl d ↦ inl (right_of at (f at) (a, next) refl d)
    | inr d ↦ inr (inr d.0, d.1, right_of at (f at) d.1 refl d.2, d.3)
  ]

  pub either_longest : ReadsLongest len least (F or G) GoesEither (either f g)
  either_longest = record { sound = λ at a next e. either_sound at (f at) (a, next) refl e; grows = either_grows; within = either_within; longest = either_best }

-- ---- the form that an element chooses

module _ {K A : Type 0} {len least : ℕ} (key : ℕ → Option K) {F : K → Form A} {GF : K → ℕ → Type 0} {f : K → Reader A} (is : (k : K) → ReadsLongest len least (F k) (GF k) (f k)) where
  abbrev pub GoesDispatched : ℕ → Type 0
  GoesDispatched n = (k : K) × GF k n

  dispatched_sound : (at : ℕ) (r : A × ℕ) → dispatched key f at ≡ Some r → Dispatched key F at r.0 r.1
  unfolding dispatched
  dispatched_sound at r e = let b = bound (key at) _ _ e in (b.0, b.1, (is b.0).sound at r.0 r.1 b.2)

  dispatched_of : (at : ℕ) (k : K) (r : A × ℕ) → key at ≡ Some k → f k at ≡ Some r → dispatched key f at ≡ Some r
  unfolding dispatched
  dispatched_of at k r ek e = rw (ek, e) refl

  pub dispatched_longest : ReadsLongest len least (Dispatched key F) GoesDispatched (dispatched key f)
  dispatched_longest = record {
    sound = λ at a next e. dispatched_sound at (a, next) e;
    grows = λ at a next h. (is h.0).grows at a next h.2;
    within = λ at a next h. (is h.0).within at a next h.2;
    longest = λ at a next h. elim ((is h.0).longest at a next h.2) as (λ _. IsBest (dispatched key f) GoesDispatched at a next) [
      | inl d ↦ inl (dispatched_of at h.0 (a, next) h.1 d)
      | inr d ↦ inr ((h.0, d.0), d.1, dispatched_of at h.0 d.1 h.1 d.2, d.3)
    ];
  }

-- ---- nothing, where an element does not stand

module _ {A : Type 0} (len : ℕ) (element : ℕ → Option A) where
  not_ahead_by : (at : ℕ) (o : Option A) (u : Unit {0}) (next : ℕ) → element at ≡ o → not_ahead_at at o ≡ Some (u, next) → NotAhead element at u next
  not_ahead_by at None u next eo e = (eo, sym (ap (λ t. t.1) (same_some e)))
  not_ahead_by at (Some a) u next eo e = absurd (cc)

  not_ahead_sound : (at : ℕ) (u : Unit {0}) (next : ℕ) → not_ahead element at ≡ Some (u, next) → NotAhead element at u next
  unfolding not_ahead
  not_ahead_sound at u next e = not_ahead_by at (element at) u next refl e

  not_ahead_of : (at : ℕ) → element at ≡ None → not_ahead element at ≡ Some (tt, at)
  unfolding not_ahead
  not_ahead_of at e = rw e refl

  pub not_ahead_longest : ReadsLongest len 0 (NotAhead element) (λ _. ⊥) (not_ahead element)
  not_ahead_longest = record {
    sound = not_ahead_sound;
    grows = λ at u next h. let n = h.1 in omega arith;
    within = λ at u next h later. let n = h.1 in absurd (omega arith);
    longest = λ at u next h. inl (not_ahead_of at h.0 ∙ ap (λ n. Some (tt, n)) (sym h.1));
  }

-- ---- a tree made of the parts

module _ {A B : Type 0} {len least : ℕ} {F : Form A} {GoesOn : ℕ → Type 0} {f : Reader A} (make : A → B) (is : ReadsLongest len least F GoesOn f) where
  built_sound : (at : ℕ) (r : B × ℕ) → built make f at ≡ Some r → Built make F at r.0 r.1
  unfolding built
  built_sound at r e =
      let a = bound (f at) _ _ e in
      let goal : B × ℕ → Type 0 = λ t. Built make F at t.0 t.1 in
      subst goal (same_some a.2) (a.0.0, refl, is.sound at a.0.0 a.0.1 a.1)

  pub built_of : (at : ℕ) (x : A × ℕ) → f at ≡ Some x → built make f at ≡ Some (make x.0, x.1)
  unfolding built
  built_of at x e = rw e refl

  pub built_longest : ReadsLongest len least (Built make F) GoesOn (built make f)
  built_longest = record {
    sound = λ at b next e. built_sound at (b, next) e;
    grows = λ at b next h. is.grows at h.0 next h.2;
    within = λ at b next h. is.within at h.0 next h.2;
    longest = λ at b next h. elim (is.longest at h.0 next h.2) as (λ _. IsBest (built make f) GoesOn at b next) [
      | inl d ↦ inl (built_of at (h.0, next) d ∙ ap (λ t. Some (t, next)) (sym h.1))
      | inr d ↦ inr (d.0, (make d.1.0, d.1.1), built_of at d.1 d.2, d.3)
    ];
  }
