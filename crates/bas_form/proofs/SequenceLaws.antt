-- The laws of one form behind another.
use Rattle.std.proofs.Common.{◌≡◌, ℕ, ◌+◌, ◌<◌, ◌≤◌, ◌⊎◌, inl, inr, Option, Some, None, refl, sym, subst, arith}
use Rattle.bas_form.specs.Form.{Form, ◌then◌, Optional, ◌perhaps◌, Between}
use Rattle.bas_form.specs.Reader.{Reader, both, ◌followed_by◌, optional, ◌maybe◌, between, ReadsLongest, Begins, AlwaysReads}
use Rattle.bas_form.proofs.ReaderLaws.{same_some, bound, IsBest, terminal_longest, optional_reads, optional_longest, built_longest}

within_both : (at middle next len : ℕ) → (at < middle → middle ≤ len) → (middle < next → next ≤ len) → at ≤ middle → middle ≤ next → at < next → next ≤ len
within_both at middle next len front back ordered after later = grind arith

module _ {A B : Type 0} {len least_f least_g : ℕ} {F : Form A} {GF : ℕ → Type 0} {f : Reader A} (isf : ReadsLongest len least_f F GF f)
    {G : Form B} {GG : ℕ → Type 0} {g : Reader B} (isg : ReadsLongest len least_g G GG g) where
  pub both_of : (at : ℕ) (a : A × ℕ) (b : B × ℕ) → f at ≡ Some a → g a.1 ≡ Some b → (f followed_by g) at ≡ Some ((a.0, b.0), b.1)
  unfolding both
  both_of at a b ea eb = rw (ea, eb) refl

  both_sound : (at : ℕ) (r : (A × B) × ℕ) → (f followed_by g) at ≡ Some r → (F then G) at r.0 r.1
  unfolding both
  both_sound at r e =
      let a = bound (f at) _ _ e in
      let b = bound (g a.0.1) _ _ a.2 in
      let goal : (A × B) × ℕ → Type 0 = λ t. (F then G) at t.0 t.1 in
      subst goal (same_some b.2) (a.0.1, isf.sound at a.0.0 a.0.1 a.1, isg.sound a.0.1 b.0.0 b.0.1 b.1)

  -- Where the first may go on, the second is at most empty there, and then always reads something.
  module _ (GoesOn : ℕ → Type 0) (more : (n : ℕ) → GG n → GoesOn n)
      (apart : (n : ℕ) → GF n → (b : B) (m : ℕ) → G n b m → (m ≡ n) × GoesOn n × AlwaysReads g) where
    later : (at middle next : ℕ) (a : A) (b : B) → G middle b next → (d : GF middle × (found : A × ℕ) × (f at ≡ Some found) × (middle < found.1)) → IsBest (f followed_by g) GoesOn at (a, b) next
    later at middle next a b h d =
        let empty = apart middle d.0 b next h in
        let r = empty.2 d.1.1 in
        let grown = isg.grows d.1.1 r.0.0 r.0.1 (isg.sound d.1.1 r.0.0 r.0.1 r.1) in
        let same = empty.0 in
        let past = d.3 in
        inr (subst GoesOn (sym empty.0) empty.1, ((d.1.0, r.0.0), r.0.1), both_of at d.1 r.0 d.2 r.1, omega arith)

    pub then_open : ReadsLongest len (least_f + least_g) (F then G) GoesOn (f followed_by g)
    then_open = record {
      sound = λ at r next e. both_sound at (r, next) e;
      grows = λ at r next h. let x = isf.grows at r.0 h.0 h.1 in let y = isg.grows h.0 r.1 next h.2 in omega arith;
      within = λ at r next h later. let u = isf.grows at r.0 h.0 h.1 in let v = isg.grows h.0 r.1 next h.2 in within_both at h.0 next len (isf.within at r.0 h.0 h.1) (isg.within h.0 r.1 next h.2) (omega arith) (omega arith) later;
      longest = λ at r next h. elim (isf.longest at r.0 h.0 h.1) as (λ _. IsBest (f followed_by g) GoesOn at r next) [
        | inl d ↦ (elim (isg.longest h.0 r.1 next h.2) as (λ _. IsBest (f followed_by g) GoesOn at r next) [
          | inl k ↦ inl (both_of at (r.0, h.0) (r.1, next) d k)
          | inr k ↦ inr (more next k.0, ((r.0, k.1.0), k.1.1), both_of at (r.0, h.0) k.1 d k.2, k.3)
        ])
        | inr d ↦ later at h.0 next r.0 r.1 h.2 d
      ];
    }

  -- the second never begins where the first may go on
  pub then_longest : ((n : ℕ) → GF n → (b : B) (m : ℕ) → G n b m → ⊥) → ReadsLongest len (least_f + least_g) (F then G) GG (f followed_by g)
  then_longest apart = then_open GG (λ n h. h) (λ n h b m k. absurd (apart n h b m k))

-- F [ G ]
module _ {A B : Type 0} {len least_f least_g : ℕ} {F : Form A} {GF : ℕ → Type 0} {f : Reader A} (isf : ReadsLongest len least_f F GF f)
    {G : Form B} {GG : ℕ → Type 0} {g : Reader B} (isg : ReadsLongest len least_g G GG g) (takes : 1 ≤ least_g)
    (apart : (n : ℕ) → GF n → (b : B) (m : ℕ) → G n b m → ⊥) where
  -- where a form that may have another behind it may go on
  abbrev pub GoesPerhaps : ℕ → Type 0
  GoesPerhaps n = GF n ⊎ (GG n ⊎ Begins g n)

  empty : (n : ℕ) → GF n → (b : Option B) (m : ℕ) → Optional G n b m → (m ≡ n) × GoesPerhaps n × AlwaysReads (optional g)
  empty n h None m k = (k, inl h, optional_reads isg takes)
  empty n h (Some b) m k = absurd (apart n h b m k)

  pub perhaps_longest : ReadsLongest len (least_f + 0) (F perhaps G) GoesPerhaps (f maybe g)
  perhaps_longest = then_open isf (optional_longest isg takes) GoesPerhaps (λ n h. inr h) empty

-- opening inside closing
module _ {A O C : Type 0} {len least : ℕ} (opening : ℕ → Option O) (opens : (n : ℕ) (a : O) → opening n ≡ Some a → n < len)
    (closing : ℕ → Option C) (closes : (n : ℕ) (a : C) → closing n ≡ Some a → n < len)
    {F : Form A} {GF : ℕ → Type 0} {f : Reader A} (is : ReadsLongest len least F GF f) (apart : (n : ℕ) → GF n → (c : C) → closing n ≡ Some c → ⊥) where
  pub between_longest : ReadsLongest len (1 + (least + 1)) (Between opening closing F) (λ _. ⊥) (between opening closing f)
  between_longest = built_longest (λ (parts : O × (A × C)). parts.1.0)
      (then_longest (terminal_longest len opening opens)
      (then_longest is (terminal_longest len closing closes) (λ n h c m k. apart n h c k.0))
      (λ n h b m k. absurd h))
