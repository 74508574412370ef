-- Two forms that begin at one place, of which the one ends before the other.
use Rattle.std.proofs.Common.{◌≡◌, ℕ, ◌<◌, ◌≤◌, ◌+◌, inl, inr, Option, Some, None, refl, ◌∙◌}
use Rattle.bas_form.specs.Form.{Form, ◌or◌}
use Rattle.bas_form.specs.Reader.{Reader, either, ReadsLongest}
use Rattle.bas_form.proofs.ReaderLaws.{IsBest}

module _ {A : Type 0} {len least : ℕ} {F : Form A} {GF : ℕ → Type 0} {f : Reader A} (isf : ReadsLongest len least F GF f)
    {G : Form A} {GG : ℕ → Type 0} {g : Reader A} (isg : ReadsLongest len least G GG g)
    (GoesOn : ℕ → Type 0) (more_f : (n : ℕ) → GF n → GoesOn n) (more_g : (n : ℕ) → GG n → GoesOn n)
    (earlier : (n : ℕ) (a : A) (k : ℕ) → F n a k → (b : A) (m : ℕ) → G n b m → GoesOn k × (k < m)) where
  longer_of : (at : ℕ) (b : A × ℕ) → g at ≡ Some b → either g f at ≡ Some b
  unfolding either
  longer_of at b e = rw e refl

  shorter_of : (at : ℕ) (a : A × ℕ) → g at ≡ None → f at ≡ Some a → either g f at ≡ Some a
  unfolding either
  shorter_of at a eg e = rw (eg, e) refl

  over_sound : (at : ℕ) (o : Option (A × ℕ)) (r : A × ℕ) → g at ≡ o → either g f at ≡ Some r → (F or G) at r.0 r.1
  unfolding either
  over_sound at None r eo e = inl (isf.sound at r.0 r.1 (let h = rw eo at e in h))
  over_sound at (Some b) r eo e = inr (isg.sound at r.0 r.1 (eo ∙ (let h = rw eo at e in h)))

  over_grows : (at : ℕ) (a : A) (next : ℕ) → (F or G) at a next → at + least ≤ next
  over_grows at a next (inl h) = isf.grows at a next h
  over_grows at a next (inr h) = isg.grows at a next h

  over_within : (at : ℕ) (a : A) (next : ℕ) → (F or G) at a next → at < next → next ≤ len
  over_within at a next (inl h) = isf.within at a next h
  over_within at a next (inr h) = isg.within at a next h

  shorter_best : (at : ℕ) (o : Option (A × ℕ)) (a : A) (next : ℕ) → g at ≡ o → F at a next → IsBest (either g f) GoesOn at a next
  shorter_best at None a next eo h = elim (isf.longest at a next h) as (λ _. IsBest (either g f) GoesOn at a next) [
    | inl d ↦ inl (shorter_of at (a, next) eo d)
    | inr d ↦ inr (more_f next d.0, d.1, shorter_of at d.1 eo d.2, d.3)
  ]
  shorter_best at (Some b) a next eo h =
      let e = earlier at a next h b.0 b.1 (isg.sound at b.0 b.1 eo) in
      inr (e.0, b, longer_of at b eo, e.1)

  over_best : (at : ℕ) (a : A) (next : ℕ) → (F or G) at a next → IsBest (either g f) GoesOn at a next
  over_best at a next (inl h) = shorter_best at (g at) a next refl h
  over_best at a next (inr h) = elim (isg.longest at a next h) as (λ _. IsBest (either g f) GoesOn at a next) [
    | inl d ↦ inl (longer_of at (a, next) d)
    | inr d ↦ inr (more_g next d.0, d.1, longer_of at d.1 d.2, d.3)
  ]

  pub over_longest : ReadsLongest len least (F or G) GoesOn (either g f)
  over_longest = record { sound = λ at a next e. over_sound at (g at) (a, next) refl e; grows = over_grows; within = over_within; longest = over_best }
