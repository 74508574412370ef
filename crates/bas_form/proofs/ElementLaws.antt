-- What stands at a place of a list.
use Rattle.std.proofs.Common.{◌≡◌, ℕ, ◌<◌, List, length, Option, Some, None, slice_get, refl}
use Rattle.std.proofs.lemmas.Option.{slice_get_within}
use Rattle.bas_form.specs.Element.{passing, element_at, StandsInside}

module _ {X A : Type 0} (test : X → Option A) (text : List X) where
  passing_inside : (at : ℕ) (o : Option X) (a : A) → slice_get text at ≡ o → passing test o ≡ Some a → at < length text
  passing_inside at None a eo e = absurd (cc)
  passing_inside at (Some x) a eo e = slice_get_within text at x eo

  pub element_inside : StandsInside (length text) (element_at test text)
  unfolding element_at
  element_inside at a e = passing_inside at (slice_get text at) a refl e

  -- the element at a place that is known
  pub element_is : (at : ℕ) (x : X) → slice_get text at ≡ Some x → element_at test text at ≡ test x
  unfolding element_at
  element_is at x e = rw e refl

  pub element_none : (at : ℕ) → slice_get text at ≡ None → element_at test text at ≡ None
  unfolding element_at
  element_none at e = rw e refl

  passing_from : (o : Option X) (a : A) → passing test o ≡ Some a → (x : X) × (o ≡ Some x) × (test x ≡ Some a)
  passing_from None a e = absurd (cc)
  passing_from (Some x) a e = (x, refl, e)

  -- which element passed the test
  pub element_from : (at : ℕ) (a : A) → element_at test text at ≡ Some a → (x : X) × (slice_get text at ≡ Some x) × (test x ≡ Some a)
  unfolding element_at
  element_from at a e = passing_from (slice_get text at) a e
