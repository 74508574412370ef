-- What a text, a list of bytes, tokens or lines, has at a place.
use Rattle.std.specs.Prelude.{◌≡◌, ℕ, ◌<◌, List, Option, Some, None, slice_get}

-- the element at the place, where it passes the test
abbrev pub passing : {X A : Type 0} → (X → Option A) → Option X → Option A
passing test None = None
passing test (Some x) = test x

unfoldable pub element_at : {X A : Type 0} → (X → Option A) → List X → ℕ → Option A
element_at test text at = passing test (slice_get text at)

-- what stands at a place stands inside the text
abbrev pub StandsInside : {A : Type 0} → ℕ → (ℕ → Option A) → Type 0
StandsInside {A = A} len element = (n : ℕ) (a : A) → element n ≡ Some a → n < len
