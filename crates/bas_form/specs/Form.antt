-- The forms of a grammar, each a relation between a place, what stands there and the place after it.
--
-- A text is a list of elements: bytes, tokens or lines. Places count its elements from 0. A form does not see the
-- text itself: an `element`, as `ℕ → Option A`, says what the text has at a place, where that is of use.
use Rattle.std.specs.Prelude.{◌≡◌, ℕ, ◌+◌, ◌⊎◌, List, [], ◌∷◌, Option, Some, None}

-- what a rule of a grammar says: from the first place on, the tree stands up to the second place
abbrev pub Form : Type 0 → Type 1
Form A = ℕ → A → ℕ → Type 0

-- one element
abbrev pub Terminal : {A : Type 0} → (ℕ → Option A) → Form A
Terminal element at a next = (element at ≡ Some a) × (next ≡ at + 1)

-- F G: one form and behind it another
infixr 5 ◌then◌
abbrev pub ◌then◌ : {A B : Type 0} → Form A → Form B → Form (A × B)
(F then G) at (a, b) next = (middle : ℕ) × F at a middle × G middle b next

-- [ F ]: a form or nothing
abbrev pub Optional : {A : Type 0} → Form A → Form (Option A)
Optional F at None next = next ≡ at
Optional F at (Some a) next = F at a next

-- { F }: a form any number of times
abbrev pub Repeated : {A : Type 0} → Form A → Form (List A)
Repeated F at [] next = next ≡ at
Repeated F at (a ∷ more) next = (middle : ℕ) × F at a middle × Repeated F middle more next

-- F | G: one of two forms
infixr 4 ◌or◌
abbrev pub ◌or◌ : {A : Type 0} → Form A → Form A → Form A
(F or G) at a next = F at a next ⊎ G at a next

-- the form that the element at the place chooses
abbrev pub Dispatched : {K A : Type 0} → (ℕ → Option K) → (K → Form A) → Form A
Dispatched {K = K} key F at a next = (k : K) × (key at ≡ Some k) × F k at a next

-- nothing, where the element does not stand
abbrev pub NotAhead : {A : Type 0} → (ℕ → Option A) → Form (Unit {0})
NotAhead element at u next = (element at ≡ None) × (next ≡ at)

-- a form whose tree is made of the parts
abbrev pub Built : {A B : Type 0} → (A → B) → Form A → Form B
Built {A = A} make F at b next = (a : A) × (b ≡ make a) × F at a next

-- F [ G ]
infixr 5 ◌perhaps◌
abbrev pub ◌perhaps◌ : {A B : Type 0} → Form A → Form B → Form (A × Option B)
F perhaps G = F then Optional G

-- F { G }
infixr 5 ◌repeating◌
abbrev pub ◌repeating◌ : {A B : Type 0} → Form A → Form B → Form (A × List B)
F repeating G = F then Repeated G

-- item { operator item }
abbrev pub Chain : {A O : Type 0} → (ℕ → Option O) → Form A → Form (A × List (O × A))
Chain operator Item = Item repeating (Terminal operator then Item)

-- opening inside closing
abbrev pub Between : {A O C : Type 0} → (ℕ → Option O) → (ℕ → Option C) → Form A → Form A
Between {A = A} {O = O} {C = C} opening closing Inside =
    Built (λ (parts : O × (A × C)). parts.1.0) (Terminal opening then Inside then Terminal closing)
