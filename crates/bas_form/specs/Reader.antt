-- A reader for each form: a function that answers what stands at a place, and the place after it.
use Rattle.std.specs.Prelude.{◌≡◌, ℕ, zero, suc, ◌+◌, ◌-◌, ◌<◌, ◌≤◌, ◌⊎◌, List, [], ◌∷◌, ◌++◌, Option, Some, None, IsSome, option_and_then}
use Rattle.bas_form.specs.Form.{Form}

abbrev pub Reader : Type 0 → Type 0
Reader A = ℕ → Option (A × ℕ)

infixl 10 ◌>>=◌
abbrev pub ◌>>=◌ : {A B : Type 0} → Option A → (A → Option B) → Option B
o >>= f = option_and_then f o

unfoldable pub terminal : {A : Type 0} → (ℕ → Option A) → Reader A
terminal element at = do
  a ← element at
  Some (a, at + 1)

unfoldable pub both : {A B : Type 0} → Reader A → Reader B → Reader (A × B)
both f g at = do
  a ← f at
  b ← g a.1
  Some ((a.0, b.0), b.1)

infixr 5 ◌followed_by◌
abbrev pub ◌followed_by◌ : {A B : Type 0} → Reader A → Reader B → Reader (A × B)
f followed_by g = both f g

abbrev pub optional_at : {A : Type 0} → ℕ → Option (A × ℕ) → Option A × ℕ
optional_at at None = (None, at)
optional_at at (Some found) = (Some found.0, found.1)

-- always reads
unfoldable pub optional : {A : Type 0} → Reader A → Reader (Option A)
optional f at = Some (optional_at at (f at))

abbrev pub repeated_on : {A : Type 0} → (ℕ → List A × ℕ) → ℕ → Option (A × ℕ) → List A × ℕ
repeated_on more at None = ([], at)
repeated_on more at (Some found) = (found.0 ∷ (more found.1).0, (more found.1).1)

-- at most so many turns
unfoldable pub repeated_by : {A : Type 0} → Reader A → ℕ → ℕ → List A × ℕ
repeated_by f zero at = ([], at)
repeated_by f (suc turns) at = repeated_on (repeated_by f turns) at (f at)

-- As many turns as there are elements left are enough, since each turn takes one.
abbrev pub all_from : {A : Type 0} → Reader A → ℕ → ℕ → List A × ℕ
all_from f len at = repeated_by f (len - at) at

-- always reads
unfoldable pub repeated : {A : Type 0} → Reader A → ℕ → Reader (List A)
repeated f len at = Some (all_from f len at)

abbrev pub first_of : {A : Type 0} → Option A → Option A → Option A
first_of (Some a) o = Some a
first_of None o = o

unfoldable pub either : {A : Type 0} → Reader A → Reader A → Reader A
either f g at = first_of (f at) (g at)

unfoldable pub dispatched : {K A : Type 0} → (ℕ → Option K) → (K → Reader A) → Reader A
dispatched key f at = do
  k ← key at
  f k at

abbrev pub not_ahead_at : {A : Type 0} → ℕ → Option A → Option (Unit {0} × ℕ)
not_ahead_at at None = Some (tt, at)
not_ahead_at at (Some a) = None

unfoldable pub not_ahead : {A : Type 0} → (ℕ → Option A) → Reader (Unit {0})
not_ahead element at = not_ahead_at at (element at)

unfoldable pub built : {A B : Type 0} → (A → B) → Reader A → Reader B
built make f at = do
  a ← f at
  Some (make a.0, a.1)

infixr 5 ◌maybe◌
abbrev pub ◌maybe◌ : {A B : Type 0} → Reader A → Reader B → Reader (A × Option B)
f maybe g = f followed_by optional g

abbrev pub chain : {A O : Type 0} → (ℕ → Option O) → Reader A → ℕ → Reader (A × List (O × A))
chain operator item len = item followed_by repeated (terminal operator followed_by item) len

abbrev pub between : {A O C : Type 0} → (ℕ → Option O) → (ℕ → Option C) → Reader A → Reader A
between {A = A} {O = O} {C = C} opening closing inside =
    built (λ (parts : O × (A × C)). parts.1.0) (terminal opening followed_by inside followed_by terminal closing)

-- a loop's part of a repetition: what it has read, and what is left from the place that it has reached
abbrev pub IsAsFar : {A : Type 0} → Reader A → ℕ → ℕ → List A → ℕ → Type 0
IsAsFar f len from front at = all_from f len from ≡ (front ++ (all_from f len at).0, (all_from f len at).1)

-- The reader takes the longest form at each place, in a text of `len` elements. Each form takes at least `least`
-- elements. A form ends before what the reader takes only at a place of which `GoesOn` holds.
pub record ReadsLongest {A : Type 0} (len least : ℕ) (F : Form A) (GoesOn : ℕ → Type 0) (f : Reader A) : Type 0 where
  pub sound : (at : ℕ) (a : A) (next : ℕ) → f at ≡ Some (a, next) → F at a next
  pub grows : (at : ℕ) (a : A) (next : ℕ) → F at a next → at + least ≤ next
  pub within : (at : ℕ) (a : A) (next : ℕ) → F at a next → at < next → next ≤ len
  pub longest : (at : ℕ) (a : A) (next : ℕ) → F at a next →
      (f at ≡ Some (a, next)) ⊎ (GoesOn next × (found : A × ℕ) × (f at ≡ Some found) × (next < found.1))

-- where what was read ends
abbrev pub end_of : {A : Type 0} → Option (A × ℕ) → Option ℕ
end_of None = None
end_of (Some found) = Some found.1

-- the places at which a reader reads something
abbrev pub Begins : {A : Type 0} → Reader A → ℕ → Type 0
Begins f n = IsSome (f n)

-- a reader that reads something at each place
abbrev pub AlwaysReads : {A : Type 0} → Reader A → Type 0
AlwaysReads {A = A} f = (n : ℕ) → (found : A × ℕ) × (f n ≡ Some found)
