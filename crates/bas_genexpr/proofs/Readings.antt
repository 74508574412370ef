-- Sizes are taken off from the front.
use Rattle.std.proofs.Common.{◌≡◌, ℕ, List, ◌∷◌, subst}
use Rattle.bas_genexpr.specs.Sizes.{IsNext}

pub next_is : (old new xs : List ℕ) (n x : ℕ) → old ≡ x ∷ xs → IsNext old n new → (n ≡ x) × (new ≡ xs)
next_is old new xs n x e i = let P : List ℕ → Type 0 = λ l. IsNext l n new in subst P e i
