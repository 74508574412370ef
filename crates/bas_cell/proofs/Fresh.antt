-- Values that are not set.
use Rattle.std.proofs.Common.{◌≡◌, ◌<◌, ℕ, zero, suc, pos, List, [], ◌∷◌, map, replicate, slice_set, Some, refl, ap, ◌∙◌, arith}
use Rattle.bas_dec.specs.Number.{Number, low, stripped}
use Rattle.bas_cell.specs.Live.{value_in}
use Rattle.bas_fileval.specs.Kind as kind
use Rattle.bas_fileval.specs.Value as value

map_same : {X Y : Type 0} (f : X → Y) (n : ℕ) (x : X) → map f (replicate n x) ≡ replicate n (f x)
map_same f zero x = refl
map_same f (suc n) x = ap (λ ys. f x ∷ ys) (map_same f n x)

pub texts_unset : (made : List (List ℕ)) (count : ℕ) → made ≡ replicate count [] → map value.Text made ≡ replicate count (value.unset kind.Text)
texts_unset made count e = ap (map value.Text) e ∙ map_same value.Text count []

pub zero_low : low (pos 0) 0 ≡ Some (record { coefficient = pos 0; scale = 0 })
unfolding low stripped
zero_low = refl

pub numbers_unset : (made : List Number) (count : ℕ) → made ≡ replicate count (record { coefficient = pos 0; scale = 0 }) → map value.Num made ≡ replicate count (value.unset kind.Number)
numbers_unset made count e = ap (map value.Num) e ∙ map_same value.Num count (record { coefficient = pos 0; scale = 0 })

-- the one value of a scalar
pub only_value : (v : value.Value) (at : ℕ) → at < 1 → value_in (v ∷ []) at ≡ v
only_value v zero h = refl
only_value v (suc at) h = absurd (omega arith)

pub only_put : (v w : value.Value) (at : ℕ) → at < 1 → slice_set (v ∷ []) at w ≡ w ∷ []
only_put v w zero h = refl
only_put v w (suc at) h = absurd (omega arith)
