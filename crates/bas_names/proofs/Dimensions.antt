-- An array has dimensions.
use Rattle.std.proofs.Common.{◌≡◌, ℕ, zero, suc, refl}
use Rattle.bas_dec.specs.declared.types.NumType.{NumType}
use Rattle.bas_face.specs.declared.shape.Shape.TheVariants as shape
use Rattle.bas_scope.specs.Shapes.{number_shape, text_shape}

pub number_array : (type : NumType) (dimensions : ℕ) → (dimensions ≡ 0 → ⊥) → shape.NumArray type dimensions ≡ number_shape type dimensions
number_array type zero h = absurd (h refl)
number_array type (suc n) h = refl

pub text_array : (length dimensions : ℕ) → (dimensions ≡ 0 → ⊥) → shape.StrArray length dimensions ≡ text_shape length dimensions
text_array length zero h = absurd (h refl)
text_array length (suc n) h = refl
