-- What fits is what the law says.
use Rattle.std.proofs.Common.{◌≡◌, ℕ, true, false, refl, ap, ◌∙◌}
use Rattle.std.specs.Prelude.{nat_eq}
use Rattle.std.proofs.lemmas.Bool.{and_parts, and_from, eqb-true, eq-eqb}
use Rattle.bas_dec.specs.Fixed.{Fixed}
use Rattle.bas_dec.specs.declared.types.NumType.{NumType}
use Rattle.bas_dec.specs.declared.types.NumType.TheVariants.{General, Fix}
use Rattle.bas_face.specs.declared.shape.Shape.{Shape}
use Rattle.bas_face.specs.declared.shape.Shape.TheVariants.{NumValue, StrValue, Num, Str, NumArray, StrArray, Channel}
use Rattle.bas_face.specs.Fits.{same_type, fits, is_value, FitsAsDescribed}

fixed_of : ℕ → ℕ → Fixed
fixed_of w p = record { whole = w; places = p }

fixed_equal : (t u : Fixed) → t.whole ≡ u.whole → t.places ≡ u.places → t ≡ u
unfolding fixed_of
fixed_equal t u e f = ap (λ w. fixed_of w t.places) e ∙ ap (fixed_of u.whole) f

types_equal : (t u : NumType) → same_type t u ≡ true → t ≡ u
types_equal General General e = refl
types_equal General (Fix u) e = cc
types_equal (Fix t) General e = cc
types_equal (Fix t) (Fix u) e =
    let p = and_parts (nat_eq t.whole u.whole) (nat_eq t.places u.places) e in
    ap Fix (fixed_equal t u (eqb-true t.whole u.whole p.0) (eqb-true t.places u.places p.1))

type_itself : (t : NumType) → same_type t t ≡ true
type_itself General = refl
type_itself (Fix t) = and_from _ _ (eq-eqb t.whole t.whole refl) (eq-eqb t.places t.places refl)

number : (formal : Shape) → fits NumValue formal ≡ true → (t : NumType) × (formal ≡ Num t)
number (Num t) e = (t, refl)
number NumValue e = cc
number StrValue e = cc
number (Str length) e = cc
number (NumArray t n) e = cc
number (StrArray length n) e = cc
number Channel e = cc

text : (formal : Shape) → fits StrValue formal ≡ true → (length : ℕ) × (formal ≡ Str length)
text (Str length) e = (length, refl)
text NumValue e = cc
text StrValue e = cc
text (Num t) e = cc
text (NumArray t n) e = cc
text (StrArray length n) e = cc
text Channel e = cc

equal : (shape : Shape) → is_value shape ≡ false → fits shape shape ≡ true
equal NumValue v = cc
equal StrValue v = cc
equal (Num t) v = type_itself t
equal (Str length) v = eq-eqb length length refl
equal (NumArray t n) v = and_from _ _ (type_itself t) (eq-eqb n n refl)
equal (StrArray length n) v = and_from _ _ (eq-eqb length length refl) (eq-eqb n n refl)
equal Channel v = refl

no_other : (actual formal : Shape) → is_value actual ≡ false → fits actual formal ≡ true → actual ≡ formal
no_other NumValue _ v e = cc
no_other StrValue _ v e = cc
no_other (Num t) (Num u) v e = ap Num (types_equal t u e)
no_other (Str length) (Str limit) v e = ap Str (eqb-true length limit e)
no_other (NumArray t n) (NumArray u m) v e =
    let p = and_parts (same_type t u) (nat_eq n m) e in
    ap (λ x. NumArray x n) (types_equal t u p.0) ∙ ap (NumArray u) (eqb-true n m p.1)
no_other (StrArray length n) (StrArray limit m) v e =
    let p = and_parts (nat_eq length limit) (nat_eq n m) e in
    ap (λ x. StrArray x n) (eqb-true length limit p.0) ∙ ap (StrArray limit) (eqb-true n m p.1)
no_other Channel Channel v e = refl
no_other (Num t) _ v e = cc
no_other (Str length) _ v e = cc
no_other (NumArray t n) _ v e = cc
no_other (StrArray length n) _ v e = cc
no_other Channel _ v e = cc

pub fits_as_described : FitsAsDescribed
fits_as_described = record { number = number; text = text; equal = equal; no_other = no_other }
