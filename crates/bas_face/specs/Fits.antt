-- Which arguments may be passed to which formals.
use Rattle.std.specs.Prelude.{◌≡◌, ℕ, Bool, true, false, ◌&&◌, nat_eq}
use Rattle.bas_dec.specs.declared.types.NumType.{NumType}
use Rattle.bas_dec.specs.declared.types.NumType.TheVariants.{General, Fix}
use Rattle.bas_face.specs.declared.shape.Shape.{Shape}
use Rattle.bas_face.specs.declared.shape.Shape.TheVariants.{NumValue, StrValue, Num, Str, NumArray, StrArray, Channel}

-- whether two numeric types have the same digits before and after the point
abbrev pub same_type : NumType → NumType → Bool
same_type General General = true
same_type (Fix t) (Fix u) = nat_eq t.whole u.whole && nat_eq t.places u.places
same_type _ _ = false

-- Fits: a value fits a scalar formal of its kind; by reference, type, length and dimensions are the
-- same; a channel fits a channel
abbrev pub fits : (actual formal : Shape) → Bool
fits NumValue (Num t) = true
fits StrValue (Str length) = true
fits (Num t) (Num u) = same_type t u
fits (Str length) (Str limit) = nat_eq length limit
fits (NumArray t n) (NumArray u m) = same_type t u && nat_eq n m
fits (StrArray length n) (StrArray limit m) = nat_eq length limit && nat_eq n m
fits Channel Channel = true
fits _ _ = false

-- whether an argument is passed by value
abbrev pub is_value : Shape → Bool
is_value NumValue = true
is_value StrValue = true
is_value _ = false

-- what fits, in words: a value fits scalars of its kind alone, any other argument fits its equal and nothing else
pub record FitsAsDescribed : Type 0 where
  pub number : (formal : Shape) → fits NumValue formal ≡ true → (t : NumType) × (formal ≡ Num t)
  pub text : (formal : Shape) → fits StrValue formal ≡ true → (length : ℕ) × (formal ≡ Str length)
  pub equal : (shape : Shape) → is_value shape ≡ false → fits shape shape ≡ true
  pub no_other : (actual formal : Shape) → is_value actual ≡ false → fits actual formal ≡ true → actual ≡ formal
