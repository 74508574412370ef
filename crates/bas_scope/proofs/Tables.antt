-- What is found in tables that are joined.
use Rattle.std.proofs.Common.{◌≡◌, Bool, true, false, List, [], ◌∷◌, ◌++◌, Option, Some, None, cond, refl}
use Rattle.std.specs.Option.{option_map, option_or}
use Rattle.std.specs.Map.{lookup}

-- the first table goes before the second
pub lookup_joined : {K X : Type 0} (test : K → Bool) (es fs : List (K × X)) → lookup test (es ++ fs) ≡ option_or (lookup test es) (lookup test fs)
lookup_joined test [] fs = refl
lookup_joined test (e ∷ es) fs = by_test (test e.0) (lookup_joined test es fs)
  where
    by_test : (t : Bool) → lookup test (es ++ fs) ≡ option_or (lookup test es) (lookup test fs)
        → cond t (Some e.1) (lookup test (es ++ fs)) ≡ option_or (cond t (Some e.1) (lookup test es)) (lookup test fs)
    by_test true ih = refl
    by_test false ih = ih

-- what is made of the first that is there
pub option_map-or : {X Y : Type 0} (f : X → Y) (a b : Option X) → option_map f (option_or a b) ≡ option_or (option_map f a) (option_map f b)
option_map-or f None b = refl
option_map-or f (Some x) b = refl
