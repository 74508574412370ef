-- The supplied functions are looked up in three parts of their list.
use Rattle.std.proofs.Common.{◌≡◌, ℕ, List, ◌++◌, take, drop, Option, Some, None, refl, sym}
use Rattle.std.specs.Option.{option_map, option_or}
use Rattle.std.specs.Map.{lookup}
use Rattle.std.specs.Str.{bytes_eq}
use Rattle.bas_scope.specs.declared.supplied.Forms.{Forms as Told}
use Rattle.bas_scope.specs.Supplied.{supplied, forms_of, forms_told}
use Rattle.bas_scope.proofs.Tables.{lookup_joined}

-- the supplied functions in three parts
pub supplied_parts : (name : List ℕ) → option_or (lookup (bytes_eq name) (take 10 supplied)) (option_or (lookup (bytes_eq name) (take 10 (drop 10 supplied))) (lookup (bytes_eq name) (drop 20 supplied))) ≡ forms_of name
supplied_parts name = rw (sym (lookup_joined (bytes_eq name) (take 10 (drop 10 supplied)) (drop 20 supplied))) (sym (lookup_joined (bytes_eq name) (take 10 supplied) (take 10 (drop 10 supplied) ++ drop 20 supplied)))

-- the first of three answers
pub of_three : (name : List ℕ) (a b c : Option Told)
    → option_map forms_told a ≡ lookup (bytes_eq name) (take 10 supplied)
    → option_map forms_told b ≡ lookup (bytes_eq name) (take 10 (drop 10 supplied))
    → option_map forms_told c ≡ lookup (bytes_eq name) (drop 20 supplied)
    → option_map forms_told (option_or (option_or a b) c) ≡ forms_of name
of_three name None None c ha hb hc = rw (sym (supplied_parts name)) (rw (sym ha) (rw (sym hb) hc))
of_three name None (Some b) c ha hb hc = rw (sym (supplied_parts name)) (rw (sym ha) (rw (sym hb) refl))
of_three name (Some a) b c ha hb hc = rw (sym (supplied_parts name)) (rw (sym ha) refl)
