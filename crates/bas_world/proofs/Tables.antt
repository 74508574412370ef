-- A map from names to bytes, as the finite map of its entries.
use Rattle.std.proofs.Common.{◌≡◌, ℕ, Bool, cond, List, [], ◌∷◌, Option, Some, None, Result, Ok, Err, refl, ap, sym, ◌∙◌, subst}
use Rattle.std.specs.Ordering.{nat_cmp, eq_by_cmp}
use Rattle.std.specs.Cmp.{eq_by_cmp_equiv}
use Rattle.std.specs.Cmp.Lexicographic.{slice_cmp, nat_list_cmp_total}
use Rattle.std.specs.BTreeMap.{is_at}
use Rattle.bas_world.specs.Files.{Files, bytes_at}
use Rattle.std.specs.Option.{unwrap_or, IsSome}
use Rattle.std.specs.Result.{OnErr}
use Rattle.std.proofs.lemmas.Map.Steps.{set_value_same}
use Rattle.std.specs.Map.{lookup, set_value}
use Rattle.std.proofs.lemmas.Bool.{false≢true}
use Rattle.std.specs.FinMap.{FinMap, get, insert, remove, find, from_entries, get-from_entries, get-insert, get-remove, same_map, slice_cmp-IsAntisymmetric, nat_cmp-IsAntisymmetric}

-- the entries of a table, and its order
abbrev pub Entries : Type 0
Entries = List (List ℕ × List ℕ)

abbrev pub name_cmp : List ℕ → List ℕ → Rattle.std.specs.declared.cmp.Ordering.Ordering
name_cmp = slice_cmp nat_cmp

abbrev pub at_name : List ℕ → List ℕ → Bool
at_name name = is_at (name_cmp name)

pub find-lookup : (name : List ℕ) (es : Entries) → find name_cmp name es ≡ lookup (at_name name) es
find-lookup name [] = refl
find-lookup name (e ∷ es) = ap (cond (at_name name e.0) (Some e.1)) (find-lookup name es)

-- what a table has under a name
pub get-table : (es : Entries) (name : List ℕ) → get (from_entries {R = name_cmp} es) name ≡ lookup (at_name name) es
get-table es name = get-from_entries nat_list_cmp_total es name ∙ find-lookup name es

-- a table that has the bytes under the name, and else what the old one had
pub insert-table : (old new : Entries) (name bytes : List ℕ)
    → ((q : List ℕ) → lookup (at_name q) new ≡ cond (at_name name q) (Some bytes) (lookup (at_name q) old))
    → from_entries {R = name_cmp} new ≡ insert (from_entries old) name bytes
insert-table old new name bytes updates =
    same_map nat_list_cmp_total (slice_cmp-IsAntisymmetric nat_cmp-IsAntisymmetric) _ _
    (λ q. get-table new q ∙ updates q
    ∙ ap (λ (b : Bool). cond b (Some bytes) (lookup (at_name q) old)) ((eq_by_cmp_equiv nat_list_cmp_total).symm name q)
    ∙ ap (cond (at_name q name) (Some bytes)) (sym (get-table old q))
    ∙ sym (get-insert nat_list_cmp_total (from_entries old) name bytes q))

-- a table that has nothing under the name, and else what the old one had
pub remove-table : (old new : Entries) (name : List ℕ)
    → ((q : List ℕ) → lookup (at_name q) new ≡ cond (at_name name q) None (lookup (at_name q) old))
    → from_entries {R = name_cmp} new ≡ remove (from_entries old) name
remove-table old new name updates =
    same_map nat_list_cmp_total (slice_cmp-IsAntisymmetric nat_cmp-IsAntisymmetric) _ _
    (λ q. get-table new q ∙ updates q
    ∙ ap (λ (b : Bool). cond b None (lookup (at_name q) old)) ((eq_by_cmp_equiv nat_list_cmp_total).symm name q)
    ∙ ap (cond (at_name q name) None) (sym (get-table old q))
    ∙ sym (get-remove nat_list_cmp_total (from_entries old) name q))

-- a table that has a file under a name cannot be without it
pub there-table : (es : Entries) (name : List ℕ) (files : Files) → from_entries es ≡ files → IsSome (get files name) → None ≡ lookup (at_name name) es → ⊥
there-table es name files is there absent =
    let nothing : None ≡ get files name = absent ∙ sym (get-table es name) ∙ ap (λ (m : Files). get m name) is in
    false≢true (subst IsSome (sym nothing) there)

-- a table whose file under the name was changed by f, and else what the old one had
pub changed-table : (f : List ℕ → List ℕ) (old new : Entries) (name file bytes : List ℕ) (files : Files)
    → from_entries old ≡ files → Some file ≡ lookup (at_name name) old
    → ((q : List ℕ) → lookup (at_name q) new ≡ cond (at_name name q) (Some bytes) (lookup (at_name q) old))
    → bytes ≡ f file
    → from_entries {R = name_cmp} new ≡ insert files name (f (bytes_at files name))
changed-table f old new name file bytes files is found updates changed =
    let held : file ≡ bytes_at (from_entries old) name = ap (λ (o : Option (List ℕ)). unwrap_or o []) (found ∙ sym (get-table old name)) in
    insert-table old new name bytes updates
    ∙ ap (insert (from_entries old) name) (changed ∙ ap f held)
    ∙ ap (λ (m : Files). insert m name (f (bytes_at m name))) is

-- a table into which the file that it held was written back
pub unchanged-table : (old new : Entries) (name file bytes : List ℕ) (files : Files)
    → from_entries old ≡ files → Some file ≡ lookup (at_name name) old → new ≡ set_value (at_name name) old bytes → bytes ≡ file
    → from_entries {R = name_cmp} new ≡ files
unchanged-table old new name file bytes files is found written same =
    let stays : new ≡ old = written ∙ ap (set_value (at_name name) old) same ∙ set_value_same (at_name name) old file (sym found) in
    ap (from_entries {R = name_cmp}) stays ∙ is

-- what holds anyway holds on an error
pub OnErr-always : {T E P : Type 0} (r : Result T E) → P → OnErr r P
OnErr-always (Ok x) p = tt
OnErr-always (Err e) p = p
