-- The numbers of DATA lines, line by line.
use Rattle.std.proofs.Common.{◌≡◌, ℕ, nat_eq, Bool, true, false, ◌&&◌, ◌||◌, List, [], ◌∷◌, ◌++◌, Option, Some, None, is_some, refl, sym, ap, ◌∙◌}
use Rattle.std.specs.List.{list_any}
use Rattle.std.specs.Option.{option_map_or}
use Rattle.std.specs.Ordering.{nat_cmp}
use Rattle.std.specs.BTreeSet.{BTreeSet, IsEmpty, contains}
use Rattle.std.specs.BTreeMap.{is_at}
use Rattle.std.proofs.lemmas.List.Folds.{list_any-append}
use Rattle.std.proofs.lemmas.List.Elements.{filter_map-append}
use Rattle.bas_ast.specs.Tree as t
use Rattle.bas_scope.specs.Bodies.{data_on}
use Rattle.bas_place.specs.Data.{data_among, HasData}

or_false : (b : Bool) → (b || false) ≡ b
or_false true = refl
or_false false = refl

turned : (a b : Bool) → (a || b) ≡ (b || a)
turned true true = refl
turned true false = refl
turned false true = refl
turned false false = refl

abbrev listed : ℕ → List t.NumLine → Bool
listed l lines = list_any (λ d. nat_eq l d.0) (data_among lines)

-- a line alone
one : (l : ℕ) (x : t.NumLine) (b : Bool) → is_some (data_on x.item) ≡ b → listed l (x ∷ []) ≡ (b && nat_eq l x.line)
one l x b e = by (data_on x.item) refl b e
  where
    by : (o : Option (List t.Datum)) → data_on x.item ≡ o → (b : Bool) → is_some (data_on x.item) ≡ b → listed l (x ∷ []) ≡ (b && nat_eq l x.line)
    by None at true e = let bad : false ≡ true = sym (ap is_some at) ∙ e in absurd (cc)
    by None at false e = rw at refl
    by (Some d) at true e = rw at (or_false (nat_eq l x.line))
    by (Some d) at false e = let bad : true ≡ false = sym (ap is_some at) ∙ e in absurd (cc)

both : (l : ℕ) (lines : List t.NumLine) (x : t.NumLine) → listed l (lines ++ x ∷ []) ≡ (listed l lines || listed l (x ∷ []))
both l lines x =
    ap (list_any (λ d. nat_eq l d.0)) (filter_map-append (λ (line : t.NumLine). option_map_or (λ datums. Some (line.line, datums)) (data_on line.item) None) lines (x ∷ []))
    ∙ list_any-append (λ d. nat_eq l d.0) (data_among lines) (data_among (x ∷ []))

-- no lines
pub no_data : (set : BTreeSet ℕ) → IsEmpty set → HasData set []
no_data set none = record { has = λ l. ap (λ ks. list_any (is_at (nat_cmp l)) ks) none }

-- one more DATA line
pub data_put : (old new : BTreeSet ℕ) (lines : List t.NumLine) (x : t.NumLine) → is_some (data_on x.item) ≡ true
    → ((l : ℕ) → contains nat_cmp new l ≡ (nat_eq l x.line || contains nat_cmp old l)) → HasData old lines → HasData new (lines ++ x ∷ [])
data_put old new lines x is more h = record {
  has = λ l.
      more l
      ∙ (ap (λ b. nat_eq l x.line || b) (h.has l)
      ∙ (turned (nat_eq l x.line) (listed l lines)
      ∙ (ap (λ b. listed l lines || b) (sym (one l x true is))
      ∙ sym (both l lines x))));
}

-- one more line of another kind
pub data_kept : (set : BTreeSet ℕ) (lines : List t.NumLine) (x : t.NumLine) → is_some (data_on x.item) ≡ false → HasData set lines → HasData set (lines ++ x ∷ [])
data_kept set lines x is h = record {
  has = λ l. h.has l ∙ (sym (or_false (listed l lines)) ∙ (ap (λ b. listed l lines || b) (sym (one l x false is)) ∙ sym (both l lines x)));
}
