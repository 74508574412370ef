-- Maps and sets by name, with one more name.
use Rattle.std.proofs.Common.{◌≡◌, ℕ, Bool, true, false, ◌||◌, List, ◌∷◌, Some, cond, refl, sym, ap, ◌∙◌}
use Rattle.std.specs.Prelude.{bytes_eq}
use Rattle.std.specs.Ordering.{nat_cmp}
use Rattle.std.specs.Cmp.Lexicographic.{slice_cmp}
use Rattle.std.proofs.lemmas.Map.Text.{is_eq-slice_cmp}
use Rattle.std.specs.BTreeMap.{BTreeMap, get, is_at, Updates}
use Rattle.std.specs.BTreeSet.{BTreeSet, contains}
use Rattle.bas_names.proofs.Putting.{turned}
use Rattle.bas_rules.specs.Naming.{is_among}
use Rattle.bas_claim.specs.Sets.{HasNames}

pub put_at : {X : Type 0} (old new : BTreeMap (List ℕ) X) (name : List ℕ) (value : X) → Updates (slice_cmp nat_cmp) old new name (Some value) → (other : List ℕ)
    → get (slice_cmp nat_cmp) new other ≡ cond (bytes_eq other name) (Some value) (get (slice_cmp nat_cmp) old other)
put_at old new name value u other = u.0 other ∙ ap (λ b. cond b (Some value) (get (slice_cmp nat_cmp) old other)) (is_eq-slice_cmp name other ∙ turned name other)

either : (b c : Bool) → cond b true c ≡ (b || c)
either true c = refl
either false c = refl

-- a set with one more name
pub set_with : (old new : BTreeSet (List ℕ)) (name : List ℕ) (others : List (List ℕ)) → HasNames old others
    → ((q : List ℕ) → contains (slice_cmp nat_cmp) new q ≡ cond (is_at (slice_cmp nat_cmp name) q) true (contains (slice_cmp nat_cmp) old q)) → HasNames new (name ∷ others)
set_with old new name others h u = record {
  has = λ q. u q ∙ rw (is_eq-slice_cmp name q ∙ turned name q, h.has q) (either (bytes_eq q name) (is_among q others));
}
