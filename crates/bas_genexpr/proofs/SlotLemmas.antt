-- A name that gets the next slot.
use Rattle.std.proofs.Common.{◌≡◌, ℕ, suc, Bool, true, false, List, [], ◌∷◌, ◌++◌, length, Option, Some, None, cond, refl, sym, ap, ◌∙◌, arith, is_some, length-append}
use Rattle.std.specs.Prelude.{bytes_eq}
use Rattle.std.specs.Ordering.{nat_cmp, is_eq}
use Rattle.std.specs.Cmp.Lexicographic.{slice_cmp, same_text, other_text}
use Rattle.std.proofs.lemmas.Map.Text.{is_eq-slice_cmp}
use Rattle.std.specs.BTreeMap.{BTreeMap, get, Updates}
use Rattle.bas_mean.specs.World.{OfName}
use Rattle.bas_carry.specs.Slots.{index_if, index_of, with_variable, with_variables}
use Rattle.bas_carry.proofs.Parts.{one_variable}
use Rattle.bas_genexpr.specs.Numbering.{variables}

pub count_of : (names : List (List ℕ)) → length (variables names) ≡ length names
count_of [] = refl
count_of (x ∷ xs) = ap suc (count_of xs)

-- a name that has a slot adds nothing
pub present : (names : List (List ℕ)) (name : List ℕ) → is_some (index_of (variables names) (OfName name)) ≡ true → variables names ≡ with_variables (variables names) (OfName name ∷ [])
present names name h = by (index_of (variables names) (OfName name)) h ∙ sym (one_variable (OfName name) (variables names))
  where
    by : (o : Option ℕ) → is_some o ≡ true → variables names ≡ with_variable o (variables names) (OfName name)
    by None e = let bad : false ≡ true = e in absurd cc
    by (Some k) e = refl

-- a name that has none
pub is_absent : (o : Option ℕ) → is_some o ≡ false → o ≡ None
is_absent None e = refl
is_absent (Some k) e = let bad : true ≡ false = e in absurd cc

pub behind : (names : List (List ℕ)) (name : List ℕ) → variables (names ++ name ∷ []) ≡ variables names ++ OfName name ∷ []
behind [] name = refl
behind (x ∷ xs) name = ap (λ l. OfName x ∷ l) (behind xs name)

-- stands behind the others
pub absent : (names : List (List ℕ)) (name : List ℕ) → index_of (variables names) (OfName name) ≡ None → variables (names ++ name ∷ []) ≡ with_variables (variables names) (OfName name ∷ [])
absent names name e = behind names name ∙ sym (one_variable (OfName name) (variables names) ∙ ap (λ o. with_variable o (variables names) (OfName name)) e)

pub one_more : (names : List (List ℕ)) (name : List ℕ) → index_of (variables names) (OfName name) ≡ None → length (with_variables (variables names) (OfName name ∷ [])) ≡ suc (length names)
one_more names name e =
    let l = ap length (sym (absent names name e)) ∙ count_of (names ++ name ∷ []) ∙ length-append names (name ∷ []) in
    omega (arith, l)

bytes_itself : (t : List ℕ) (b : Bool) → bytes_eq t t ≡ b → bytes_eq t t ≡ true
bytes_itself t true e = e
bytes_itself t false e = absurd (other_text t t (sym e) refl)

last_index : (names : List (List ℕ)) (name : List ℕ) → index_of (variables names) (OfName name) ≡ None → index_of (variables (names ++ name ∷ [])) (OfName name) ≡ Some (length names)
last_index [] name e = ap (λ b. index_if b None) (bytes_itself name (bytes_eq name name) refl)
last_index (z ∷ names) name e = by (λ q. last_index names name q) (bytes_eq name z) (index_of (variables names) (OfName name)) refl e
  where
    by : (index_of (variables names) (OfName name) ≡ None → index_of (variables (names ++ name ∷ [])) (OfName name) ≡ Some (length names)) → (b : Bool) (o : Option ℕ) → index_of (variables names) (OfName name) ≡ o → index_if b o ≡ None → index_if b (index_of (variables (names ++ name ∷ [])) (OfName name)) ≡ Some (suc (length names))
    by h true o q f = let bad : Some 0 ≡ None = f in absurd cc
    by h false None q f = ap (index_if false) (h q)
    by h false (Some k) q f = let bad : Some (suc k) ≡ None = f in absurd cc

other_index : (names : List (List ℕ)) (name q : List ℕ) → bytes_eq q name ≡ false → index_of (variables (names ++ name ∷ [])) (OfName q) ≡ index_of (variables names) (OfName q)
other_index [] name q e = ap (λ b. index_if b None) e
other_index (z ∷ names) name q e = ap (index_if (bytes_eq q z)) (other_index names name q e)

-- the index of each name when one more has the last slot
pub indexed : (names : List (List ℕ)) (name q : List ℕ) → index_of (variables names) (OfName name) ≡ None → cond (is_eq (slice_cmp nat_cmp name q)) (Some (length names)) (index_of (variables names) (OfName q)) ≡ index_of (variables (names ++ name ∷ [])) (OfName q)
indexed names name q e = ap (λ b. cond b (Some (length names)) (index_of (variables names) (OfName q))) (is_eq-slice_cmp name q) ∙ by (bytes_eq name q) refl
  where
    by : (b : Bool) → bytes_eq name q ≡ b → cond b (Some (length names)) (index_of (variables names) (OfName q)) ≡ index_of (variables (names ++ name ∷ [])) (OfName q)
    by true p = sym (ap (λ x. index_of (variables (names ++ name ∷ [])) (OfName x)) (sym (same_text name q (sym p))) ∙ last_index names name e)
    by false p = sym (other_index names name q (turned (bytes_eq q name) refl))
      where
        turned : (c : Bool) → bytes_eq q name ≡ c → bytes_eq q name ≡ false
        turned false r = r
        turned true r = absurd (other_text name q (sym p) (sym (same_text q name (sym r))))

-- what the map answers after the insertion
pub inserted : (names : List (List ℕ)) (name : List ℕ) (old new : BTreeMap (List ℕ) ℕ) (n : ℕ) → n ≡ length names → index_of (variables names) (OfName name) ≡ None → ((q : List ℕ) → get (slice_cmp nat_cmp) old q ≡ index_of (variables names) (OfName q)) → Updates (slice_cmp nat_cmp) old new name (Some n) → (q : List ℕ) → get (slice_cmp nat_cmp) new q ≡ index_of (variables (names ++ name ∷ [])) (OfName q)
inserted names name old new n same e held u q =
    u.0 q
    ∙ ap (cond (is_eq (slice_cmp nat_cmp name q)) (Some n)) (held q)
    ∙ ap (λ k. cond (is_eq (slice_cmp nat_cmp name q)) (Some k) (index_of (variables names) (OfName q))) same
    ∙ indexed names name q e

-- the fields hold that, and the slots are those of the text with the name
pub grown : (names inner pushed : List (List ℕ)) (name : List ℕ) → inner ≡ names → index_of (variables names) (OfName name) ≡ None → pushed ≡ inner ++ name ∷ [] → variables pushed ≡ with_variables (variables names) (OfName name ∷ [])
grown names inner pushed name v e p = ap variables (p ∙ ap (λ l. l ++ name ∷ []) v) ∙ absent names name e

pub keeps : (names inner pushed : List (List ℕ)) (name : List ℕ) (old new : BTreeMap (List ℕ) ℕ) (n : ℕ) → inner ≡ names → index_of (variables names) (OfName name) ≡ None → pushed ≡ inner ++ name ∷ [] → n ≡ length inner → ((q : List ℕ) → get (slice_cmp nat_cmp) old q ≡ index_of (variables inner) (OfName q)) → Updates (slice_cmp nat_cmp) old new name (Some n) → (q : List ℕ) → get (slice_cmp nat_cmp) new q ≡ index_of (variables pushed) (OfName q)
keeps names inner pushed name old new n v e p same held u q =
    inserted inner name old new n same (ap (λ l. index_of (variables l) (OfName name)) v ∙ e) held u q
    ∙ ap (λ l. index_of (variables l) (OfName q)) (sym p)
