-- The numbering of a program's variables gives each of them one slot, and each slot one variable.
use Rattle.std.proofs.Common.{◌≡◌, ◌⊎◌, ℕ, zero, suc, Bool, true, false, List, [], ◌∷◌, ◌++◌, length, Option, Some, None, refl, sym, ap, ◌∙◌, subst, inl, inr, ⊎_elim, is_some}
use Rattle.std.specs.Prelude.{slice_get}
use Rattle.bas_mean.specs.World.{Variable, same_variable}
use Rattle.bas_carry.specs.Shown.{Distinct}
use Rattle.bas_carry.specs.Slots.{index_if, index_of, with_variable, with_variables}
use Rattle.bas_carry.proofs.Cells.{same_itself, same_true}
use Rattle.bas_carry.proofs.Stands.{Covered}

-- what stands at an index is the first of its kind
abbrev First : List Variable → Type 0
First order = (s : ℕ) (x : Variable) → slice_get order s ≡ Some x → index_of order x ≡ Some s

pub first_distinct : (order : List Variable) → First order → Distinct order
first_distinct order f s t x p q = let e : Some s ≡ Some t = sym (f s x p) ∙ f t x q in cc

pub index_get : (order : List Variable) (x : Variable) (s : ℕ) → index_of order x ≡ Some s → slice_get order s ≡ Some x
index_get [] x s e = let bad : None ≡ Some s = e in absurd cc
index_get (y ∷ ys) x s e = by (λ k q. index_get ys x k q) (same_variable x y) (index_of ys x) refl refl e
  where
    by : ((k : ℕ) → index_of ys x ≡ Some k → slice_get ys k ≡ Some x) → (b : Bool) (o : Option ℕ) → same_variable x y ≡ b → index_of ys x ≡ o → index_if b o ≡ Some s → slice_get (y ∷ ys) s ≡ Some x
    by h true o p q f =
        let z : 0 ≡ s = cc in
        let same : x ≡ y = same_true x y p in
        subst (λ k. slice_get (y ∷ ys) k ≡ Some x) z (ap Some (sym same))
    by h false None p q f = let bad : None ≡ Some s = f in absurd cc
    by h false (Some k) p q f = let z : suc k ≡ s = cc in subst (λ m. slice_get (y ∷ ys) m ≡ Some x) z (h k q)

index_left : (order zs : List Variable) (y : Variable) (s : ℕ) → index_of order y ≡ Some s → index_of (order ++ zs) y ≡ Some s
index_left [] zs y s e = let bad : None ≡ Some s = e in absurd cc
index_left (z ∷ order) zs y s e = by (λ k q. index_left order zs y k q) (same_variable y z) (index_of order y) refl e
  where
    by : ((k : ℕ) → index_of order y ≡ Some k → index_of (order ++ zs) y ≡ Some k) → (b : Bool) (o : Option ℕ) → index_of order y ≡ o → index_if b o ≡ Some s → index_if b (index_of (order ++ zs) y) ≡ Some s
    by h true o q f = f
    by h false None q f = let bad : None ≡ Some s = f in absurd cc
    by h false (Some k) q f = ap (index_if false) (h k q) ∙ f

index_new : (order : List Variable) (x : Variable) → index_of order x ≡ None → index_of (order ++ x ∷ []) x ≡ Some (length order)
index_new [] x e = ap (λ b. index_if b None) (same_itself x)
index_new (z ∷ order) x e = by (λ q. index_new order x q) (same_variable x z) (index_of order x) refl e
  where
    by : (index_of order x ≡ None → index_of (order ++ x ∷ []) x ≡ Some (length order)) → (b : Bool) (o : Option ℕ) → index_of order x ≡ o → index_if b o ≡ None → index_if b (index_of (order ++ x ∷ []) x) ≡ Some (suc (length order))
    by h true o q f = let bad : Some 0 ≡ None = f in absurd cc
    by h false None q f = ap (index_if false) (h q)
    by h false (Some k) q f = let bad : Some (suc k) ≡ None = f in absurd cc

get_last : (order : List Variable) (x y : Variable) (s : ℕ) → slice_get (order ++ x ∷ []) s ≡ Some y → (slice_get order s ≡ Some y) ⊎ ((s ≡ length order) × (x ≡ y))
get_last [] x y zero e = let same : x ≡ y = cc in inr (refl, same)
get_last [] x y (suc s) e = let bad : None ≡ Some y = e in absurd cc
get_last (z ∷ order) x y zero e = inl e
get_last (z ∷ order) x y (suc s) e = ⊎_elim (λ p. inl p) (λ p. inr (ap suc p.0, p.1)) (get_last order x y s e)

first_more : (order : List Variable) (x : Variable) (o : Option ℕ) → index_of order x ≡ o → First order → First (with_variable o order x)
first_more order x (Some k) e f s y g = f s y g
first_more order x None e f s y g =
    ⊎_elim
    (λ p. index_left order (x ∷ []) y s (f s y p))
    (λ p. ap (index_of (order ++ x ∷ [])) (sym p.1) ∙ index_new order x e ∙ ap Some (sym p.0))
    (get_last order x y s g)

keeps_index : (order : List Variable) (x y : Variable) (o : Option ℕ) (s : ℕ) → index_of order y ≡ Some s → index_of (with_variable o order x) y ≡ Some s
keeps_index order x y (Some k) s e = e
keeps_index order x y None s e = index_left order (x ∷ []) y s e

gets_index : (order : List Variable) (x : Variable) (o : Option ℕ) → index_of order x ≡ o → (s : ℕ) × (index_of (with_variable o order x) x ≡ Some s)
gets_index order x (Some k) e = (k, e)
gets_index order x None e = (length order, index_new order x e)

pub all_first : (xs order : List Variable) → First order → First (with_variables order xs)
unfolding with_variables
all_first [] order f = f
all_first (x ∷ xs) order f = all_first xs (with_variable (index_of order x) order x) (first_more order x (index_of order x) refl f)

all_keep : (xs order : List Variable) (y : Variable) (s : ℕ) → index_of order y ≡ Some s → index_of (with_variables order xs) y ≡ Some s
unfolding with_variables
all_keep [] order y s e = e
all_keep (x ∷ xs) order y s e = all_keep xs (with_variable (index_of order x) order x) y s (keeps_index order x y (index_of order x) s e)

pub all_covered : (xs order : List Variable) → Covered (with_variables order xs) xs
unfolding with_variables
all_covered [] order = tt
all_covered (x ∷ xs) order =
    let i = gets_index order x (index_of order x) refl in
    ((i.0, all_keep xs (with_variable (index_of order x) order x) x i.0 i.1), all_covered xs (with_variable (index_of order x) order x))

pub none_first : First []
none_first s x e = let bad : None ≡ Some x = e in absurd cc

-- what is among the variables is one of those that were put there
pub all_used : (xs order : List Variable) (s : ℕ) (x : Variable) → slice_get (with_variables order xs) s ≡ Some x → ((k : ℕ) × (slice_get order k ≡ Some x)) ⊎ (is_some (index_of xs x) ≡ true)
unfolding with_variables
all_used [] order s x e = inl (s, e)
all_used (y ∷ ys) order s x e =
    ⊎_elim
    (λ p. put (index_of order y) p.0 p.1)
    (λ p. inr (later (same_variable x y) (index_of ys x) p))
    (all_used ys (with_variable (index_of order y) order y) s x e)
  where
    put : (o : Option ℕ) (k : ℕ) → slice_get (with_variable o order y) k ≡ Some x → ((j : ℕ) × (slice_get order j ≡ Some x)) ⊎ (is_some (index_of (y ∷ ys) x) ≡ true)
    put (Some i) k f = inl (k, f)
    put None k f = ⊎_elim (λ p. inl (k, p)) (λ p. inr (ap (λ z. is_some (index_if (same_variable x z) (index_of ys x))) p.1 ∙ ap (λ b. is_some (index_if b (index_of ys x))) (same_itself x))) (get_last order y x k f)

    later : (b : Bool) (o : Option ℕ) → is_some o ≡ true → is_some (index_if b o) ≡ true
    later true o f = refl
    later false None f = f
    later false (Some i) f = refl
