-- The list of cells shows the cells by invocation and variable: reading and writing.
use Rattle.std.proofs.Common.{◌≡◌, ℕ, zero, suc, ◌+◌, ◌<◌, Bool, true, false, List, [], ◌∷◌, ◌++◌, length, Some, None, refl, sym, ap, ◌∙◌, arith, ⊎_elim, nat_eq, cond}
use Rattle.std.specs.Prelude.{◌&&◌, slice_get, slice_set, replicate, bytes_eq}
use Rattle.std.proofs.lemmas.Bool.{eqb-true, eq-eqb, ne_eqb}
use Rattle.std.specs.Cmp.Lexicographic.{same_text, other_text}
use Rattle.bas_mean.specs.World.{Variable, OfName, OfLine, same_variable, Cell, fresh_cell, Ref, NamedCells, with_cell}
use Rattle.bas_code.specs.State.{slots_from}
use Rattle.bas_carry.specs.Shown.{cells_of, size_of, all_cells, Lives, Distinct, AllDistinct}

module _ {A : Type 0} where
  pub get_front : (xs ys : List A) (n : ℕ) (x : A) → slice_get xs n ≡ Some x → slice_get (xs ++ ys) n ≡ Some x
  get_front [] ys n x e = let bad : None ≡ Some x = e in absurd cc
  get_front (z ∷ xs) ys zero x e = e
  get_front (z ∷ xs) ys (suc n) x e = get_front xs ys n x e

  pub get_back : (xs ys : List A) (s : ℕ) → slice_get (xs ++ ys) (length xs + s) ≡ slice_get ys s
  get_back [] ys s = ap (λ k. slice_get ys k) (let e : 0 + s ≡ s = omega arith in e)
  get_back (z ∷ xs) ys s = ap (λ k. slice_get (z ∷ xs ++ ys) k) (let e : suc (length xs) + s ≡ suc (length xs + s) = omega arith in e) ∙ get_back xs ys s

  pub set_front : (xs ys : List A) (n : ℕ) (x c : A) → slice_get xs n ≡ Some x → slice_set (xs ++ ys) n c ≡ slice_set xs n c ++ ys
  set_front [] ys n x c e = let bad : None ≡ Some x = e in absurd cc
  set_front (z ∷ xs) ys zero x c e = refl
  set_front (z ∷ xs) ys (suc n) x c e = ap (λ l. z ∷ l) (set_front xs ys n x c e)

  pub set_back : (xs ys : List A) (s : ℕ) (c : A) → slice_set (xs ++ ys) (length xs + s) c ≡ xs ++ slice_set ys s c
  set_back [] ys s c = ap (λ k. slice_set ys k c) (let e : 0 + s ≡ s = omega arith in e)
  set_back (z ∷ xs) ys s c = ap (λ k. slice_set (z ∷ xs ++ ys) k c) (let e : suc (length xs) + s ≡ suc (length xs + s) = omega arith in e) ∙ ap (λ l. z ∷ l) (set_back xs ys s c)

  pub length_both : (xs ys : List A) → length (xs ++ ys) ≡ length xs + length ys
  length_both [] ys = omega arith
  length_both (z ∷ xs) ys = let ih = length_both xs ys in omega (arith, ih)

same_nat : (n : ℕ) → nat_eq n n ≡ true
same_nat n = eq-eqb n n refl

text_itself : (t : List ℕ) (b : Bool) → bytes_eq t t ≡ b → bytes_eq t t ≡ true
text_itself t true e = e
text_itself t false e = absurd (other_text t t (sym e) refl)

pub same_itself : (x : Variable) → same_variable x x ≡ true
same_itself (OfName a) = text_itself a (bytes_eq a a) refl
same_itself (OfLine l i) = ap (λ b. b && nat_eq i i) (same_nat l) ∙ same_nat i

both_true : (l m i j : ℕ) (a b : Bool) → nat_eq l m ≡ a → nat_eq i j ≡ b → (a && b) ≡ true → OfLine l i ≡ OfLine m j
both_true l m i j true true p q e = ap (λ k. OfLine k i) (eqb-true l m p) ∙ ap (OfLine m) (eqb-true i j q)
both_true l m i j true false p q e = let bad : false ≡ true = e in absurd cc
both_true l m i j false b p q e = let bad : false ≡ true = e in absurd cc

pub same_true : (x y : Variable) → same_variable x y ≡ true → x ≡ y
same_true (OfName a) (OfName b) e = ap OfName (same_text a b (sym e))
same_true (OfLine l i) (OfLine m j) e = both_true l m i j (nat_eq l m) (nat_eq i j) refl refl e
same_true (OfName a) (OfLine m j) e = let bad : false ≡ true = e in absurd cc
same_true (OfLine l i) (OfName b) e = let bad : false ≡ true = e in absurd cc

distinct_rest : (x : Variable) (xs : List Variable) → Distinct (x ∷ xs) → Distinct xs
distinct_rest x xs d s t y p q = let e = d (suc s) (suc t) y p q in omega (arith, e)

apart : (x : Variable) (xs : List Variable) (s : ℕ) (y : Variable) → Distinct (x ∷ xs) → slice_get xs s ≡ Some y → same_variable y x ≡ false
apart x xs s y d p = by (same_variable y x) refl
  where
    by : (b : Bool) → same_variable y x ≡ b → same_variable y x ≡ false
    by false e = e
    by true e =
        let same : y ≡ x = same_true y x e in
        let z = d 0 (suc s) y (ap Some (sym same)) p in
        absurd (omega (arith, z))

live_below : (shape : List (List Variable)) (r : Ref) (c : ℕ) → Lives shape r c → r.invocation < length shape
live_below [] r c h = elim h [ ]
live_below (names ∷ shape) r c h = ⊎_elim (λ t. let e = t.same in omega (arith, e)) (λ l. let e = live_below shape r c l in omega (arith, e)) h

cells_length : (f : Variable → Cell) (names : List Variable) → length (cells_of f names) ≡ length names
cells_length f [] = refl
cells_length f (x ∷ xs) = ap suc (cells_length f xs)

pub all_length : (shape : List (List Variable)) (h : NamedCells) → length (all_cells shape h) ≡ size_of shape
all_length [] h = refl
all_length (names ∷ shape) h =
    length_both (all_cells shape h) (cells_of (h (length shape)) names)
    ∙ ap (λ n. n + length (cells_of (h (length shape)) names)) (all_length shape h)
    ∙ ap (λ n. size_of shape + n) (cells_length (h (length shape)) names)

cell_at : (f : Variable → Cell) (names : List Variable) (s : ℕ) (y : Variable) → slice_get names s ≡ Some y → slice_get (cells_of f names) s ≡ Some (f y)
cell_at f [] s y e = let bad : None ≡ Some y = e in absurd cc
cell_at f (x ∷ xs) zero y e = let same : x ≡ y = cc in ap (λ z. Some (f z)) same
cell_at f (x ∷ xs) (suc s) y e = cell_at f xs s y e

-- reading
pub look_law : (shape : List (List Variable)) (h : NamedCells) (r : Ref) (c : ℕ) → Lives shape r c → slice_get (all_cells shape h) c ≡ Some (h r.invocation r.variable)
look_law [] h r c l = elim l [ ]
look_law (names ∷ shape) h r c l =
    ⊎_elim
    (λ t. ap (λ k. slice_get (all_cells (names ∷ shape) h) k) (t.cell ∙ ap (λ n. n + t.slot) (sym (all_length shape h)))
    ∙ get_back (all_cells shape h) (cells_of (h (length shape)) names) t.slot
    ∙ cell_at (h (length shape)) names t.slot r.variable t.at
    ∙ ap (λ i. Some (h i r.variable)) (sym t.same))
    (λ b. get_front (all_cells shape h) (cells_of (h (length shape)) names) c (h r.invocation r.variable) (look_law shape h r c b)) l

cells_same : (f g : Variable → Cell) (names : List Variable) → ((s : ℕ) (y : Variable) → slice_get names s ≡ Some y → f y ≡ g y) → cells_of f names ≡ cells_of g names
cells_same f g [] e = refl
cells_same f g (x ∷ xs) e = ap (λ c. c ∷ cells_of f xs) (e 0 x refl) ∙ ap (λ l. g x ∷ l) (cells_same f g xs (λ s y p. e (suc s) y p))

all_same : (shape : List (List Variable)) (h g : NamedCells) → ((j : ℕ) (y : Variable) → j < length shape → h j y ≡ g j y) → all_cells shape h ≡ all_cells shape g
all_same [] h g e = refl
all_same (names ∷ shape) h g e =
    ap (λ l. l ++ cells_of (h (length shape)) names) (all_same shape h g (λ j y p. e j y (omega arith)))
    ∙ ap (λ l. all_cells shape g ++ l) (cells_same (h (length shape)) (g (length shape)) names (λ s y p. e (length shape) y (omega arith)))

cells_set : (f g : Variable → Cell) (names : List Variable) (s : ℕ) (x : Variable) (c : Cell) → Distinct names → slice_get names s ≡ Some x → ((y : Variable) → g y ≡ cond (same_variable y x) c (f y)) → cells_of g names ≡ slice_set (cells_of f names) s c
cells_set f g [] s x c d e is = let bad : None ≡ Some x = e in absurd cc
cells_set f g (z ∷ zs) zero x c d e is =
    let same : z ≡ x = cc in
    ap (λ k. k ∷ cells_of g zs) (is z ∙ ap (λ y. cond (same_variable z y) c (f z)) (sym same) ∙ ap (λ b. cond b c (f z)) (same_itself z))
    ∙ ap (λ l. c ∷ l) (cells_same g f zs (λ s y p. is y ∙ ap (λ k. cond (same_variable y k) c (f y)) (sym same) ∙ ap (λ b. cond b c (f y)) (apart z zs s y d p)))
cells_set f g (z ∷ zs) (suc s) x c d e is =
    ap (λ k. k ∷ cells_of g zs) (is z ∙ ap (λ b. cond b c (f z)) (by (same_variable z x) refl))
    ∙ ap (λ l. f z ∷ l) (cells_set f g zs s x c (distinct_rest z zs d) e is)
  where
    by : (b : Bool) → same_variable z x ≡ b → same_variable z x ≡ false
    by false q = q
    by true q = let same : z ≡ x = same_true z x q in let w = d 0 (suc s) x (ap Some same) e in absurd (omega (arith, w))

-- writing
pub store_law : (shape : List (List Variable)) (h : NamedCells) (r : Ref) (c : ℕ) (v : Cell) → AllDistinct shape → Lives shape r c → all_cells shape (with_cell r v h) ≡ slice_set (all_cells shape h) c v
store_law [] h r c v d l = elim l [ ]
store_law (names ∷ shape) h r c v d l =
    ⊎_elim
    (λ t.
    ap (λ k. k ++ cells_of (with_cell r v h (length shape)) names) (all_same shape (with_cell r v h) h (λ i x p. let e = t.same in ap (λ b. cond (b && same_variable x r.variable) v (h i x)) (ne_eqb i r.invocation (omega (arith, e)))))
    ∙ ap (λ k. all_cells shape h ++ k) (cells_set (h (length shape)) (with_cell r v h (length shape)) names t.slot r.variable v d.0 t.at (λ x. ap (λ b. cond (b && same_variable x r.variable) v (h (length shape) x)) (eq-eqb (length shape) r.invocation (sym t.same))))
    ∙ sym (set_back (all_cells shape h) (cells_of (h (length shape)) names) t.slot v)
    ∙ ap (λ k. slice_set (all_cells (names ∷ shape) h) k v) (ap (λ n. n + t.slot) (all_length shape h) ∙ sym t.cell))
    (λ b.
    ap (λ k. k ++ cells_of (with_cell r v h (length shape)) names) (store_law shape h r c v d.1 b)
    ∙ ap (λ k. slice_set (all_cells shape h) c v ++ k) (cells_same (with_cell r v h (length shape)) (h (length shape)) names (λ s x p. let e = live_below shape r c b in ap (λ k. cond (k && same_variable x r.variable) v (h (length shape) x)) (ne_eqb (length shape) r.invocation (omega (arith, e)))))
    ∙ sym (set_front (all_cells shape h) (cells_of (h (length shape)) names) c (h r.invocation r.variable) v (look_law shape h r c b))) l

-- at the start all cells are fresh
pub fresh_cells : (f : Variable → Cell) (names : List Variable) → ((y : Variable) → f y ≡ fresh_cell) → cells_of f names ≡ replicate (length names) fresh_cell
fresh_cells f [] e = refl
fresh_cells f (x ∷ xs) e = ap (λ c. c ∷ cells_of f xs) (e x) ∙ ap (λ l. fresh_cell ∷ l) (fresh_cells f xs e)

within : {A : Type 0} (xs : List A) (s : ℕ) (x : A) → slice_get xs s ≡ Some x → s < length xs
within [] s x e = let bad : None ≡ Some x = e in absurd cc
within (z ∷ xs) zero x e = omega arith
within (z ∷ xs) (suc s) x e = let h = within xs s x e in omega (arith, h)

slot_at : (first k s : ℕ) → s < k → slice_get (slots_from first k) s ≡ Some (record { cell = first + s })
slot_at first zero s h = absurd (omega arith)
slot_at first (suc k) zero h = ap (λ n. Some (record { cell = n })) (let e : first ≡ first + 0 = omega arith in e)
slot_at first (suc k) (suc s) h = slot_at (suc first) k s (omega arith) ∙ ap (λ n. Some (record { cell = n })) (let e : suc first + s ≡ first + suc s = omega arith in e)

pub own_slot : (names : List Variable) (s : ℕ) (x : Variable) → slice_get names s ≡ Some x → slice_get (slots_from 0 (length names)) s ≡ Some (record { cell = s })
own_slot names s x e = slot_at 0 (length names) s (within names s x e) ∙ ap (λ n. Some (record { cell = n })) (let z : 0 + s ≡ s = omega arith in z)
