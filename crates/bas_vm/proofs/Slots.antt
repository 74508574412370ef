-- The cells of a program: reading, writing, and the cell of a place.
use Rattle.std.proofs.Common.{◌≡◌, ℕ, zero, suc, ◌+◌, ◌<◌, ◌≤◌, List, [], ◌∷◌, length, Some, None, refl, sym, ap, ◌∙◌, arith, pos, get_or, Result, Ok, Err, IfOk}
use Rattle.std.specs.Prelude.{slice_get, slice_set, replicate}
use Rattle.std.specs.Option.{option_map}
use Rattle.std.proofs.lemmas.Option.{slice_get-map, slice_get_read}
use Rattle.bas_dec.specs.Number.{Number as Decimal, low, stripped}
use Rattle.bas_mean.specs.World.{fresh_cell}
use Rattle.bas_code.specs.declared.instr.Place.{Place}
use Rattle.bas_code.specs.declared.instr.Space.TheVariants.{Own}
use Rattle.bas_code.specs.State.{slots_from, spot_in, spot_of}
use Rattle.bas_vm.specs.Shown.{reference, cell_with, cells_of, frame_of}

-- 0 is a number
pub low_zero : low (pos 0) 0 ≡ Some fresh_cell.number
unfolding low stripped
low_zero = refl

-- reading
pub cells-get : (numbers : List Decimal) (n : ℕ) → slice_get (cells_of numbers) n ≡ option_map cell_with (slice_get numbers n)
unfolding cells_of
cells-get numbers n = slice_get-map cell_with numbers n

-- there is a cell
pub cells-within : (numbers : List Decimal) (n : ℕ) → n < length numbers → (x : Decimal) × (slice_get (cells_of numbers) n ≡ Some (cell_with x))
unfolding cells_of
cells-within [] n h = absurd (omega arith)
cells-within (x ∷ numbers) zero h = (x, refl)
cells-within (x ∷ numbers) (suc n) h = cells-within numbers n (omega arith)

-- there is no cell
pub cells-past : (numbers : List Decimal) (n : ℕ) → length numbers ≤ n → slice_get (cells_of numbers) n ≡ None
unfolding cells_of
cells-past [] n h = refl
cells-past (x ∷ numbers) zero h = absurd (omega arith)
cells-past (x ∷ numbers) (suc n) h = cells-past numbers n (omega arith)

-- writing
pub cells-set : (numbers : List Decimal) (n : ℕ) (x : Decimal) → slice_set (cells_of numbers) n (cell_with x) ≡ cells_of (slice_set numbers n x)
unfolding cells_of
cells-set [] n x = refl
cells-set (y ∷ numbers) zero x = refl
cells-set (y ∷ numbers) (suc n) x = ap (λ cs. cell_with y ∷ cs) (cells-set numbers n x)

-- cells that hold the same
pub cells-same : (n : ℕ) (x : Decimal) → cells_of (replicate n x) ≡ replicate n (cell_with x)
unfolding cells_of
cells-same zero x = refl
cells-same (suc n) x = ap (λ cs. cell_with x ∷ cs) (cells-same n x)

-- a slot, and none
slot-at : (first k s : ℕ) → s < k → slice_get (slots_from first k) s ≡ Some (reference (first + s))
slot-at first zero s h = absurd (omega arith)
slot-at first (suc k) zero h = ap (λ n. Some (reference n)) (let e : first ≡ first + 0 = omega arith in e)
slot-at first (suc k) (suc s) h = slot-at (suc first) k s (omega arith) ∙ ap (λ n. Some (reference n)) (let e : suc first + s ≡ first + suc s = omega arith in e)

slot-past : (first k s : ℕ) → k ≤ s → slice_get (slots_from first k) s ≡ None
slot-past first zero s h = refl
slot-past first (suc k) zero h = absurd (omega arith)
slot-past first (suc k) (suc s) h = slot-past (suc first) k s (omega arith)

-- the cell of a slot of the program
pub own-cell : (p : Place) (slots : ℕ) → p.space ≡ Own → p.number < slots → Some (reference p.number) ≡ spot_of p (frame_of slots)
own-cell p slots is h =
    sym (ap (λ s. spot_in s p.number (frame_of slots)) is ∙ slot-at 0 slots p.number h ∙ ap (λ n. Some (reference n)) (let e : 0 + p.number ≡ p.number = omega arith in e))

pub no-own-cell : (p : Place) (slots : ℕ) → p.space ≡ Own → slots ≤ p.number → None ≡ spot_of p (frame_of slots)
no-own-cell p slots is h = sym (ap (λ s. spot_in s p.number (frame_of slots)) is ∙ slot-past 0 slots p.number h)

-- the number in a cell that is there, and in none
pub number-there : (numbers : List Decimal) (i n : ℕ) (x : Decimal) → i ≡ n → i < length numbers → x ≡ get_or numbers i x → Some (cell_with x) ≡ slice_get (cells_of numbers) n
number-there numbers i n x is lt at = sym (cells-get numbers n ∙ ap (option_map cell_with) (ap (λ k. slice_get numbers k) (sym is) ∙ slice_get_read numbers (length numbers) i x refl lt at))

pub number-nowhere : (numbers : List Decimal) (i n : ℕ) → i ≡ n → length numbers ≤ i → None ≡ slice_get (cells_of numbers) n
number-nowhere numbers i n is le = sym (cells-past numbers n (omega arith))

-- the cells of fresh slots
pub cells-fresh : {V E : Type 0} (items : V → List Decimal) (r : Result V E) (x : Decimal) (k n : ℕ) → IfOk r (λ v. ((y : Decimal) → y ≡ x → y ≡ x) → items v ≡ replicate k x) → low (pos 0) 0 ≡ Some x → k ≡ n → IfOk r (λ v. cells_of (items v) ≡ replicate n fresh_cell)
cells-fresh items (Ok v) x k n same none is =
    let zeros : Some x ≡ Some fresh_cell.number = sym none ∙ low_zero in
    let x_is : x ≡ fresh_cell.number = cc in
    ap cells_of (same (λ y h. h)) ∙ cells-same k x ∙ ap (λ m. replicate m (cell_with x)) is ∙ ap (λ y. replicate n (cell_with y)) x_is
cells-fresh items (Err e) x k n same none is = tt
