-- How many elements there are between bounds, and how their numbers stand apart.
use Rattle.std.proofs.Common.{◌≡◌, nat_le, ℕ, ◌+◌, ◌*◌, ◌/◌, ◌<◌, ◌≤◌, ◌%◌, ℤ, pos, neg_ℤ, ◌+ℤ◌, ◌≤ℤ◌, Bool, true, false, ◌&&◌, List, [], ◌∷◌, length, Option, Some, None, refl, sym, ap, ◌∙◌, arith}
use Rattle.std.specs.Option.{is_some}
use Rattle.std.specs.Ordering.{int_cmp, ordering_then}
use Rattle.std.specs.Cmp.Lexicographic.{slice_cmp}
use Rattle.std.specs.declared.cmp.Ordering.{Ordering}
use Rattle.std.specs.declared.cmp.Ordering.TheVariants.{Less, Equal, Greater}
use Rattle.std.specs.List.{list_all}
use Rattle.std.proofs.Math.Nat.{mul-le-mul_right, div-lt_iff_lt-mul}
use Rattle.std.proofs.lemmas.Int.{ints}
use Rattle.std.proofs.lemmas.Nat.{div-mul-add, mul-add-lt, div-add-mod', mod_below}
use Rattle.std.proofs.lemmas.Bool.{and_parts, and_from, le-leb, leb-true}
use Rattle.bas_face.specs.declared.shape.Cell.{Cell}
use Rattle.bas_cell.specs.declared.bounds.TheConstants.{FARTHEST_BOUND, MOST_ELEMENTS, MOST_DIMENSIONS}
use Rattle.bas_cell.specs.declared.values.Values.{Values}
use Rattle.bas_cell.specs.Bounds.{is_range, are_bounds, extent, elements, is_between, are_between, row_of, in_row, element_number}
use Rattle.bas_cell.specs.Live.{dimensions, bounds_of, can_be_made}
use Rattle.bas_cell.specs.Stored.{plain_values, IsFilled}
use Rattle.bas_cell.specs.Laws.{ElementsAreApart, ElementsAreInOrder}

pub range_rises : (b : ℤ × ℤ) → is_range b ≡ true → b.0 ≤ℤ b.1
range_rises b h = grind (arith, ints)

pub range_low : (b : ℤ × ℤ) → is_range b ≡ true → neg_ℤ FARTHEST_BOUND ≤ℤ b.0
range_low b h = grind (arith, ints)

pub range_high : (b : ℤ × ℤ) → is_range b ≡ true → b.1 ≤ℤ FARTHEST_BOUND
range_high b h = grind (arith, ints)

-- a dimension in range has an element
extent_some : (b : ℤ × ℤ) → is_range b ≡ true → 1 ≤ extent b
extent_some b h = grind (arith, ints)

-- as many elements as the later dimensions have, or more
rest_fewer : (b : ℤ × ℤ) (bs : List (ℤ × ℤ)) → is_range b ≡ true → elements bs ≤ elements (b ∷ bs)
rest_fewer b bs h =
    let e : 1 * elements bs ≤ extent b * elements bs = mul-le-mul_right (elements bs) (extent_some b h) in omega arith

pub few : (bs : List (ℤ × ℤ)) → are_bounds bs ≡ true → elements bs ≤ MOST_ELEMENTS
few bs h = leb-true _ _ (and_parts (list_all is_range bs) (nat_le (elements bs) MOST_ELEMENTS) h).1

ranges : (b : ℤ × ℤ) (bs : List (ℤ × ℤ)) → are_bounds (b ∷ bs) ≡ true → (is_range b ≡ true) × (list_all is_range bs ≡ true)
ranges b bs h = and_parts (is_range b) (list_all is_range bs) (and_parts (list_all is_range (b ∷ bs)) (nat_le (elements (b ∷ bs)) MOST_ELEMENTS) h).0

pub first_range : (b : ℤ × ℤ) (bs : List (ℤ × ℤ)) → are_bounds (b ∷ bs) ≡ true → is_range b ≡ true
first_range b bs h = (ranges b bs h).0

pub rest_bounds : (b : ℤ × ℤ) (bs : List (ℤ × ℤ)) → are_bounds (b ∷ bs) ≡ true → are_bounds bs ≡ true
rest_bounds b bs h =
    let f = rest_fewer b bs (ranges b bs h).0 in
    let l = few (b ∷ bs) h in
    and_from _ _ (ranges b bs h).1 (le-leb (elements bs) MOST_ELEMENTS (omega arith))

elements_some : (bs : List (ℤ × ℤ)) → are_bounds bs ≡ true → 1 ≤ elements bs
elements_some [] h = omega arith
elements_some (b ∷ bs) h =
    let some = elements_some bs (rest_bounds b bs h) in
    let f = rest_fewer b bs (first_range b bs h) in omega arith

-- what is known of a cell that may be made
pub dimensions_few : (cell : Cell) → can_be_made cell ≡ true → dimensions cell.shape ≤ MOST_DIMENSIONS
dimensions_few cell h = leb-true _ _ (and_parts (nat_le (dimensions cell.shape) MOST_DIMENSIONS) (are_bounds (bounds_of cell)) h).0

pub bounds_made : (cell : Cell) → can_be_made cell ≡ true → are_bounds (bounds_of cell) ≡ true
bounds_made cell h = (and_parts (nat_le (dimensions cell.shape) MOST_DIMENSIONS) (are_bounds (bounds_of cell)) h).1

-- a cell has a value
pub filled_some : (cell : Cell) (values : Values) → IsFilled cell values → 0 < length (plain_values values)
filled_some cell values h = let some = elements_some (bounds_of cell) (bounds_made cell h.made) in omega (arith, h.count)

-- the row of a subscript is one of those of its dimension
pub row_inside : (b : ℤ × ℤ) (s : ℤ) (r : ℕ) → row_of b s ≡ Some r → r < extent b
row_inside b s r e = grind (arith, ints)

-- subscripts that have one row are equal
row_apart : (b : ℤ × ℤ) (s t : ℤ) (r : ℕ) → row_of b s ≡ Some r → row_of b t ≡ Some r → s ≡ t
row_apart b s t r e f = grind (arith, ints)

-- an element of a row is one of the array
place_inside : (r n extent width : ℕ) → r < extent → n < width → r * width + n < extent * width
place_inside r n extent width h k = let l = mul-add-lt r width n extent h k in omega (arith, l)

pub next_inside : (bounds : List (ℤ × ℤ)) (b : ℤ × ℤ) (rest : List (ℤ × ℤ)) (r n width : ℕ) → bounds ≡ b ∷ rest → r < extent b → n < elements rest
    → width ≡ elements rest → r * width + n < elements bounds
next_inside bounds b rest r n width e h k w = rw (e, w) (place_inside r n (extent b) (elements rest) h k)

-- the parts of a number in a row
row_parts : (width : ℕ) (row element : Option ℕ) (n : ℕ) → in_row width row element ≡ Some n
    → (r : ℕ) × ((m : ℕ) × ((row ≡ Some r) × ((element ≡ Some m) × (n ≡ r * width + m))))
row_parts width (Some r) (Some m) n e = (r, (m, (refl, (refl, cc))))
row_parts width (Some r) None n e = cc
row_parts width None element n e = cc

pub number_inside : (bounds : List (ℤ × ℤ)) (subscripts : List ℤ) (n : ℕ) → element_number bounds subscripts ≡ Some n → n < elements bounds
number_inside [] [] n e = let z : n ≡ 0 = cc in omega arith
number_inside [] (s ∷ ss) n e = cc
number_inside (b ∷ bs) [] n e = cc
number_inside (b ∷ bs) (s ∷ ss) n e =
    let p = row_parts (elements bs) (row_of b s) (element_number bs ss) n e in
    let inside = number_inside bs ss p.1.0 p.1.1.1.0 in
    rw p.1.1.1.1 (place_inside p.0 p.1.0 (extent b) (elements bs) (row_inside b s p.0 p.1.1.0) inside)

-- a number tells its row and its number in the row
same_parts : (width r q m n : ℕ) → m < width → n < width → r * width + m ≡ q * width + n → (r ≡ q) × (m ≡ n)
same_parts width r q m n h k e =
    let row : r ≡ q = sym (div-mul-add r width m h) ∙ ap (λ x. x / width) e ∙ div-mul-add q width n k in
    (row, (let same : r * width ≡ q * width = ap (λ x. x * width) row in omega arith))

numbers_apart : (bounds : List (ℤ × ℤ)) (subscripts others : List ℤ) (n : ℕ) → element_number bounds subscripts ≡ Some n → element_number bounds others ≡ Some n
    → subscripts ≡ others
numbers_apart [] [] [] n e f = refl
numbers_apart [] [] (t ∷ ts) n e f = cc
numbers_apart [] (s ∷ ss) others n e f = cc
numbers_apart (b ∷ bs) [] others n e f = cc
numbers_apart (b ∷ bs) (s ∷ ss) [] n e f = cc
numbers_apart (b ∷ bs) (s ∷ ss) (t ∷ ts) n e f =
    let p = row_parts (elements bs) (row_of b s) (element_number bs ss) n e in
    let q = row_parts (elements bs) (row_of b t) (element_number bs ts) n f in
    let same = same_parts (elements bs) p.0 q.0 p.1.0 q.1.0 (number_inside bs ss p.1.0 p.1.1.1.0) (number_inside bs ts q.1.0 q.1.1.1.0) (sym p.1.1.1.1 ∙ q.1.1.1.1) in
    ap (λ x. x ∷ ss) (row_apart b s t p.0 p.1.1.0 (rw same.0 q.1.1.0))
    ∙ ap (λ xs. t ∷ xs) (numbers_apart bs ss ts p.1.0 p.1.1.1.0 (rw same.1 q.1.1.1.0))

row_exactly : (b : ℤ × ℤ) (s : ℤ) → is_some (row_of b s) ≡ is_between b s
row_exactly b s = by_test (is_between b s) refl
  where
    by_test : (x : Bool) → is_between b s ≡ x → is_some (row_of b s) ≡ x
    by_test true e = rw e refl
    by_test false e = rw e refl

in_row_exactly : (width : ℕ) (row element : Option ℕ) → is_some (in_row width row element) ≡ (is_some row && is_some element)
in_row_exactly width (Some r) (Some n) = refl
in_row_exactly width (Some r) None = refl
in_row_exactly width None element = refl

numbers_exactly : (bounds : List (ℤ × ℤ)) (subscripts : List ℤ) → is_some (element_number bounds subscripts) ≡ are_between bounds subscripts
numbers_exactly [] [] = refl
numbers_exactly [] (s ∷ ss) = refl
numbers_exactly (b ∷ bs) [] = refl
numbers_exactly (b ∷ bs) (s ∷ ss) =
    in_row_exactly (elements bs) (row_of b s) (element_number bs ss)
    ∙ ap (λ x. x && is_some (element_number bs ss)) (row_exactly b s)
    ∙ ap (λ x. is_between b s && x) (numbers_exactly bs ss)

pub elements_are_apart : ElementsAreApart
elements_are_apart = record { exactly = numbers_exactly; inside = number_inside; apart = numbers_apart }

-- a later subscript has a later row
row_rises : (b : ℤ × ℤ) (s t : ℤ) (r q : ℕ) → row_of b s ≡ Some r → row_of b t ≡ Some q → int_cmp s t ≡ Less → r < q
row_rises b s t r q e f h = grind (arith, ints)

row_same : (b : ℤ × ℤ) (s t : ℤ) (r q : ℕ) → row_of b s ≡ Some r → row_of b t ≡ Some q → int_cmp s t ≡ Equal → r ≡ q
row_same b s t r q e f h = grind (arith, ints)

rise_by_row : (width r q m n : ℕ) → r < q → m < width → r * width + m < q * width + n
rise_by_row width r q m n h k = let l = place_inside r m q width h k in omega arith

rise_in_row : (width r q m n : ℕ) → r ≡ q → m < n → r * width + m < q * width + n
rise_in_row width r q m n e h = let same : r * width ≡ q * width = ap (λ x. x * width) e in omega arith

head_decides : (width r q m n : ℕ) (head tail : Ordering) → (head ≡ Less → r < q) → (head ≡ Equal → r ≡ q) → (tail ≡ Less → m < n) → m < width
    → ordering_then head tail ≡ Less → r * width + m < q * width + n
head_decides width r q m n Less tail first same later inside h = rise_by_row width r q m n (first refl) inside
head_decides width r q m n Equal tail first same later inside h = rise_in_row width r q m n (same refl) (later h)
head_decides width r q m n Greater tail first same later inside h = cc

numbers_rise : (bounds : List (ℤ × ℤ)) (subscripts others : List ℤ) (m n : ℕ) → element_number bounds subscripts ≡ Some m → element_number bounds others ≡ Some n
    → slice_cmp int_cmp subscripts others ≡ Less → m < n
numbers_rise [] [] [] m n e f h = cc
numbers_rise [] [] (t ∷ ts) m n e f h = cc
numbers_rise [] (s ∷ ss) others m n e f h = cc
numbers_rise (b ∷ bs) [] others m n e f h = cc
numbers_rise (b ∷ bs) (s ∷ ss) [] m n e f h = cc
numbers_rise (b ∷ bs) (s ∷ ss) (t ∷ ts) m n e f h =
    let p = row_parts (elements bs) (row_of b s) (element_number bs ss) m e in
    let q = row_parts (elements bs) (row_of b t) (element_number bs ts) n f in
    rw (p.1.1.1.1, q.1.1.1.1)
    (head_decides (elements bs) p.0 q.0 p.1.0 q.1.0 (int_cmp s t) (slice_cmp int_cmp ss ts)
    (row_rises b s t p.0 q.0 p.1.1.0 q.1.1.0) (row_same b s t p.0 q.0 p.1.1.0 q.1.1.0)
    (numbers_rise bs ss ts p.1.0 q.1.0 p.1.1.1.0 q.1.1.1.0) (number_inside bs ss p.1.0 p.1.1.1.0) h)

-- each row has its subscript
row_there : (b : ℤ × ℤ) (r : ℕ) → is_range b ≡ true → r < extent b → row_of b (b.0 +ℤ pos r) ≡ Some r
row_there b r h k = grind (arith, ints)

every_number : (bounds : List (ℤ × ℤ)) → are_bounds bounds ≡ true → (n : ℕ) → n < elements bounds → (subscripts : List ℤ) × (element_number bounds subscripts ≡ Some n)
every_number [] h n k = let z : 0 ≡ n = omega arith in ([], ap Some z)
every_number (b ∷ bs) h n k =
    let some = elements_some bs (rest_bounds b bs h) in
    let width : 0 < elements bs = omega arith in
    let row : n / elements bs < extent b = (div-lt_iff_lt-mul width).1 k in
    let rest = every_number bs (rest_bounds b bs h) (n % elements bs) (mod_below n (elements bs) width) in
    let there = row_there b (n / elements bs) (first_range b bs h) row in
    ((b.0 +ℤ pos (n / elements bs)) ∷ rest.0, rw (there, rest.1) (ap Some (div-add-mod' n (elements bs))))

pub elements_are_in_order : ElementsAreInOrder
elements_are_in_order = record { rise = numbers_rise; every = every_number }
