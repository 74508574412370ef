-- The bounds of arrays: how many elements there are between them, and the number of each.
use Rattle.std.specs.Prelude.{ℕ, ◌+◌, ◌*◌, ℤ, pos, neg_ℤ, ◌-ℤ◌, ◌+ℤ◌, unsigned_abs, Bool, true, false, ◌&&◌, nat_le, if◌then◌else◌, List, [], ◌∷◌, Option, Some, None}
use Rattle.std.specs.Int.Signed.{le_z}
use Rattle.std.specs.List.{list_all}
use Rattle.bas_cell.specs.declared.bounds.TheConstants.{FARTHEST_BOUND, MOST_ELEMENTS}

-- bounds that do not fall and are not too far from 0
abbrev pub is_range : ℤ × ℤ → Bool
is_range b = le_z b.0 b.1 && (le_z (neg_ℤ FARTHEST_BOUND) b.0 && le_z b.1 FARTHEST_BOUND)

-- how many elements a dimension has between its bounds
abbrev pub extent : ℤ × ℤ → ℕ
extent b = unsigned_abs (b.1 -ℤ b.0 +ℤ pos 1)

-- how many elements there are between the bounds of all dimensions
abbrev pub elements : List (ℤ × ℤ) → ℕ
elements [] = 1
elements (b ∷ bs) = extent b * elements bs

-- bounds that an array may have: each in range, and not too many elements
abbrev pub are_bounds : List (ℤ × ℤ) → Bool
are_bounds bounds = list_all is_range bounds && nat_le (elements bounds) MOST_ELEMENTS

-- whether a subscript lies between the bounds of its dimension
abbrev pub is_between : ℤ × ℤ → (subscript : ℤ) → Bool
is_between b s = le_z b.0 s && le_z s b.1

-- whether there is one subscript for each dimension, between its bounds
abbrev pub are_between : List (ℤ × ℤ) → (subscripts : List ℤ) → Bool
are_between [] [] = true
are_between (b ∷ bs) (s ∷ ss) = is_between b s && are_between bs ss
are_between _ _ = false

-- the row of a subscript, from 0, or None outside its bounds
abbrev pub row_of : ℤ × ℤ → (subscript : ℤ) → Option ℕ
row_of b s = if is_between b s then Some (unsigned_abs (s -ℤ b.0)) else None

-- the number of an element, by its row and its number in that row, where each row has so many
abbrev pub in_row : (width : ℕ) → (row element : Option ℕ) → Option ℕ
in_row width (Some r) (Some n) = Some (r * width + n)
in_row width _ _ = None

-- the number of an element, from 0, or None outside the bounds. The elements stand row by row: the
-- last subscript moves fastest
abbrev pub element_number : List (ℤ × ℤ) → (subscripts : List ℤ) → Option ℕ
element_number [] [] = Some 0
element_number (b ∷ bs) (s ∷ ss) = in_row (elements bs) (row_of b s) (element_number bs ss)
element_number _ _ = None
