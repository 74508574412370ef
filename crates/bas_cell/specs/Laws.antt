-- What the definitions of elements and places come to.
use Rattle.std.specs.Prelude.{◌≡◌, true, ℕ, ◌<◌, ℤ, List, [], ◌∷◌, ◌++◌, length, take, Some, Result}
use Rattle.std.specs.Option.{is_some}
use Rattle.std.specs.Ordering.{int_cmp}
use Rattle.std.specs.Cmp.Lexicographic.{slice_cmp}
use Rattle.std.specs.declared.cmp.Ordering.TheVariants.{Less}
use Rattle.bas_face.specs.declared.shape.Cell.{Cell}
use Rattle.bas_fileval.specs.Value.{Value, unset}
use Rattle.bas_cell.specs.Bounds.{elements, are_bounds, are_between, element_number}
use Rattle.bas_cell.specs.Holding.{kind_held}
use Rattle.bas_cell.specs.Live.{Live, Place, IsPlace, bounds_of, fresh, cell_at, value_at, with_value_at, stored_at}

-- there is a number for an element exactly between the bounds, below the count of elements, and no other
-- element has it
pub record ElementsAreApart : Type 0 where
  pub exactly : (bounds : List (ℤ × ℤ)) (subscripts : List ℤ) → is_some (element_number bounds subscripts) ≡ are_between bounds subscripts
  pub inside : (bounds : List (ℤ × ℤ)) (subscripts : List ℤ) (n : ℕ) → element_number bounds subscripts ≡ Some n → n < elements bounds
  pub apart : (bounds : List (ℤ × ℤ)) (subscripts others : List ℤ) (n : ℕ) → element_number bounds subscripts ≡ Some n → element_number bounds others ≡ Some n → subscripts ≡ others

-- the elements stand in the order of their subscripts, of which the first that differs decides, and no number
-- is left out
pub record ElementsAreInOrder : Type 0 where
  pub rise : (bounds : List (ℤ × ℤ)) (subscripts others : List ℤ) (m n : ℕ) → element_number bounds subscripts ≡ Some m → element_number bounds others ≡ Some n → slice_cmp int_cmp subscripts others ≡ Less → m < n
  pub every : (bounds : List (ℤ × ℤ)) → are_bounds bounds ≡ true → (n : ℕ) → n < elements bounds → (subscripts : List ℤ) × (element_number bounds subscripts ≡ Some n)

-- a place has the value that was written there last, and a write changes no other place; a new cell is unset
-- and leaves all others, and so does dropping for the cells that are kept
pub record PlacesAreApart : Type 0 where
  pub last : (cells : List Live) (p : Place) (v : Value) → IsPlace cells p → value_at (with_value_at cells p v) p ≡ v
  pub others : (cells : List Live) (p q : Place) (v : Value) → (q ≡ p → ⊥) → value_at (with_value_at cells p v) q ≡ value_at cells q
  pub made : (cells : List Live) (c : Cell) (at : ℕ) → at < elements (bounds_of c) → value_at (cells ++ fresh c ∷ []) (record { cell = length cells; at = at }) ≡ unset (kind_held c.shape)
  pub kept : (cells more : List Live) (q : Place) → q.cell < length cells → value_at (cells ++ more) q ≡ value_at cells q
  pub dropped : (cells : List Live) (first : ℕ) (q : Place) → q.cell < first → value_at (take first cells) q ≡ value_at cells q

-- a store changes no cell's shape or bounds, and makes and drops none
pub record ShapesStay : Type 0 where
  pub count : (cells : List Live) (p : Place) (v : Result Value ℕ) → length (stored_at cells p v) ≡ length cells
  pub shapes : (cells : List Live) (p : Place) (v : Result Value ℕ) (n : ℕ) → (cell_at (stored_at cells p v) n).cell ≡ (cell_at cells n).cell

-- a place is there as long as its cell is live: after a store anywhere, after new cells, and after cells behind
-- it were dropped
pub record PlacesStay : Type 0 where
  pub stored : (cells : List Live) (p q : Place) (v : Result Value ℕ) → IsPlace cells p → IsPlace (stored_at cells q v) p
  pub made : (cells more : List Live) (p : Place) → IsPlace cells p → IsPlace (cells ++ more) p
  pub dropped : (cells : List Live) (first : ℕ) (p : Place) → p.cell < first → IsPlace cells p → IsPlace (take first cells) p
