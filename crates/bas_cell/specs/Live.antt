-- The live cells of a run, with their shapes, bounds and values, and the places in them.
use Rattle.std.specs.Prelude.{ℕ, ◌-◌, ◌<◌, Bool, ◌&&◌, nat_le, if◌then◌else◌, ℤ, pos, unsigned_abs, List, [], take, length, replicate, slice_get, slice_index_or, slice_set, Option, None, Result, Ok, Err}
use Rattle.std.specs.Int.Signed.{le_z}
use Rattle.bas_face.specs.declared.shape.Cell.{Cell}
use Rattle.bas_face.specs.declared.shape.Shape.{Shape}
use Rattle.bas_face.specs.declared.shape.Shape.TheVariants.{NumArray, StrArray, Channel}
use Rattle.bas_fileval.specs.Kind as kind
use Rattle.bas_fileval.specs.Value.{Value, unset}
use Rattle.bas_cell.specs.declared.bounds.TheConstants.{MOST_DIMENSIONS}
use Rattle.bas_cell.specs.Bounds.{are_bounds, elements}
use Rattle.bas_cell.specs.Holding.{kind_held}

-- the dimensions of an array; a scalar has none
abbrev pub dimensions : Shape → ℕ
dimensions (NumArray type n) = n
dimensions (StrArray length n) = n
dimensions _ = 0

-- the bounds of the dimensions
abbrev pub bounds_of : Cell → List (ℤ × ℤ)
bounds_of cell = take (dimensions cell.shape) cell.bounds

-- the bounds of the k-th dimension, counted from 1
abbrev pub dimension_bounds : Cell → (k : ℤ) → Option (ℤ × ℤ)
dimension_bounds cell k = if le_z (pos 1) k then slice_get (bounds_of cell) (unsigned_abs k - 1) else None

-- a cell that may be made: a scalar, or an array of bounds that an array may have
abbrev pub can_be_made : Cell → Bool
can_be_made cell = nat_le (dimensions cell.shape) MOST_DIMENSIONS && are_bounds (bounds_of cell)

-- a cell and its values: a scalar has one, and an array one for each element, row by row
pub record Live : Type 0 where
  pub cell : Cell
  pub values : List Value

-- a cell as it is made, with numbers of 0 or empty strings
abbrev pub fresh : Cell → Live
fresh cell = record { cell = cell; values = replicate (elements (bounds_of cell)) (unset (kind_held cell.shape)) }

-- a cell with another value at that number
abbrev pub with_value : Live → (at : ℕ) → Value → Live
with_value live at v = record live { values = slice_set live.values at v }

-- a cell after a store: the value as it is held; where it does not fit, the cell stays
abbrev pub after_store : Live → (at : ℕ) → Result Value ℕ → Live
after_store live at (Ok v) = with_value live at v
after_store live at (Err ex) = live

-- a place for a value: the number of its cell, counted from 0, and its number among the values there
pub record Place : Type 0 where
  pub cell : ℕ
  pub at : ℕ

-- the cell of that number
abbrev pub cell_at : List Live → ℕ → Live
cell_at cells n = slice_index_or cells n (record { cell = record { shape = Channel; bounds = [] }; values = [] })

-- the shape of the cell that a place is in
abbrev pub shape_at : List Live → Place → Shape
shape_at cells p = (cell_at cells p.cell).cell.shape

-- a place that there is
pub record IsPlace (cells : List Live) (p : Place) : Type 0 where
  pub live : p.cell < length cells
  pub inside : p.at < length (cell_at cells p.cell).values

-- the value in a list of values
abbrev pub value_in : List Value → (at : ℕ) → Value
value_in values at = slice_index_or values at (unset kind.Number)

-- the value at a place
abbrev pub value_at : List Live → Place → Value
value_at cells p = value_in (cell_at cells p.cell).values p.at

-- the cells with another value at a place
abbrev pub with_value_at : List Live → Place → Value → List Live
with_value_at cells p v = slice_set cells p.cell (with_value (cell_at cells p.cell) p.at v)

-- the cells after a store at a place
abbrev pub stored_at : List Live → Place → Result Value ℕ → List Live
stored_at cells p (Ok v) = with_value_at cells p v
stored_at cells p (Err ex) = cells
