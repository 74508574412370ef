-- The values of a cell as the program holds them, all of one kind, as plain values.
use Rattle.std.specs.Prelude.{◌≡◌, true, List, [], ◌∷◌, map, length}
use Rattle.bas_face.specs.declared.shape.Cell.{Cell}
use Rattle.bas_fileval.specs.Kind as kind
use Rattle.bas_fileval.specs.Value as value
use Rattle.bas_cell.specs.declared.values.Values.{Values}
use Rattle.bas_cell.specs.declared.values.Values.TheVariants.{Number, Text, Numbers, Texts}
use Rattle.bas_cell.specs.Bounds.{elements}
use Rattle.bas_cell.specs.Holding.{kind_held}
use Rattle.bas_cell.specs.Live.{can_be_made, bounds_of}

-- the plain values, in order
abbrev pub plain_values : Values → List value.Value
plain_values (Number x) = value.Num x ∷ []
plain_values (Text bytes) = value.Text bytes ∷ []
plain_values (Numbers numbers) = map value.Num numbers.items
plain_values (Texts texts) = map value.Text texts.items

-- their kind
abbrev pub kind_of_all : Values → kind.Kind
kind_of_all (Number x) = kind.Number
kind_of_all (Text bytes) = kind.Text
kind_of_all (Numbers numbers) = kind.Number
kind_of_all (Texts texts) = kind.Text

-- the values that a cell is to have: one of its kind for each element
pub record IsFilled (cell : Cell) (values : Values) : Type 0 where
  pub made : can_be_made cell ≡ true
  pub count : length (plain_values values) ≡ elements (bounds_of cell)
  pub same_kind : kind_of_all values ≡ kind_held cell.shape
