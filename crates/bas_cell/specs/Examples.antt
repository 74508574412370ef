-- Small arrays and cells for the worked examples; no definition reads them.
use Rattle.std.specs.Prelude.{ℕ, ℤ, pos, neg_ℤ, List, [], ◌∷◌}
use Rattle.bas_dec.specs.declared.types.NumType.{NumType}
use Rattle.bas_dec.specs.declared.types.NumType.TheVariants.{General, Fix}
use Rattle.bas_face.specs.declared.shape.Cell.{Cell}
use Rattle.bas_face.specs.declared.shape.Shape.{Shape}
use Rattle.bas_face.specs.declared.shape.Shape.TheVariants as shape
use Rattle.bas_fileval.specs.Value.{Value, Num}
use Rattle.bas_cell.specs.Holding.{held}
use Rattle.bas_cell.specs.Live.{Live, Place, fresh, shape_at, value_at, stored_at}

-- `DIM A(1 TO 2, 0 TO 2)`
abbrev pub table : List (ℤ × ℤ)
table = (pos 1, pos 2) ∷ (pos 0, pos 2) ∷ []

-- `DIM A(-2 TO 1)`
abbrev pub around_zero : List (ℤ × ℤ)
around_zero = (neg_ℤ (pos 2), pos 1) ∷ []

-- `DIM A(0 TO 1, 1 TO 2, 1 TO 3)`
abbrev pub box : List (ℤ × ℤ)
box = (pos 0, pos 1) ∷ (pos 1, pos 2) ∷ (pos 1, pos 3) ∷ []

-- `*m.n`
abbrev pub digits : ℕ → ℕ → NumType
digits m n = Fix (record { whole = m; places = n })

-- the number c / 10^s
abbrev pub decimal : ℤ → ℕ → Value
decimal c s = Num (record { coefficient = c; scale = s })

-- a cell of a shape; a scalar has no bounds
abbrev pub cell_of : Shape → List (ℤ × ℤ) → Cell
cell_of shape bounds = record { shape = shape; bounds = bounds }

-- `X*3.2`, `S$*5`, `A(1 TO 3)` and `B$(1 TO 2)*1`, as they are made
abbrev pub four_cells : List Live
four_cells =
    fresh (cell_of (shape.Num (digits 3 2)) []) ∷ fresh (cell_of (shape.Str 5) [])
    ∷ fresh (cell_of (shape.NumArray General 1) ((pos 1, pos 3) ∷ []))
    ∷ fresh (cell_of (shape.StrArray 1 1) ((pos 1, pos 2) ∷ [])) ∷ []

abbrev pub place : ℕ → ℕ → Place
place n at = record { cell = n; at = at }

-- the cells after a value was stored there, and the value that is there
abbrev pub store : List Live → ℕ → ℕ → Value → List Live
store cells n at v = stored_at cells (place n at) (held (shape_at cells (place n at)) v)

abbrev pub load : List Live → ℕ → ℕ → Value
load cells n at = value_at cells (place n at)
