-- The machine's memory as it shows the cells of the meaning. It depends on the invocation alone.
use Rattle.std.specs.Prelude.{◌≡◌, ◌⊎◌, ℕ, ◌+◌, List, [], ◌∷◌, ◌++◌, length, Some, slice_get}
use Rattle.bas_mean.specs.World.{Variable, Cell, Ref, NamedCells, World, with_cells}
use Rattle.bas_code.specs.State.{Frame, MachineWorld}

-- what belongs to an invocation on both sides: what each variable stands for, the frame, and the
-- variables that have cells, by live invocation, the latest first
pub record Invocation : Type 0 where
  pub refs : Variable → Ref
  pub frame : Frame
  pub shape : List (List Variable)

-- the cells of these variables
abbrev pub cells_of : (Variable → Cell) → List Variable → List Cell
cells_of f [] = []
cells_of f (x ∷ xs) = f x ∷ cells_of f xs

-- how many cells there are
abbrev pub size_of : List (List Variable) → ℕ
size_of [] = 0
size_of (variables ∷ shape) = size_of shape + length variables

-- the cells of all live invocations, those of the first one in front
abbrev pub all_cells : List (List Variable) → NamedCells → List Cell
all_cells [] cells = []
all_cells (variables ∷ shape) cells = all_cells shape cells ++ cells_of (cells (length shape)) variables

-- the machine's world that shows a world of the meaning
abbrev pub shown : Invocation → World → MachineWorld
shown v w = with_cells (record { cells = all_cells v.shape w.cells; frame = v.frame }) w

-- cell c is that of a variable of the latest invocation, before whose cells k others stand
pub record StandsIn (variables : List Variable) (invocation k : ℕ) (r : Ref) (c : ℕ) : Type 0 where
  pub same : r.invocation ≡ invocation
  pub slot : ℕ
  pub at : slice_get variables slot ≡ Some r.variable
  pub cell : c ≡ k + slot

-- cell c is the one of a reference
abbrev pub Lives : List (List Variable) → Ref → ℕ → Type 0
Lives [] r c = ⊥
Lives (variables ∷ shape) r c = StandsIn variables (length shape) (size_of shape) r c ⊎ Lives shape r c

-- no variable has two cells
abbrev pub Distinct : List Variable → Type 0
Distinct variables = (s t : ℕ) (x : Variable) → slice_get variables s ≡ Some x → slice_get variables t ≡ Some x → s ≡ t

-- no variable has two cells in any invocation
abbrev pub AllDistinct : List (List Variable) → Type 0
AllDistinct [] = Unit {0}
AllDistinct (variables ∷ shape) = Distinct variables × AllDistinct shape
