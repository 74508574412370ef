-- The world of a run. It is one type for the meaning and for the machine, but for what holds the
-- cells: the meaning keeps them by invocation and variable, the machine in a list.
use Rattle.std.specs.Prelude.{ℕ, Bool, false, ◌&&◌, List, [], nat_eq, pos, bytes_eq, if◌then◌else◌}
use Rattle.bas_dec.specs.Number.{Number}

-- what a cell belongs to: a name of the program, or a line, whose construct counts its own from 0
pub data Variable : Type 0 where
  OfName : (name : List ℕ) → Variable
  OfLine : (line which : ℕ) → Variable

-- whether two variables are the same
abbrev pub same_variable : Variable → Variable → Bool
same_variable (OfName a) (OfName b) = bytes_eq a b
same_variable (OfLine l i) (OfLine m j) = nat_eq l m && nat_eq i j
same_variable (OfName a) (OfLine m j) = false
same_variable (OfLine l i) (OfName b) = false

-- the cell of a numeric scalar
pub record Cell : Type 0 where
  pub number : Number

-- a cell as it begins
abbrev pub fresh_cell : Cell
fresh_cell = record { number = record { coefficient = pos 0; scale = 0 } }

-- a variable of an invocation; invocations are counted from the first one of the run
pub record Ref : Type 0 where
  pub invocation : ℕ
  pub variable : Variable

-- the cells of the meaning; those of an invocation that has ended are never read again
abbrev pub NamedCells : Type 0
NamedCells = ℕ → Variable → Cell

-- the cells with another one at a reference
abbrev pub with_cell : Ref → Cell → NamedCells → NamedCells
with_cell r c cells i x = if nat_eq i r.invocation && same_variable x r.variable then c else cells i x

-- the cells when an invocation begins
abbrev pub with_fresh : ℕ → NamedCells → NamedCells
with_fresh k cells i x = if nat_eq i k then fresh_cell else cells i x

-- the terminal: what is left of the input, what the output and the report took, and the print column
pub record Terminal : Type 0 where
  pub input : List ℕ
  pub output : List ℕ
  pub report : List ℕ
  pub column : ℕ

-- EXTYPE and EXLINE, both 0 before any handler has started
pub record Caught : Type 0 where
  pub number : ℕ
  pub line : ℕ

-- lines left, cells, terminal, and what the latest handler caught
pub record WorldOf (C : Type 0) : Type 0 where
  pub left : ℕ
  pub cells : C
  pub terminal : Terminal
  pub caught : Caught

-- the world of the meaning
abbrev pub World : Type 0
World = WorldOf NamedCells

-- the same world with other cells, also of another kind
abbrev pub with_cells : {C D : Type 0} → D → WorldOf C → WorldOf D
with_cells cells w = record { left = w.left; cells = cells; terminal = w.terminal; caught = w.caught }

-- the world with that many lines left
abbrev pub with_left : {C : Type 0} → ℕ → WorldOf C → WorldOf C
with_left n w = record w { left = n }

-- the world with another terminal
abbrev pub with_terminal : {C : Type 0} → Terminal → WorldOf C → WorldOf C
with_terminal t w = record w { terminal = t }

-- the world after a handler has started
abbrev pub with_caught : {C : Type 0} → (number line : ℕ) → WorldOf C → WorldOf C
with_caught number line w = record w { caught = record { number = number; line = line } }

-- what is seen of a world from outside
pub record Seen : Type 0 where
  pub left : ℕ
  pub terminal : Terminal

-- what is seen of a world
abbrev pub seen : {C : Type 0} → WorldOf C → Seen
seen w = record { left = w.left; terminal = w.terminal }

-- the world in which a run for n lines begins
abbrev pub first_world : ℕ → List ℕ → World
first_world n input = record {
  left = n;
  cells = λ i x. fresh_cell;
  terminal = record { input = input; output = []; report = []; column = 0 };
  caught = record { number = 0; line = 0 };
}
