-- What the machine holds, as the definition of the machine has it.
use Rattle.std.specs.Prelude.{ℕ, List, [], map, reverse}
use Rattle.bas_dec.specs.Number.{Number as Decimal}
use Rattle.bas_mean.specs.World.{Cell}
use Rattle.bas_code.specs.State.{Spot as Reference, Operand as Standing, ANumber, ATruth, ASpot, Frame, Memory, MachineWorld, slots_from}
use Rattle.bas_vm.specs.declared.operand.Operand.{Operand}
use Rattle.bas_vm.specs.declared.operand.Operand.TheVariants.{Number, Truth, Spot}
use Rattle.bas_vm.specs.declared.held.Held.{Held}

-- the reference to a cell
abbrev pub reference : ℕ → Reference
reference n = record { cell = n }

-- an operand
abbrev pub operand_of : Operand → Standing
operand_of (Number x) = ANumber x
operand_of (Truth b) = ATruth b
operand_of (Spot n) = ASpot (reference n)

-- operands, of which the last one was pushed last
unfoldable pub stacked : List Operand → List Standing
stacked items = reverse (map operand_of items)

-- a cell that holds a number
abbrev pub cell_with : Decimal → Cell
cell_with x = record { number = x }

-- the cells that hold these numbers
unfoldable pub cells_of : List Decimal → List Cell
cells_of numbers = map cell_with numbers

-- the frame of a program with that many slots
abbrev pub frame_of : (slots : ℕ) → Frame
frame_of slots = record { own = slots_from 0 slots; container = []; first = 0 }

-- the memory of a program with that many slots
abbrev pub memory_of : (slots : ℕ) → List Decimal → Memory
memory_of slots numbers = record { cells = cells_of numbers; frame = frame_of slots }

-- the world of a program that still has that input, has printed that output, and has caught nothing
abbrev pub world_of : (slots : ℕ) → (input output : List ℕ) → Held → MachineWorld
world_of slots input output held = record {
  left = held.left;
  cells = memory_of slots held.cells.items;
  terminal = record { input = input; output = output; report = []; column = held.column };
  caught = record { number = 0; line = 0 };
}
