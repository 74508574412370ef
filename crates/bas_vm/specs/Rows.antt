-- What the functions for the rows promise.
use Rattle.std.specs.Prelude.{◌≡◌, ℕ, suc, ◌+◌, ◌∷◌, ◌++◌, List, [], length, Option, Some, None, Result, Ok, Err, Bool, true, false, ◌&&◌, nat_lt, if◌then◌else◌}
use Rattle.bas_dec.specs.Number.{Number as Decimal}
use Rattle.bas_mean.specs.World.{seen, with_cells, with_left}
use Rattle.bas_mean.specs.Outcome.{Exception}
use Rattle.bas_mean.specs.Outcome as run
use Rattle.bas_mean.specs.Operators.{Answer, Found, Raises, Adds, Subtracts, Multiplies, Divides, Powers, apply}
use Rattle.bas_mean.specs.Printing.{margin}
use Rattle.bas_code.specs.declared.instr.Instr.{Instr}
use Rattle.bas_code.specs.declared.instr.Instr.TheVariants as instr
use Rattle.bas_code.specs.declared.instr.JumpInstr.{JumpInstr}
use Rattle.bas_code.specs.declared.instr.JumpInstr.TheVariants.{Jump, JumpFalse, JumpTrue}
use Rattle.bas_code.specs.declared.instr.ArithInstr.{ArithInstr}
use Rattle.bas_code.specs.declared.instr.ArithInstr.TheVariants.{Add, Sub, Mul, Div, Power, Negate}
use Rattle.bas_code.specs.declared.body.Proc.{Proc}
use Rattle.bas_code.specs.declared.body.Image.{Image}
use Rattle.bas_code.specs.State.{Spot as Reference, Operand as Standing, Memory, MachineWorld, State, Run, Over}
use Rattle.bas_code.specs.Machine.{act, raised, stores, on_spots}
use Rattle.bas_base.specs.declared.exception.ExAt.{ExAt}
use Rattle.bas_world.specs.declared.sink.SinkFail.{SinkFail}
use Rattle.bas_world.specs.declared.sink.SinkFail.TheVariants as sink
use Rattle.bas_vm.specs.declared.turn.Turn.{Turn}
use Rattle.bas_vm.specs.declared.turn.Turn.TheVariants.{Ended, Stopped, LinesSpent, Lost, Refused, OutputFault}
use Rattle.bas_vm.specs.declared.turn.Turn.TheVariants as turn
use Rattle.bas_vm.specs.declared.turn.Step.{Step}
use Rattle.bas_vm.specs.declared.turn.Step.TheVariants.{Onward, Goes, Ends}
use Rattle.bas_vm.specs.Shown.{reference, memory_of}

-- an exception, as the definition has it
abbrev pub exception_at : ExAt → Exception
exception_at at = record { number = at.ex; line = at.line; unit = at.unit }

-- the run gave up: the output failed, or there was no memory
abbrev pub gives_up : Turn → Bool
gives_up OutputFault = true
gives_up turn.Memory = true
gives_up Ended = false
gives_up (Stopped at) = false
gives_up LinesSpent = false
gives_up Lost = false
gives_up Refused = false

-- the state is the end that a turn tells, in a world; nothing is said where there was no memory
abbrev pub EndsAs : State → Turn → MachineWorld → Type 0
EndsAs c Ended w = c ≡ Over (run.Ended (seen w))
EndsAs c (Stopped at) w = c ≡ Over (run.Stopped (exception_at at) (seen w))
EndsAs c LinesSpent w = c ≡ Over (run.GoesOn (seen w))
EndsAs c Lost w = c ≡ Over run.Lost
EndsAs c Refused w = ⊥
EndsAs c OutputFault w = ⊥
EndsAs c turn.Memory w = Unit {0}

-- the state is the one to which a step from an address leads, with that stack and world
abbrev pub Leads : State → (body pc : ℕ) → Step → List Standing → MachineWorld → Type 0
Leads c body pc Onward stack w = c ≡ Run body (suc pc) stack [] [] w
Leads c body pc (Goes a) stack w = c ≡ Run body a stack [] [] w
Leads c body pc (Ends t) stack w = EndsAs c t w

-- the address to which a step goes, other than the next one
abbrev pub goes_to : Step → Option ℕ
goes_to Onward = None
goes_to (Goes a) = Some a
goes_to (Ends t) = None

-- an operand was pushed, or there was no memory for it
abbrev pub IsPushed : Step → (old new : List Standing) → Standing → Type 0
IsPushed Onward old new x = new ≡ x ∷ old
IsPushed (Goes a) old new x = ⊥
IsPushed (Ends t) old new x = t ≡ turn.Memory

-- an instruction that changes nothing but the stack, in any body
abbrev pub Moves : Instr → (old : List Standing) → Step → (new : List Standing) → Type 0
Moves i old step new =
    (image : Image) (proc : Proc) (body pc : ℕ) (w : MachineWorld) →
    Leads (act image proc i body pc old [] [] w) body pc step new w

-- an instruction that may raise, at an address of a body
abbrev pub MovesAt : Proc → (pc : ℕ) → Instr → (old : List Standing) → Step → (new : List Standing) → Type 0
MovesAt proc pc i old step new =
    (image : Image) (body : ℕ) (w : MachineWorld) →
    Leads (act image proc i body pc old [] [] w) body pc step new w

-- an instruction that reads a cell
abbrev pub Reads : Memory → Instr → (old : List Standing) → Step → (new : List Standing) → Type 0
Reads cells i old step new =
    (image : Image) (proc : Proc) (body pc : ℕ) (w : MachineWorld) → w.cells ≡ cells →
    Leads (act image proc i body pc old [] [] w) body pc step new w

-- an instruction that writes cells
abbrev pub Writes : (slots : ℕ) → (was now : List Decimal) → Instr → (old : List Standing) → Step → (new : List Standing) → Type 0
Writes slots was now i old step new =
    (image : Image) (proc : Proc) (body pc : ℕ) (w : MachineWorld) → w.cells ≡ memory_of slots was →
    Leads (act image proc i body pc old [] [] w) body pc step new (with_cells (memory_of slots now) w)

-- a mark
abbrev pub Marks : (was now : ℕ) → Step → Type 0
Marks was now step =
    (image : Image) (proc : Proc) (l body pc : ℕ) (stack : List Standing) (w : MachineWorld) → w.left ≡ was →
    Leads (act image proc (instr.Mark l) body pc stack [] [] w) body pc step stack (with_left now w)

-- what an operator gives, or the number of the exception that it raises
abbrev pub IsAnswer : Result Decimal ℕ → Answer Decimal → Type 0
IsAnswer (Ok z) a = a ≡ Found z
IsAnswer (Err x) a = a ≡ Raises x

-- the value of the instructions that pop two numbers
abbrev pub value_of : ArithInstr → Decimal → Decimal → Answer Decimal
value_of Add x y = apply Adds x y
value_of Sub x y = apply Subtracts x y
value_of Mul x y = apply Multiplies x y
value_of Div x y = apply Divides x y
value_of Power x y = apply Powers x y
value_of Negate x y = Found y

-- where an instruction jumps
abbrev pub jump_target : JumpInstr → ℕ
jump_target (Jump a) = a
jump_target (JumpFalse a) = a
jump_target (JumpTrue a) = a

-- what ends the print line where an item of so many bytes does not fit behind what stands on it
abbrev pub room_bytes : (column count : ℕ) → List ℕ
room_bytes column count = if nat_lt 0 column && nat_lt margin (column + count) then 10 ∷ [] else []

-- the column at which such an item begins
abbrev pub room_column : (column count : ℕ) → ℕ
room_column column count = if nat_lt 0 column && nat_lt margin (column + count) then 0 else column

-- the bytes of an item behind what stands on the print line
abbrev pub item_bytes : (column : ℕ) → List ℕ → List ℕ
item_bytes column text = room_bytes column (length text) ++ text

-- the column behind that item
abbrev pub item_column : (column : ℕ) → List ℕ → ℕ
item_column column text = room_column column (length text) + length text

-- the turn of a sink that failed
abbrev pub turn_of : SinkFail → Turn
turn_of sink.Failed = OutputFault
turn_of sink.Memory = turn.Memory

-- an exception that arises at an address of a body ends the run as a turn tells
abbrev pub StopsBy : Proc → (pc : ℕ) → ℕ → Turn → Type 0
StopsBy proc pc x t = (image : Image) (body : ℕ) (w : MachineWorld) → EndsAs (raised image proc x body pc [] [] w) t w

-- a state, or the loss of the run
abbrev pub state_if : Bool → State → State
state_if true c = c
state_if false c = Over run.Lost

-- a number is stored in a cell, which comes before those of other references
abbrev pub StoresOne : (n : ℕ) → Decimal → (was : List Decimal) → Bool → (now : List Decimal) → Type 0
StoresOne n x was done now =
    (image : Image) (proc : Proc) (body pc slots : ℕ) (later : List Reference) (go : MachineWorld → State) (w : MachineWorld) → w.cells ≡ memory_of slots was →
    stores image proc (reference n ∷ later) x body pc [] [] go w ≡ state_if done (stores image proc later x body pc [] [] go (with_cells (memory_of slots now) w))

-- a number is stored through so many references, which come before others
abbrev pub StoresEach : (count : ℕ) → Decimal → (was : List Decimal) → (old : List Standing) → Bool → (now : List Decimal) → (new : List Standing) → Type 0
StoresEach count x was old done now new =
    (image : Image) (proc : Proc) (body pc slots : ℕ) (later : List Reference) (go : List Standing → MachineWorld → State) (w : MachineWorld) → w.cells ≡ memory_of slots was →
    on_spots count old later (λ ms below. stores image proc ms x body pc [] [] (λ w1. go below w1) w)
    ≡ state_if done (stores image proc later x body pc [] [] (λ w1. go new w1) (with_cells (memory_of slots now) w))
