-- The machine: one row for each instruction, and runs of instructions.
use Rattle.std.specs.Prelude.{ℕ, zero, suc, ◌+◌, Bool, true, false, List, [], ◌∷◌, Option, Some, None, nat_eq, nat_lt, slice_get, slice_set, take, ◌≡◌, if◌then◌else◌}
use Rattle.bas_dec.specs.Number.{Number}
use Rattle.bas_dec.specs.Arithmetic.{negated}
use Rattle.bas_dec.specs.Text.{text_of}
use Rattle.bas_ast.specs.Tree as tree
use Rattle.bas_mean.specs.World.{Cell, with_cells, with_left, with_caught, seen, first_world}
use Rattle.bas_mean.specs.Printing.{with_item, with_line_ended}
use Rattle.bas_mean.specs.Outcome.{Exception, RunEnd, Ended, Stopped, GoesOn, Lost}
use Rattle.bas_mean.specs.Operators.{Answer, Found, Raises, Operator, Adds, Subtracts, Multiplies, Divides, Powers, apply, related}
use Rattle.bas_mean.specs.Place.{is_full}
use Rattle.bas_mean.specs.Expression.{fitted}
use Rattle.bas_code.specs.declared.instr.TheConstants.{TERMINAL}
use Rattle.bas_code.specs.declared.instr.Relation.{Relation}
use Rattle.bas_code.specs.declared.instr.Relation.TheVariants.{Equal, NotEqual, Less, Greater, AtMost, AtLeast}
use Rattle.bas_code.specs.declared.instr.Instr.{Instr}
use Rattle.bas_code.specs.declared.instr.Instr.TheVariants as instr
use Rattle.bas_code.specs.declared.instr.JumpInstr.TheVariants.{Jump, JumpFalse, JumpTrue}
use Rattle.bas_code.specs.declared.instr.RunInstr.TheVariants.{End}
use Rattle.bas_code.specs.declared.instr.PushInstr.TheVariants.{Num, Load, Ref}
use Rattle.bas_code.specs.declared.instr.StoreInstr.TheVariants.{Store}
use Rattle.bas_code.specs.declared.instr.ArithInstr.{ArithInstr}
use Rattle.bas_code.specs.declared.instr.ArithInstr.TheVariants.{Add, Sub, Mul, Div, Power, Negate}
use Rattle.bas_code.specs.declared.instr.CompareInstr.TheVariants.{CompareNum}
use Rattle.bas_code.specs.declared.instr.PrintInstr.TheVariants.{PrintNum, PrintEnd}
use Rattle.bas_code.specs.declared.body.BodyKind.{BodyKind}
use Rattle.bas_code.specs.declared.body.BodyKind.TheVariants.{Main, External, Internal, Initial}
use Rattle.bas_code.specs.declared.body.LineEntry.{LineEntry}
use Rattle.bas_code.specs.declared.body.Guard.{Guard}
use Rattle.bas_code.specs.declared.body.Proc.{Proc}
use Rattle.bas_code.specs.declared.body.Image.{Image}
use Rattle.bas_code.specs.State.{Spot, Frame, MachineWorld, Operand, ANumber, AText, ATruth, ASpot, Activation, Waiting, AtGosub, AtCall, State, Run, Over, spot_of, entered, empty_memory, depth_of}
use Rattle.bas_code.specs.Guards.{Tag, handlers_at, entry_at}

-- the top of the stack

-- pops a number
abbrev pub on_number : List Operand → (Number → List Operand → State) → State
on_number [] go = Over Lost
on_number (ANumber x ∷ stack) go = go x stack
on_number (AText text ∷ stack) go = Over Lost
on_number (ATruth b ∷ stack) go = Over Lost
on_number (ASpot m ∷ stack) go = Over Lost

-- pops a truth
abbrev pub on_truth : List Operand → (Bool → List Operand → State) → State
on_truth [] go = Over Lost
on_truth (ANumber x ∷ stack) go = Over Lost
on_truth (AText text ∷ stack) go = Over Lost
on_truth (ATruth b ∷ stack) go = go b stack
on_truth (ASpot m ∷ stack) go = Over Lost

-- pops a reference
abbrev pub on_spot : List Operand → (Spot → List Operand → State) → State
on_spot [] go = Over Lost
on_spot (ANumber x ∷ stack) go = Over Lost
on_spot (AText text ∷ stack) go = Over Lost
on_spot (ATruth b ∷ stack) go = Over Lost
on_spot (ASpot m ∷ stack) go = go m stack

-- k references, in the order in which they were pushed
abbrev pub on_spots : ℕ → List Operand → List Spot → (List Spot → List Operand → State) → State
on_spots zero stack spots go = go spots stack
on_spots (suc k) stack spots go = on_spot stack (λ m rest. on_spots k rest (m ∷ spots) go)

-- continues with what is there; without it the run is lost
abbrev pub with_some : {A : Type 0} → Option A → (A → State) → State
with_some None go = Over Lost
with_some (Some a) go = go a

-- the cell of a reference
abbrev pub cell_of : Spot → MachineWorld → Option Cell
cell_of m w = slice_get w.cells.cells m.cell

-- the world with a number in the cell of a reference, which held c
abbrev pub with_number_at : Spot → Cell → Number → MachineWorld → MachineWorld
with_number_at m c x w = with_cells (record { cells = slice_set w.cells.cells m.cell (record c { number = x }); frame = w.cells.frame }) w

-- starts the first handler of a list for an exception at a line; without one continues with `nobody`,
-- and with `deep` if one more activation would be too deep
abbrev pub started : (body : ℕ) → Exception → LineEntry → List Tag → List Activation → List Waiting → (nobody deep : MachineWorld → State) → MachineWorld → State
started body x entry [] acts callers nobody deep w = nobody w
started body x entry (t ∷ tags) acts callers nobody deep w =
    if is_full (depth_of acts callers) then deep w
    else Run body t.guard.handler [] (record { x = x; entry = entry; guard = t.guard; base = t.base } ∷ acts) callers (with_caught x.number x.line w)

-- an exception that leaves an external body has a number from 100000 on
abbrev pub left_number : BodyKind → ℕ → ℕ
left_number Main x = x
left_number External x = if nat_lt x 100000 then x + 100000 else x
left_number Internal x = x
left_number Initial x = x

-- an exception that leaves a body
abbrev pub left_with : Option Proc → Exception → Exception
left_with None x = x
left_with (Some p) x = record x { number = left_number p.kind x.number }

-- the cells of an invocation go when it ends, and the frame is the caller's again
abbrev pub back_in : Frame → MachineWorld → MachineWorld
back_in frame w = with_cells (record { cells = take w.cells.frame.first w.cells.cells; frame = frame }) w

-- the guards of a body
abbrev pub guards_of : Option Proc → List Guard
guards_of None = []
guards_of (Some p) = p.guards

-- the line table of a body
abbrev pub lines_of : Option Proc → List LineEntry
lines_of None = []
lines_of (Some p) = p.lines

-- the unit of a body
abbrev pub unit_of : Option Proc → List ℕ
unit_of None = []
unit_of (Some p) = p.unit

-- exception x that arises at a line of a unit
abbrev pub exception_in : (unit : List ℕ) → LineEntry → ℕ → Exception
exception_in unit entry x = record { number = x; line = entry.line; unit = unit }

-- ends the present run, of that body, with an exception, which the waiting line raises again
abbrev pub unwound : Image → (body : ℕ) → Exception → List Waiting → MachineWorld → State
unwound image body x [] w = Over (Stopped x (seen w))
unwound image body x (AtGosub b pc acts ∷ callers) w =
    with_some (entry_at (lines_of (slice_get image.procs b)) pc) (λ entry.
    started b x entry (handlers_at (guards_of (slice_get image.procs b)) pc acts) acts callers
    (λ w1. unwound image b x callers w1) (λ w1. unwound image b (exception_in (unit_of (slice_get image.procs b)) entry 5002) callers w1) w)
unwound image body x (AtCall b pc stack acts frame ∷ callers) w =
    with_some (entry_at (lines_of (slice_get image.procs b)) pc) (λ entry.
    let y = left_with (slice_get image.procs body) x in
    started b y entry (handlers_at (guards_of (slice_get image.procs b)) pc acts) acts callers
    (λ w1. unwound image b y callers w1) (λ w1. unwound image b (exception_in (unit_of (slice_get image.procs b)) entry 5002) callers w1) (back_in frame w))

-- raises x at an address: the first handler of the list is started, or the run ends
abbrev pub raised : Image → Proc → ℕ → (body pc : ℕ) → List Activation → List Waiting → MachineWorld → State
raised image proc x body pc acts callers w =
    with_some (entry_at proc.lines pc) (λ entry.
    started body (exception_in proc.unit entry x) entry (handlers_at proc.guards pc acts) acts callers
    (λ w1. unwound image body (exception_in proc.unit entry x) callers w1) (λ w1. unwound image body (exception_in proc.unit entry 5002) callers w1) w)

-- an answer, at an address
abbrev pub on_answer : {V : Type 0} → Image → Proc → Answer V → (body pc : ℕ) → List Activation → List Waiting → (V → MachineWorld → State) → MachineWorld → State
on_answer image proc (Found v) body pc acts callers go w = go v w
on_answer image proc (Raises x) body pc acts callers go w = raised image proc x body pc acts callers w

-- takes one line, or ends where none is left
abbrev pub marked : ℕ → (MachineWorld → State) → MachineWorld → State
marked zero go w = Over (GoesOn (seen w))
marked (suc left) go w = go (with_left left w)

-- one of two states
abbrev pub goes : Bool → (there on : State) → State
goes true there on = there
goes false there on = on

-- the operators that pop two numbers
abbrev pub operator_of : ArithInstr → Option Operator
operator_of Add = Some Adds
operator_of Sub = Some Subtracts
operator_of Mul = Some Multiplies
operator_of Div = Some Divides
operator_of Power = Some Powers
operator_of Negate = None

-- the relation that an instruction asks for
abbrev pub rel_of : Relation → tree.Rel
rel_of Equal = tree.Equal
rel_of NotEqual = tree.NotEqual
rel_of Less = tree.Less
rel_of Greater = tree.Greater
rel_of AtMost = tree.AtMost
rel_of AtLeast = tree.AtLeast

-- stores a number through each reference
abbrev pub stores : Image → Proc → List Spot → Number → (body pc : ℕ) → List Activation → List Waiting → (MachineWorld → State) → MachineWorld → State
stores image proc [] x body pc acts callers go w = go w
stores image proc (m ∷ spots) x body pc acts callers go w =
    with_some (cell_of m w) (λ c. on_answer image proc (fitted c x) body pc acts callers
    (λ y w1. stores image proc spots x body pc acts callers go (with_number_at m c y w1)) w)

-- one row for each instruction
abbrev pub act : Image → Proc → Instr → (body pc : ℕ) → List Operand → List Activation → List Waiting → MachineWorld → State
act image proc (instr.Mark l) body pc stack acts callers w = marked w.left (λ w1. Run body (suc pc) stack acts callers w1) w
act image proc (instr.Jump (Jump a)) body pc stack acts callers w = Run body a stack acts callers w
act image proc (instr.Jump (JumpFalse a)) body pc stack acts callers w =
    on_truth stack (λ b rest. goes b (Run body (suc pc) rest acts callers w) (Run body a rest acts callers w))
act image proc (instr.Jump (JumpTrue a)) body pc stack acts callers w =
    on_truth stack (λ b rest. goes b (Run body a rest acts callers w) (Run body (suc pc) rest acts callers w))
act image proc (instr.Run End) body pc stack acts callers w = Over (Ended (seen w))
act image proc (instr.Push (Num x)) body pc stack acts callers w = Run body (suc pc) (ANumber x ∷ stack) acts callers w
act image proc (instr.Push (Load p)) body pc stack acts callers w =
    with_some (spot_of p w.cells.frame) (λ m. with_some (cell_of m w) (λ c. Run body (suc pc) (ANumber c.number ∷ stack) acts callers w))
act image proc (instr.Push (Ref p)) body pc stack acts callers w =
    with_some (spot_of p w.cells.frame) (λ m. Run body (suc pc) (ASpot m ∷ stack) acts callers w)
act image proc (instr.Store (Store k)) body pc stack acts callers w =
    on_number stack (λ x rest. on_spots k rest [] (λ spots below.
    stores image proc spots x body pc acts callers (λ w1. Run body (suc pc) below acts callers w1) w))
act image proc (instr.Arith Negate) body pc stack acts callers w =
    on_number stack (λ x rest. Run body (suc pc) (ANumber (negated x) ∷ rest) acts callers w)
act image proc (instr.Arith i) body pc stack acts callers w =
    with_some (operator_of i) (λ op. on_number stack (λ y rest. on_number rest (λ x below.
    on_answer image proc (apply op x y) body pc acts callers (λ z w1. Run body (suc pc) (ANumber z ∷ below) acts callers w1) w)))
act image proc (instr.Compare (CompareNum r)) body pc stack acts callers w =
    on_number stack (λ y rest. on_number rest (λ x below. Run body (suc pc) (ATruth (related (rel_of r) x y) ∷ below) acts callers w))
act image proc (instr.Print (PrintNum d)) body pc stack acts callers w =
    on_number stack (λ x rest. goes (nat_eq d TERMINAL) (Run body (suc pc) rest acts callers (with_item (text_of x) w)) (Over Lost))
act image proc (instr.Print (PrintEnd d)) body pc stack acts callers w =
    goes (nat_eq d TERMINAL) (Run body (suc pc) stack acts callers (with_line_ended w)) (Over Lost)

-- executes the instruction at an address
abbrev pub step : Image → (body pc : ℕ) → List Operand → List Activation → List Waiting → MachineWorld → State
step image body pc stack acts callers w =
    with_some (slice_get image.procs body) (λ proc. with_some (slice_get proc.code pc) (λ i. act image proc i body pc stack acts callers w))

-- at most k instructions: the end, if it is reached
unfoldable pub exec : Image → ℕ → State → Option RunEnd
exec image k (Over e) = Some e
exec image zero (Run body pc stack acts callers w) = None
exec image (suc k) (Run body pc stack acts callers w) = exec image k (step image body pc stack acts callers w)

-- the start of the first program of an image, for n lines, with that input
abbrev pub program_started : Option Proc → (body n : ℕ) → (input : List ℕ) → State
program_started None body n input = Over Lost
program_started (Some p) body n input = Run body 0 [] [] [] (with_cells (entered p.slots empty_memory) (first_world n input))

-- the first of the programs is started
abbrev pub first_started : Image → List (List ℕ × ℕ) → (n : ℕ) → (input : List ℕ) → State
first_started image [] n input = Over Lost
first_started image (program ∷ programs) n input = program_started (slice_get image.procs program.1) program.1 n input

-- the image runs for n lines, with that input, to that end
pub record Runs (image : Image) (n : ℕ) (input : List ℕ) (e : RunEnd) : Type 0 where
  pub steps : ℕ
  pub ends : exec image steps (first_started image image.programs n input) ≡ Some e
