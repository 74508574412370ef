-- What executing one instruction promises, with its output.
use Rattle.std.specs.Prelude.{◌≡◌, ℕ, suc, ◌+◌, ◌++◌, List, [], Option, Some, None, Bool, true, false}
use Rattle.bas_code.specs.declared.instr.Instr.{Instr}
use Rattle.bas_code.specs.declared.instr.Instr.TheVariants as instr
use Rattle.bas_code.specs.declared.body.Proc.{Proc}
use Rattle.bas_code.specs.declared.body.Image.{Image}
use Rattle.bas_code.specs.State.{State, Run}
use Rattle.bas_code.specs.Machine.{act}
use Rattle.bas_vm.specs.declared.held.Held.{Held}
use Rattle.bas_vm.specs.declared.turn.Turn.{Turn}
use Rattle.bas_vm.specs.declared.turn.Turn.TheVariants.{Ended, Stopped, LinesSpent, Lost, Refused, OutputFault, Memory}
use Rattle.bas_vm.specs.declared.turn.Step.{Step}
use Rattle.bas_vm.specs.declared.turn.Step.TheVariants.{Onward, Goes, Ends}
use Rattle.bas_vm.specs.Shown.{stacked, world_of}
use Rattle.bas_vm.specs.Rows.{Leads, gives_up, jump_target}
use Rattle.bas_vm.specs.Took.{TookAll, TookPrefix}

-- the state of a run at an address, with that input left and that output
abbrev pub state_at : Proc → (body : ℕ) → (input output : List ℕ) → (pc : ℕ) → Held → State
state_at proc body input output pc held = Run body pc (stacked held.stack.items) [] [] (world_of proc.slots input output held)

-- what an instruction does in such a state
abbrev pub acted : Image → Proc → (body pc : ℕ) → Instr → (input output : List ℕ) → Held → State
acted image proc body pc i input output held = act image proc i body pc (stacked held.stack.items) [] [] (world_of proc.slots input output held)

-- an instruction prints a text, and the next one follows
abbrev pub Prints : Proc → (pc : ℕ) → Instr → (old new : Held) → List ℕ → Type 0
Prints proc pc i old new text =
    (image : Image) (body : ℕ) (input output : List ℕ) → acted image proc body pc i input output old ≡ state_at proc body input (output ++ text) (suc pc) new

-- an instruction prints nothing
abbrev pub IsSilent : Proc → (pc : ℕ) → Instr → (old new : Held) → Step → Type 0
IsSilent proc pc i old new step =
    (image : Image) (body : ℕ) (input output : List ℕ) → Leads (acted image proc body pc i input output old) body pc step (stacked new.stack.items) (world_of proc.slots input output new)

-- executing an instruction: it prints nothing, or a text and goes on, or some of its text and gives up
pub data StepOf (proc : Proc) (pc : ℕ) (i : Instr) (old new : Held) (before now : Option (List ℕ)) : Step → Type 0 where
  Silent : (step : Step) → IsSilent proc pc i old new step → now ≡ before → StepOf proc pc i old new before now step
  Printed : (text : List ℕ) → Prints proc pc i old new text → TookAll before now text → StepOf proc pc i old new before now Onward
  Torn : (t : Turn) → gives_up t ≡ true → (text : List ℕ) (after : Held) → Prints proc pc i old after text → TookPrefix before now text → StepOf proc pc i old new before now (Ends t)

-- where an instruction may jump
abbrev pub target_of : Instr → Option ℕ
target_of (instr.Jump j) = Some (jump_target j)
target_of (instr.Mark l) = None
target_of (instr.Run i) = None
target_of (instr.Push i) = None
target_of (instr.Store i) = None
target_of (instr.Arith i) = None
target_of (instr.Compare i) = None
target_of (instr.Print i) = None

-- whether an instruction is a mark
abbrev pub is_mark : Instr → Bool
is_mark (instr.Mark l) = true
is_mark (instr.Jump i) = false
is_mark (instr.Run i) = false
is_mark (instr.Push i) = false
is_mark (instr.Store i) = false
is_mark (instr.Arith i) = false
is_mark (instr.Compare i) = false
is_mark (instr.Print i) = false

-- a mark takes one line
abbrev pub lines_taken : Bool → ℕ
lines_taken true = 1
lines_taken false = 0

-- how a step uses up the lines left and the code
abbrev pub Falls : Instr → Step → (was now : ℕ) → Type 0
Falls i Onward was now = was ≡ lines_taken (is_mark i) + now
Falls i (Goes a) was now = (target_of i ≡ Some a) × (now ≡ was)
Falls i (Ends t) was now = Unit {0}

-- the output failed
abbrev pub is_output_fault : Turn → Bool
is_output_fault OutputFault = true
is_output_fault Memory = false
is_output_fault Ended = false
is_output_fault (Stopped at) = false
is_output_fault LinesSpent = false
is_output_fault Lost = false
is_output_fault Refused = false

-- the output failed in a step
abbrev pub fails_output : Step → Bool
fails_output Onward = false
fails_output (Goes a) = false
fails_output (Ends t) = is_output_fault t
