-- What a run promises.
use Rattle.std.specs.Prelude.{◌≡◌, ℕ, List, [], Option, Some, false, slice_get, replicate}
use Rattle.bas_mean.specs.World.{fresh_cell}
use Rattle.bas_mean.specs.Outcome.{RunEnd}
use Rattle.bas_mean.specs.Outcome as run
use Rattle.bas_code.specs.declared.body.Proc.{Proc}
use Rattle.bas_code.specs.declared.body.Image.{Image}
use Rattle.bas_code.specs.State.{State}
use Rattle.bas_code.specs.Machine.{exec, program_started, Runs}
use Rattle.bas_vm.specs.declared.held.Held.{Held}
use Rattle.bas_vm.specs.declared.turn.Turn.{Turn}
use Rattle.bas_vm.specs.declared.turn.Turn.TheVariants.{Ended, Stopped, LinesSpent, Lost, Refused, OutputFault, Memory}
use Rattle.bas_vm.specs.Rows.{exception_at}
use Rattle.bas_vm.specs.Shown.{cells_of}
use Rattle.bas_vm.specs.Steps.{state_at}
use Rattle.bas_vm.specs.Fit.{is_fit_image}
use Rattle.bas_vm.specs.Took.{TookAll, TookPrefix}

-- the end of a run, as a turn and the output tell it; the run itself reported nothing
abbrev pub IsEnd : Turn → List ℕ → RunEnd → Type 0
IsEnd Ended output (run.Ended seen) = (seen.terminal.output ≡ output) × (seen.terminal.report ≡ [])
IsEnd (Stopped at) output (run.Stopped x seen) = (x ≡ exception_at at) × (seen.terminal.output ≡ output) × (seen.terminal.report ≡ [])
IsEnd LinesSpent output (run.GoesOn seen) = (seen.terminal.output ≡ output) × (seen.terminal.report ≡ [])
IsEnd Lost output run.Lost = Unit {0}
IsEnd t output e = ⊥

-- the output of an end begins with what was taken; nothing is said of a run that is lost
abbrev pub TookOf : Option (List ℕ) → Option (List ℕ) → RunEnd → Type 0
TookOf before now (run.Ended seen) = TookPrefix before now seen.terminal.output
TookOf before now (run.Stopped x seen) = TookPrefix before now seen.terminal.output
TookOf before now (run.GoesOn seen) = TookPrefix before now seen.terminal.output
TookOf before now run.Lost = Unit {0}

-- a run from the state ends so
pub record ComesTo (image : Image) (c : State) (e : RunEnd) : Type 0 where
  pub steps : ℕ
  pub ends : exec image steps c ≡ Some e

-- the turn is the end of the run from a state, and the sink took the whole output
pub record Tells (image : Image) (c : State) (before now : Option (List ℕ)) (t : Turn) : Type 0 where
  pub end : RunEnd
  pub comes : ComesTo image c end
  pub output : List ℕ
  pub is : IsEnd t output end
  pub took : TookAll before now output

-- what a turn promises of a state: it is the end of the run, or the sink took a prefix of the output of every end
abbrev pub TurnOf : Image → State → (before now : Option (List ℕ)) → Turn → Type 0
TurnOf image c before now OutputFault = (e : RunEnd) → ComesTo image c e → TookOf before now e
TurnOf image c before now Memory = (e : RunEnd) → ComesTo image c e → TookOf before now e
TurnOf image c before now Refused = ⊥
TurnOf image c before now t = Tells image c before now t

-- what a turn promises of a body from its start on
abbrev pub BodyOf : Proc → Held → (before now : Option (List ℕ)) → Turn → Type 0
BodyOf proc held before now t =
    (image : Image) (body : ℕ) → slice_get image.procs body ≡ Some proc → (input : List ℕ) → TurnOf image (state_at proc body input [] 0 held) before now t

-- a turn tells the end of a run for n lines with that input, and the sink took its whole output
pub record TellsRun (image : Image) (n : ℕ) (input : List ℕ) (before now : Option (List ℕ)) (t : Turn) : Type 0 where
  pub end : RunEnd
  pub runs : Runs image n input end
  pub output : List ℕ
  pub is : IsEnd t output end
  pub took : TookAll before now output

-- what a turn promises of a run for n lines: it tells its end; or it gave up, and the sink took the
-- front of the output; or the image is not run
abbrev pub RunOf : Image → (n : ℕ) → (before now : Option (List ℕ)) → Turn → Type 0
RunOf image n before now OutputFault = (input : List ℕ) (e : RunEnd) → Runs image n input e → TookOf before now e
RunOf image n before now Memory = (input : List ℕ) (e : RunEnd) → Runs image n input e → TookOf before now e
RunOf image n before now Refused = (is_fit_image image ≡ false) × (now ≡ before)
RunOf image n before now t = (input : List ℕ) → TellsRun image n input before now t

-- what a program holds as it begins
pub record IsStart (slots n : ℕ) (held : Held) : Type 0 where
  pub stack : held.stack.items ≡ []
  pub cells : cells_of held.cells.items ≡ replicate slots fresh_cell
  pub column : held.column ≡ 0
  pub left : held.left ≡ n

-- what a turn promises of the program in a body
abbrev pub ProgramOf : Proc → (n : ℕ) → (before now : Option (List ℕ)) → Turn → Type 0
ProgramOf proc n before now t =
    (image : Image) (body : ℕ) → slice_get image.procs body ≡ Some proc → (input : List ℕ) → TurnOf image (program_started (Some proc) body n input) before now t

-- a turn tells an end, and the sink took its whole output
pub record IsTold (before now : Option (List ℕ)) (t : Turn) (e : RunEnd) : Type 0 where
  pub output : List ℕ
  pub is : IsEnd t output e
  pub took : TookAll before now output

-- what a turn and the sink tell of the end to which an image runs: its kind and its whole output, or
-- the front of its output where the run gave up, or nothing where the image is not run
abbrev pub Answers : (before now : Option (List ℕ)) → Turn → RunEnd → Type 0
Answers before now OutputFault e = TookOf before now e
Answers before now Memory e = TookOf before now e
Answers before now Refused e = now ≡ before
Answers before now t e = IsTold before now t e
