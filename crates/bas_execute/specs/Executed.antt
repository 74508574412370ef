-- What the execution of a program promises.
use Rattle.std.specs.Prelude.{◌≡◌, ◌≢◌, ℕ, List, [], ◌∷◌, Option}
use Rattle.bas_ast.specs.Tree.{Program, ProgramUnit}
use Rattle.bas_mean.specs.Outcome as run
use Rattle.bas_mean.specs.Meaning.{mean}
use Rattle.bas_code.specs.declared.body.Proc.{Proc}
use Rattle.bas_code.specs.declared.body.Image.{Image}
use Rattle.bas_carry.specs.Tables.{Sound}
use Rattle.bas_vm.specs.declared.turn.Turn.{Turn}
use Rattle.bas_vm.specs.declared.turn.Turn.TheVariants.{Lost, Refused}
use Rattle.bas_vm.specs.Runs.{Answers}

-- an image of one program
abbrev pub image_of : List ℕ → Proc → Image
image_of name proc = record { programs = (name, 0) ∷ []; procs = proc ∷ [] }

-- a turn and the sink tell what a sound program means for n lines, whatever the input
abbrev pub DoesWhatItMeans : Program → (n : ℕ) → (before now : Option (List ℕ)) → Turn → Type 0
DoesWhatItMeans p n before now t = Sound p → (input : List ℕ) → Answers before now t (mean (ProgramUnit p ∷ []) n input)

-- the meaning of a sound program is never lost
abbrev pub SoundIsNotLost : Type 0
SoundIsNotLost = (p : Program) → Sound p → (n : ℕ) (input : List ℕ) → mean (ProgramUnit p ∷ []) n input ≢ run.Lost

-- the run of a sound program is neither refused nor lost
abbrev pub IsWhole : Program → Turn → Type 0
IsWhole p t = Sound p → (t ≢ Refused) × (t ≢ Lost)
