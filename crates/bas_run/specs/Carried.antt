-- What is promised of images that carry a program.
use Rattle.std.specs.Prelude.{◌≡◌, ◌≢◌, ℕ, List, Option, true}
use Rattle.bas_ast.specs.Tree.{SourceUnit}
use Rattle.bas_mean.specs.Meaning.{mean}
use Rattle.bas_code.specs.declared.body.Image.{Image}
use Rattle.bas_carry.specs.Carries.{Carries}
use Rattle.bas_vm.specs.declared.turn.Turn.{Turn}
use Rattle.bas_vm.specs.declared.turn.Turn.TheVariants.{Lost, Refused}
use Rattle.bas_vm.specs.Fit.{is_fit_image}
use Rattle.bas_vm.specs.Runs.{Answers}

-- an image that carries a list of units is one that the machine runs
abbrev pub CarriedIsFit : Type 0
CarriedIsFit = (image : Image) (units : List SourceUnit) → Carries image units → is_fit_image image ≡ true

-- a turn and the sink tell what the units mean that an image carries, whatever the input
abbrev pub DoesWhatIsMeant : Image → (n : ℕ) → (before now : Option (List ℕ)) → Turn → Type 0
DoesWhatIsMeant image n before now t = (units : List SourceUnit) → Carries image units → (input : List ℕ) → Answers before now t (mean units n input)

-- the run of such an image is neither refused nor lost
abbrev pub IsSound : Image → Turn → Type 0
IsSound image t = (units : List SourceUnit) → Carries image units → (t ≢ Refused) × (t ≢ Lost)
