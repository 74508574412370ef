-- The machine on an image that carries a program.
use Rattle.std.proofs.Common.{◌≡◌, ◌≢◌, ℕ, List, [], Option, true, false, refl, sym, subst, ◌∙◌}
use Rattle.bas_ast.specs.Tree.{SourceUnit}
use Rattle.bas_mean.specs.Outcome.{RunEnd}
use Rattle.bas_mean.specs.Outcome as run
use Rattle.bas_mean.specs.Meaning.{mean}
use Rattle.bas_code.specs.declared.body.Image.{Image}
use Rattle.bas_code.specs.Machine.{Runs}
use Rattle.bas_carry.specs.Carries.{Carries, CarriedAgrees}
use Rattle.bas_vm.specs.declared.turn.Turn.{Turn}
use Rattle.bas_vm.specs.declared.turn.Turn.TheVariants.{Lost, Refused}
use Rattle.bas_vm.specs.Runs.{IsEnd, RunOf, Answers}
use Rattle.bas_run.specs.Carried.{DoesWhatIsMeant, IsSound}
use Rattle.bas_run.proofs.Programs.{carried_is_fit}

module _ (image : Image) (n : ℕ) (before now : Option (List ℕ)) (t : Turn) (law : CarriedAgrees) where
  pub means : ((input : List ℕ) (e : RunEnd) → Runs image n input e → Answers before now t e) → DoesWhatIsMeant image n before now t
  means only units carries input = only input (mean units n input) ((law image units carries).does n input)

  -- an image that is run is not refused
  not-refused : RunOf image n before now t → (units : List SourceUnit) → Carries image units → t ≢ Refused
  not-refused does units carries is =
      let refused = subst (λ u. RunOf image n before now u) is does in
      let bad : true ≡ false = sym (carried_is_fit image units carries) ∙ refused.0 in
      cc

  -- only the lost end is told as lost
  lost-end : (output : List ℕ) (e : RunEnd) → IsEnd Lost output e → e ≡ run.Lost
  lost-end output (run.Ended s) h = absurd h
  lost-end output (run.Stopped x s) h = absurd h
  lost-end output (run.GoesOn s) h = absurd h
  lost-end output run.Lost h = refl

  not-lost : ((input : List ℕ) (e : RunEnd) → Runs image n input e → Answers before now t e) → (units : List SourceUnit) → Carries image units → t ≢ Lost
  not-lost only units carries is =
      let told = subst (λ u. Answers before now u (mean units n [])) is (means only units carries []) in
      (law image units carries).defined n [] (lost-end told.output (mean units n []) told.is)

  pub sound : RunOf image n before now t → ((input : List ℕ) (e : RunEnd) → Runs image n input e → Answers before now t e) → IsSound image t
  sound does only units carries = (not-refused does units carries, not-lost only units carries)
