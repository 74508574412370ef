-- From one state the machine comes to another.
use Rattle.std.proofs.Common.{◌≡◌, ℕ, suc, List, Some, refl, ap, ◌∙◌, subst}
use Rattle.std.specs.Prelude.{slice_get}
use Rattle.bas_code.specs.declared.instr.Instr.{Instr}
use Rattle.bas_code.specs.declared.body.Proc.{Proc}
use Rattle.bas_code.specs.declared.body.Image.{Image}
use Rattle.bas_code.specs.State.{MachineWorld, Operand, Activation, Waiting, State, Run}
use Rattle.bas_code.specs.Machine.{with_some, act, exec}

pub record Goes (image : Image) (c d : State) : Type 0 where
  pub by : (k : ℕ) → (j : ℕ) × (exec image j c ≡ exec image k d)

module _ (image : Image) where
  pub stays : (c : State) → Goes image c c
  stays c = record { by = λ k. (k, refl) }

  pub goes_on : (c d e : State) → Goes image c d → Goes image d e → Goes image c e
  goes_on c d e p q = record { by = λ k. let b = q.by k in let a = p.by b.0 in (a.0, a.1 ∙ b.1) }

  -- one instruction
  pub steps : (proc : Proc) (i : Instr) (body pc : ℕ) (stack : List Operand) (acts : List Activation) (callers : List Waiting) (w : MachineWorld) → slice_get image.procs body ≡ Some proc → slice_get proc.code pc ≡ Some i → Goes image (Run body pc stack acts callers w) (act image proc i body pc stack acts callers w)
  unfolding exec
  steps proc i body pc stack acts callers w b h = record {
    by = λ k. (
      suc k,
      ap (λ o. exec image k (with_some o (λ p. with_some (slice_get p.code pc) (λ j. act image p j body pc stack acts callers w)))) b
          ∙ ap (λ o. exec image k (with_some o (λ j. act image proc j body pc stack acts callers w))) h,
    );
  }

  -- the same state under another name
  pub goes_to : (c d e : State) → d ≡ e → Goes image c d → Goes image c e
  goes_to c d e p g = subst (λ s. Goes image c s) p g
