-- Rows that print nothing.
use Rattle.std.proofs.Common.{◌≡◌, ℕ, List, [], Option, true, false, refl, sym, subst, arith}
use Rattle.bas_world.specs.Count.{CountMoves}
use Rattle.bas_code.specs.declared.instr.Instr.{Instr}
use Rattle.bas_code.specs.declared.body.Proc.{Proc}
use Rattle.bas_vm.specs.declared.held.Held.{Held}
use Rattle.bas_vm.specs.declared.turn.Turn.TheVariants.{Ended, Stopped, LinesSpent, Lost, Refused, OutputFault, Memory}
use Rattle.bas_vm.specs.declared.turn.Step.{Step}
use Rattle.bas_vm.specs.declared.turn.Step.TheVariants.{Onward, Goes, Ends}
use Rattle.bas_vm.specs.Steps.{IsSilent, StepOf, fails_output}
use Rattle.bas_vm.specs.Steps.StepOf.{Silent}

-- a row of an instruction
pub silent : (proc : Proc) (pc : ℕ) (i j : Instr) (old new : Held) (before : Option (List ℕ)) (step : Step) → i ≡ j → IsSilent proc pc j old new step → StepOf proc pc i old new before before step
silent proc pc i j old new before step is leads = subst (λ k. StepOf proc pc k old new before before step) (sym is) (Silent step leads refl)

-- no sink was called
still : (count : ℕ) → CountMoves false count count
still count = record { never_falls = omega arith; rises = λ h. let bad : false ≡ true = h in absurd cc; stands = λ h. refl }

pub silent-counts : (proc : Proc) (pc : ℕ) (i : Instr) (old new : Held) (step : Step) (count : ℕ) → IsSilent proc pc i old new step → CountMoves (fails_output step) count count
silent-counts proc pc i old new Onward count leads = still count
silent-counts proc pc i old new (Goes a) count leads = still count
silent-counts proc pc i old new (Ends Ended) count leads = still count
silent-counts proc pc i old new (Ends (Stopped x)) count leads = still count
silent-counts proc pc i old new (Ends LinesSpent) count leads = still count
silent-counts proc pc i old new (Ends Lost) count leads = still count
silent-counts proc pc i old new (Ends Refused) count leads = still count
silent-counts proc pc i old new (Ends Memory) count leads = still count
silent-counts proc pc i old new (Ends OutputFault) count leads = absurd (leads (record { programs = []; procs = [] }) 0 [] [])
