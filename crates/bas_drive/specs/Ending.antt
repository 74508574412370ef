-- How commands end: what is a failure, and what an ending promises of the answer.
use Rattle.std.specs.Prelude.{◌≡◌, ℕ, Bool, true, false, List, [], Option, MatchBool}
use Rattle.bas_block.specs.declared.file.SourceFault.TheVariants as fault
use Rattle.bas_accept.specs.declared.acceptance.Refusal.{Refusal}
use Rattle.bas_accept.specs.declared.acceptance.Refusal.TheVariants.{Source}
use Rattle.bas_world.specs.declared.store.StoreFail.{StoreFail}
use Rattle.bas_world.specs.declared.store.StoreFail.TheVariants as store
use Rattle.bas_vm.specs.declared.turn.Turn.{Turn}
use Rattle.bas_vm.specs.declared.turn.Turn.TheVariants as turn
use Rattle.bas_vm.specs.Took.{TookAll, TookPrefix}
use Rattle.bas_drive.specs.declared.ending.Ending.{Ending}
use Rattle.bas_drive.specs.declared.ending.Ending.TheVariants as ends

-- what is printed, what the run itself reports, and how it ends
pub record Outcome : Type 0 where
  pub output : List ℕ
  pub report : List ℕ
  pub ending : Ending

-- an ending without output
abbrev pub without_output : Ending → Outcome
without_output ending = record { output = []; report = []; ending = ending }

-- the command gave up: the outside failed, or there was no memory
abbrev pub is_failure : Ending → Bool
is_failure ends.StoreFault = true
is_failure ends.OutputFault = true
is_failure ends.Memory = true
is_failure ends.Ended = false
is_failure (ends.Stopped at) = false
is_failure ends.LinesSpent = false
is_failure ends.Usage = false
is_failure (ends.Missing name) = false
is_failure (ends.Refused name refusal) = false
is_failure (ends.FileTooLarge name size) = false
is_failure (ends.UnitTooLarge unit size limit) = false

-- the output failed
abbrev pub is_output_fault : Ending → Bool
is_output_fault ends.OutputFault = true
is_output_fault ends.StoreFault = false
is_output_fault ends.Memory = false
is_output_fault ends.Ended = false
is_output_fault (ends.Stopped at) = false
is_output_fault ends.LinesSpent = false
is_output_fault ends.Usage = false
is_output_fault (ends.Missing name) = false
is_output_fault (ends.Refused name refusal) = false
is_output_fault (ends.FileTooLarge name size) = false
is_output_fault (ends.UnitTooLarge unit size limit) = false

-- the store failed
abbrev pub is_store_fault : Ending → Bool
is_store_fault ends.StoreFault = true
is_store_fault ends.OutputFault = false
is_store_fault ends.Memory = false
is_store_fault ends.Ended = false
is_store_fault (ends.Stopped at) = false
is_store_fault ends.LinesSpent = false
is_store_fault ends.Usage = false
is_store_fault (ends.Missing name) = false
is_store_fault (ends.Refused name refusal) = false
is_store_fault (ends.FileTooLarge name size) = false
is_store_fault (ends.UnitTooLarge unit size limit) = false

-- how a command ends: with the outcome's ending and all of its output, if the run itself reports
-- nothing; or a failure with some of the output
abbrev pub RunOf : Outcome → Option (List ℕ) → Option (List ℕ) → Ending → Type 0
RunOf outcome before now ending =
    MatchBool (is_failure ending) (TookPrefix before now outcome.output) ((ending ≡ outcome.ending) × TookAll before now outcome.output × (outcome.report ≡ []))

-- the ending of a command whose store failed
abbrev pub store_ending : StoreFail → Ending
store_ending store.Failed = ends.StoreFault
store_ending store.Memory = ends.Memory

-- the ending of a command whose file is refused, or for which there was no memory
abbrev pub refused_ending : (name : List ℕ) → Refusal → Ending
refused_ending name (Source fault.Memory) = ends.Memory
refused_ending name refusal = ends.Refused name refusal

-- the ending of a command by the machine's answer; no program that is accepted is refused by it or lost
abbrev pub turn_ending : Turn → Ending
turn_ending turn.Ended = ends.Ended
turn_ending (turn.Stopped at) = ends.Stopped at
turn_ending turn.LinesSpent = ends.LinesSpent
turn_ending turn.Lost = ends.Ended
turn_ending turn.Refused = ends.Ended
turn_ending turn.OutputFault = ends.OutputFault
turn_ending turn.Memory = ends.Memory
