-- What the top call promises.
use Rattle.std.specs.Prelude.{◌≡◌, ℕ, ◌==◌, ◌||◌, ◌⊎◌, Bool, true, false, MatchBool, List, ◌++◌, Option}
use Rattle.bas_drive.specs.Answer.{command_of, CanEnd}
use Rattle.bas_vm.specs.Took.{TookAll, TookPrefix}
use Rattle.bas_drive.specs.Ending.{Outcome}
use Rattle.bas_drive.specs.Report.{status_of, report_of, code_of}
use Rattle.bas_drive.specs.declared.ending.Ending.{Ending}
use Rattle.bas_drive.specs.declared.ending.Ending.TheVariants as ends
use Rattle.bas_drive.specs.declared.status.Status.{Status}
use Rattle.bas_drive.specs.declared.status.Status.TheVariants.{Ended, Stopped, Usage, SourceRefused, LinkRefused, ImageRefused, LinesSpent, StoreFault, InputFault, OutputFault, Memory, FileMissing, ReportFault, TooLarge}

-- the command gave up: the outside failed, or there was no memory
abbrev pub gave_up : Status → Bool
gave_up Ended = false
gave_up Stopped = false
gave_up Usage = false
gave_up SourceRefused = false
gave_up LinkRefused = false
gave_up ImageRefused = false
gave_up LinesSpent = false
gave_up StoreFault = true
gave_up InputFault = true
gave_up OutputFault = true
gave_up Memory = true
gave_up FileMissing = false
gave_up ReportFault = true
gave_up TooLarge = false

-- the statuses that the commands built so far can have
abbrev pub can_be : Status → Bool
can_be Ended = true
can_be Stopped = true
can_be Usage = true
can_be SourceRefused = true
can_be LinkRefused = false
can_be ImageRefused = false
can_be LinesSpent = true
can_be StoreFault = true
can_be InputFault = false
can_be OutputFault = true
can_be Memory = true
can_be FileMissing = true
can_be ReportFault = true
can_be TooLarge = true

-- the report failed
abbrev pub is_report_fault : Status → Bool
is_report_fault Ended = false
is_report_fault Stopped = false
is_report_fault Usage = false
is_report_fault SourceRefused = false
is_report_fault LinkRefused = false
is_report_fault ImageRefused = false
is_report_fault LinesSpent = false
is_report_fault StoreFault = false
is_report_fault InputFault = false
is_report_fault OutputFault = false
is_report_fault Memory = false
is_report_fault FileMissing = false
is_report_fault ReportFault = true
is_report_fault TooLarge = false

-- an ending was reported with its whole line, or with a prefix of it because memory ran out or the report failed
pub data IsTold (ending : Ending) (before now : Option (List ℕ)) : Status → Type 0 where
  Whole : TookAll before now (report_of ending) → IsTold ending before now (status_of ending)
  CutByFault : TookPrefix before now (report_of ending) → IsTold ending before now ReportFault
  CutByMemory : TookPrefix before now (report_of ending) → IsTold ending before now Memory

-- the whole answer was given: its status, all of its output, and its report: what the run itself
-- reports, and the line of its ending
pub record IsAnswered (answer : Outcome) (out_before out_now report_before report_now : Option (List ℕ)) (status : Status) : Type 0 where
  pub status_is : status ≡ status_of answer.ending
  pub output : TookAll out_before out_now answer.output
  pub report : TookAll report_before report_now (answer.report ++ report_of answer.ending)

-- the whole answer was given, or the command gave up after a prefix of the output
abbrev pub AnswersOrGivesUp : Outcome → Option (List ℕ) → Option (List ℕ) → Option (List ℕ) → Option (List ℕ) → Status → Type 0
AnswersOrGivesUp answer out_before out_now report_before report_now status =
    MatchBool (gave_up status) (TookPrefix out_before out_now answer.output) (IsAnswered answer out_before out_now report_before report_now status)

-- the answer is that fault, or the report failed too, or there was no memory
abbrev pub tells_fault : Status → Status → Bool
tells_fault fault answer = code_of answer == code_of fault || (is_report_fault answer || is_memory answer)
  where
    is_memory : Status → Bool
    is_memory status = code_of status == 10

-- the report took a prefix of one line: one that the command line can have
pub record TookReportPrefix (words : List (List ℕ)) (before now : Option (List ℕ)) : Type 0 where
  pub ending : Ending
  pub can : CanEnd (command_of words) ending
  pub some : TookPrefix before now (report_of ending)

-- the report took a prefix of one line: that of the answer, or of a fault of the store or the output
pub record TookLineOf (answer : Outcome) (before now : Option (List ℕ)) : Type 0 where
  pub ending : Ending
  pub is : (ending ≡ answer.ending) ⊎ ((ending ≡ ends.StoreFault) ⊎ (ending ≡ ends.OutputFault))
  pub some : TookPrefix before now (report_of ending)

-- nothing was printed, and neither the output's count of faults nor the store's moved
pub record IsIdle (out_before out_now : Option (List ℕ)) (output_before output_now store_before store_now : ℕ) : Type 0 where
  pub printed : out_now ≡ out_before
  pub output : output_now ≡ output_before
  pub store : store_now ≡ store_before
