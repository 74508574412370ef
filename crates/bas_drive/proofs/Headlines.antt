-- From the ending of a command, and what was told of it, to the promises of the top call.
use Rattle.std.proofs.Common.{◌≡◌, ◌≢◌, ℕ, List, Option, Some, None, IfSome, Bool, true, false, IsTrue, ◌<◌, arith, refl, sym, ap, subst, [], ◌∷◌, ◌++◌, inl, inr}
use Rattle.bas_world.specs.Files.{Files}
use Rattle.bas_world.specs.Count.{CountMoves, Rose}
use Rattle.bas_drive.specs.Answer.{command_of, CanEnd}
use Rattle.bas_drive.specs.declared.words.Command.{Command}
use Rattle.bas_drive.specs.declared.words.Command.TheVariants.{Go}
use Rattle.bas_vm.specs.Took.{TookAll, TookPrefix}
use Rattle.bas_drive.specs.Report.{status_of, report_of}
use Rattle.bas_drive.specs.Ending.{Outcome, RunOf, is_output_fault, is_store_fault}
use Rattle.bas_drive.specs.Headline.{IsTold, IsAnswered, AnswersOrGivesUp, TookReportPrefix, TookLineOf, is_report_fault, can_be, tells_fault}
use Rattle.bas_drive.specs.Headline.IsTold.{Whole, CutByFault, CutByMemory}
use Rattle.bas_drive.specs.declared.ending.Ending.{Ending}
use Rattle.bas_drive.specs.declared.ending.Ending.TheVariants as ending
use Rattle.bas_drive.specs.declared.status.Status.{Status}
use Rattle.bas_drive.specs.declared.status.Status.TheVariants as status
use Rattle.bas_drive.proofs.Taking.{TookPrefix-all}
use Rattle.bas_drive.proofs.AnswerLaws.{no_usage}

-- all of the output was taken, or some: in either case some
took_some : (answer : Outcome) (before now : Option (List ℕ)) (e : Ending) → RunOf answer before now e → TookPrefix before now answer.output
took_some answer before now ending.StoreFault run = run
took_some answer before now ending.OutputFault run = run
took_some answer before now ending.Memory run = run
took_some answer before now ending.Ended run = TookPrefix-all before now answer.output run.1
took_some answer before now (ending.Stopped at) run = TookPrefix-all before now answer.output run.1
took_some answer before now ending.Usage run = TookPrefix-all before now answer.output run.1
took_some answer before now (ending.Missing name) run = TookPrefix-all before now answer.output run.1
took_some answer before now ending.LinesSpent run = TookPrefix-all before now answer.output run.1
took_some answer before now (ending.Refused name refusal) run = TookPrefix-all before now answer.output run.1
took_some answer before now (ending.FileTooLarge name size) run = TookPrefix-all before now answer.output run.1
took_some answer before now (ending.UnitTooLarge unit size limit) run = TookPrefix-all before now answer.output run.1

-- an ending that is the answer's, with its output and its report
answered :
    (answer : Outcome) (out_before out_now report_before report_now : Option (List ℕ)) (e : Ending) → e ≡ answer.ending →
    TookAll out_before out_now answer.output → answer.report ≡ [] → TookAll report_before report_now (report_of e) → IsAnswered answer out_before out_now report_before report_now (status_of e)
answered answer ob on rb rn e is_ending output quiet told = record {
  status_is = ap (λ v. status_of v) is_ending;
  output = output;
  report = subst (λ r. TookAll rb rn (r ++ report_of answer.ending)) (sym quiet) (subst (λ v. TookAll rb rn (report_of v)) is_ending told);
}

-- an ending that was told whole
told_whole :
    (answer : Outcome) (out_before out_now report_before report_now : Option (List ℕ)) (e : Ending) → RunOf answer out_before out_now e →
    TookAll report_before report_now (report_of e) → AnswersOrGivesUp answer out_before out_now report_before report_now (status_of e)
told_whole answer ob on rb rn ending.StoreFault run told = run
told_whole answer ob on rb rn ending.OutputFault run told = run
told_whole answer ob on rb rn ending.Memory run told = run
told_whole answer ob on rb rn ending.Ended run told = answered answer ob on rb rn ending.Ended run.0 run.1 run.2 told
told_whole answer ob on rb rn (ending.Stopped at) run told = answered answer ob on rb rn (ending.Stopped at) run.0 run.1 run.2 told
told_whole answer ob on rb rn ending.Usage run told = answered answer ob on rb rn ending.Usage run.0 run.1 run.2 told
told_whole answer ob on rb rn (ending.Missing name) run told = answered answer ob on rb rn (ending.Missing name) run.0 run.1 run.2 told
told_whole answer ob on rb rn ending.LinesSpent run told = answered answer ob on rb rn ending.LinesSpent run.0 run.1 run.2 told
told_whole answer ob on rb rn (ending.Refused name refusal) run told = answered answer ob on rb rn (ending.Refused name refusal) run.0 run.1 run.2 told
told_whole answer ob on rb rn (ending.FileTooLarge name size) run told = answered answer ob on rb rn (ending.FileTooLarge name size) run.0 run.1 run.2 told
told_whole answer ob on rb rn (ending.UnitTooLarge unit size limit) run told = answered answer ob on rb rn (ending.UnitTooLarge unit size limit) run.0 run.1 run.2 told

-- whatever was told: the whole answer, or a failure with some of its output
pub answers :
    (answer : Outcome) (out_before out_now report_before report_now : Option (List ℕ)) (e : Ending) (s : Status) → RunOf answer out_before out_now e →
    IsTold e report_before report_now s → AnswersOrGivesUp answer out_before out_now report_before report_now s
answers answer ob on rb rn e _ run (Whole told) = told_whole answer ob on rb rn e run told
answers answer ob on rb rn e _ run (CutByFault some) = took_some answer ob on e run
answers answer ob on rb rn e _ run (CutByMemory some) = took_some answer ob on e run

-- the report took some of one line
pub report_prefix : (words : List (List ℕ)) (before now : Option (List ℕ)) (e : Ending) (s : Status) → CanEnd (command_of words) e → IsTold e before now s → TookReportPrefix words before now
report_prefix words before now e _ can (Whole told) = record { ending = e; can = can; some = TookPrefix-all before now (report_of e) told }
report_prefix words before now e _ can (CutByFault some) = record { ending = e; can = can; some = some }
report_prefix words before now e _ can (CutByMemory some) = record { ending = e; can = can; some = some }

-- some of the line of an ending was taken
told_some : (before now : Option (List ℕ)) (e : Ending) (s : Status) → IsTold e before now s → TookPrefix before now (report_of e)
told_some before now e _ (Whole told) = TookPrefix-all before now (report_of e) told
told_some before now e _ (CutByFault some) = some
told_some before now e _ (CutByMemory some) = some

-- where nothing was to be told, nothing of any line was taken
none_of : (before now : Option (List ℕ)) (text : List ℕ) → TookPrefix before now [] → TookPrefix before now text
none_of before now text some = record { part = []; rest = text; whole = refl; took = subst (λ p. TookAll before now p) (no_part some.part some.rest some.whole) some.took }
  where
    no_part : (part rest : List ℕ) → part ++ rest ≡ [] → part ≡ []
    no_part [] rest is = refl
    no_part (c ∷ cs) rest is = absurd cc

-- the report took some of the line of the answer, or of a fault
line_of : (answer : Outcome) (ob on before now : Option (List ℕ)) (e : Ending) → RunOf answer ob on e → TookPrefix before now (report_of e) → TookLineOf answer before now
line_of answer ob on before now ending.StoreFault run some = record { ending = ending.StoreFault; is = inr (inl refl); some = some }
line_of answer ob on before now ending.OutputFault run some = record { ending = ending.OutputFault; is = inr (inr refl); some = some }
line_of answer ob on before now ending.Memory run some = record { ending = answer.ending; is = inl refl; some = none_of before now (report_of answer.ending) some }
line_of answer ob on before now ending.Ended run some = record { ending = ending.Ended; is = inl run.0; some = some }
line_of answer ob on before now (ending.Stopped at) run some = record { ending = ending.Stopped at; is = inl run.0; some = some }
line_of answer ob on before now ending.Usage run some = record { ending = ending.Usage; is = inl run.0; some = some }
line_of answer ob on before now (ending.Missing name) run some = record { ending = ending.Missing name; is = inl run.0; some = some }
line_of answer ob on before now ending.LinesSpent run some = record { ending = ending.LinesSpent; is = inl run.0; some = some }
line_of answer ob on before now (ending.Refused name refusal) run some = record { ending = ending.Refused name refusal; is = inl run.0; some = some }
line_of answer ob on before now (ending.FileTooLarge name size) run some = record { ending = ending.FileTooLarge name size; is = inl run.0; some = some }
line_of answer ob on before now (ending.UnitTooLarge unit size limit) run some = record { ending = ending.UnitTooLarge unit size limit; is = inl run.0; some = some }

pub line_of_answer :
    (answer_for : Files → List ℕ → Outcome) (files : Option Files) (ob on before now : Option (List ℕ)) (e : Ending) (s : Status) →
    IfSome files (λ all. (input : List ℕ) → RunOf (answer_for all input) ob on e) → IsTold e before now s → IfSome files (λ all. (input : List ℕ) → TookLineOf (answer_for all input) before now)
line_of_answer answer_for None ob on before now e s run told = tt
line_of_answer answer_for (Some all) ob on before now e s run told = λ input. line_of (answer_for all input) ob on before now e (run input) (told_some before now e s told)

-- Usage comes only of words that are no command
can_be_usage : (command : Option Command) (e : Ending) → CanEnd command e → status_of e ≡ status.Usage → command ≡ None
can_be_usage None e can is = refl
can_be_usage (Some (Go name lines)) ending.Usage can is = absurd (no_usage name lines can.1 can.0 (ap (λ e. status_of e) (sym can.2)))
can_be_usage (Some (Go name lines)) ending.StoreFault can is = absurd cc
can_be_usage (Some (Go name lines)) ending.OutputFault can is = absurd cc
can_be_usage (Some (Go name lines)) ending.Memory can is = absurd cc
can_be_usage (Some (Go name lines)) ending.Ended can is = absurd cc
can_be_usage (Some (Go name lines)) (ending.Stopped at) can is = absurd cc
can_be_usage (Some (Go name lines)) (ending.Missing other) can is = absurd cc
can_be_usage (Some (Go name lines)) ending.LinesSpent can is = absurd cc
can_be_usage (Some (Go name lines)) (ending.Refused other refusal) can is = absurd cc
can_be_usage (Some (Go name lines)) (ending.FileTooLarge other size) can is = absurd cc
can_be_usage (Some (Go name lines)) (ending.UnitTooLarge unit size limit) can is = absurd cc

pub told_usage : (command : Option Command) (before now : Option (List ℕ)) (e : Ending) (s : Status) → CanEnd command e → IsTold e before now s → s ≡ status.Usage → command ≡ None
told_usage command before now e _ can (Whole told) is = can_be_usage command e can is
told_usage command before now e _ can (CutByFault some) is = absurd cc
told_usage command before now e _ can (CutByMemory some) is = absurd cc

-- words that are no command end in Usage
pub told_no_command : (command : Option Command) (before now : Option (List ℕ)) (e : Ending) (s : Status) → CanEnd command e → IsTold e before now s → command ≡ None → IsTold ending.Usage before now s
told_no_command command before now e s can told none =
    let is_usage : e ≡ ending.Usage = subst (λ c. CanEnd c e) none can in
    subst (λ v. IsTold v before now s) is_usage told

-- where the command did not give up, the whole answer was given
pub whole_answer :
    (answer : Outcome) (out_before out_now report_before report_now : Option (List ℕ)) (s : Status) → AnswersOrGivesUp answer out_before out_now report_before report_now s →
    s ≢ status.StoreFault → s ≢ status.InputFault → s ≢ status.OutputFault → s ≢ status.ReportFault → s ≢ status.Memory → IsAnswered answer out_before out_now report_before report_now s
whole_answer answer ob on rb rn status.StoreFault given no_store no_input no_output no_report no_memory = absurd (no_store refl)
whole_answer answer ob on rb rn status.InputFault given no_store no_input no_output no_report no_memory = absurd (no_input refl)
whole_answer answer ob on rb rn status.OutputFault given no_store no_input no_output no_report no_memory = absurd (no_output refl)
whole_answer answer ob on rb rn status.ReportFault given no_store no_input no_output no_report no_memory = absurd (no_report refl)
whole_answer answer ob on rb rn status.Memory given no_store no_input no_output no_report no_memory = absurd (no_memory refl)
whole_answer answer ob on rb rn status.Ended given no_store no_input no_output no_report no_memory = given
whole_answer answer ob on rb rn status.Stopped given no_store no_input no_output no_report no_memory = given
whole_answer answer ob on rb rn status.Usage given no_store no_input no_output no_report no_memory = given
whole_answer answer ob on rb rn status.SourceRefused given no_store no_input no_output no_report no_memory = given
whole_answer answer ob on rb rn status.LinkRefused given no_store no_input no_output no_report no_memory = given
whole_answer answer ob on rb rn status.ImageRefused given no_store no_input no_output no_report no_memory = given
whole_answer answer ob on rb rn status.LinesSpent given no_store no_input no_output no_report no_memory = given
whole_answer answer ob on rb rn status.FileMissing given no_store no_input no_output no_report no_memory = given
whole_answer answer ob on rb rn status.TooLarge given no_store no_input no_output no_report no_memory = given

-- the same for a store that may not tell its files
pub answers_told :
    (answer_for : Files → List ℕ → Outcome) (files : Option Files) (out_before out_now report_before report_now : Option (List ℕ)) (e : Ending) (s : Status) →
    IfSome files (λ all. (input : List ℕ) → RunOf (answer_for all input) out_before out_now e) → IsTold e report_before report_now s →
    IfSome files (λ all. (input : List ℕ) → AnswersOrGivesUp (answer_for all input) out_before out_now report_before report_now s)
answers_told answer_for None ob on rb rn e s run told = tt
answers_told answer_for (Some all) ob on rb rn e s run told = λ input. answers (answer_for all input) ob on rb rn e s (run input) told

-- what each status of a failure says of the ending
ends_in_store_fault : (e : Ending) → status_of e ≡ status.StoreFault → is_store_fault e ≡ true
ends_in_store_fault ending.StoreFault is = refl
ends_in_store_fault ending.OutputFault is = absurd cc
ends_in_store_fault ending.Memory is = absurd cc
ends_in_store_fault ending.Ended is = absurd cc
ends_in_store_fault (ending.Stopped at) is = absurd cc
ends_in_store_fault ending.Usage is = absurd cc
ends_in_store_fault (ending.Missing name) is = absurd cc
ends_in_store_fault ending.LinesSpent is = absurd cc
ends_in_store_fault (ending.Refused name refusal) is = absurd cc
ends_in_store_fault (ending.FileTooLarge name size) is = absurd cc
ends_in_store_fault (ending.UnitTooLarge unit size limit) is = absurd cc

ends_in_output_fault : (e : Ending) → status_of e ≡ status.OutputFault → is_output_fault e ≡ true
ends_in_output_fault ending.OutputFault is = refl
ends_in_output_fault ending.StoreFault is = absurd cc
ends_in_output_fault ending.Memory is = absurd cc
ends_in_output_fault ending.Ended is = absurd cc
ends_in_output_fault (ending.Stopped at) is = absurd cc
ends_in_output_fault ending.Usage is = absurd cc
ends_in_output_fault (ending.Missing name) is = absurd cc
ends_in_output_fault ending.LinesSpent is = absurd cc
ends_in_output_fault (ending.Refused name refusal) is = absurd cc
ends_in_output_fault (ending.FileTooLarge name size) is = absurd cc
ends_in_output_fault (ending.UnitTooLarge unit size limit) is = absurd cc

no_input_fault : (e : Ending) → status_of e ≢ status.InputFault
no_input_fault ending.StoreFault is = cc
no_input_fault ending.OutputFault is = cc
no_input_fault ending.Memory is = cc
no_input_fault ending.Ended is = cc
no_input_fault (ending.Stopped at) is = cc
no_input_fault ending.Usage is = cc
no_input_fault (ending.Missing name) is = cc
no_input_fault ending.LinesSpent is = cc
no_input_fault (ending.Refused name refusal) is = cc
no_input_fault (ending.FileTooLarge name size) is = cc
no_input_fault (ending.UnitTooLarge unit size limit) is = cc

pub told_store_fault : (before now : Option (List ℕ)) (e : Ending) (s : Status) → IsTold e before now s → s ≡ status.StoreFault → is_store_fault e ≡ true
told_store_fault before now e _ (Whole told) is = ends_in_store_fault e is
told_store_fault before now e _ (CutByFault some) is = absurd cc
told_store_fault before now e _ (CutByMemory some) is = absurd cc

pub told_output_fault : (before now : Option (List ℕ)) (e : Ending) (s : Status) → IsTold e before now s → s ≡ status.OutputFault → is_output_fault e ≡ true
told_output_fault before now e _ (Whole told) is = ends_in_output_fault e is
told_output_fault before now e _ (CutByFault some) is = absurd cc
told_output_fault before now e _ (CutByMemory some) is = absurd cc

pub told_no_input_fault : (before now : Option (List ℕ)) (e : Ending) (s : Status) → IsTold e before now s → s ≢ status.InputFault
told_no_input_fault before now e _ (Whole told) is = no_input_fault e is
told_no_input_fault before now e _ (CutByFault some) is = cc
told_no_input_fault before now e _ (CutByMemory some) is = cc

-- the whole answer where the store tells its files, no count rose, and the answer is not for want of memory
pub exactly :
    (answer_for : Files → List ℕ → Outcome) (files : Option Files) (out_before out_now report_before report_now : Option (List ℕ)) (e : Ending) (s : Status) (sb sn ob on rb rn : ℕ) →
    IfSome files (λ all. (input : List ℕ) → RunOf (answer_for all input) out_before out_now e) → IsTold e report_before report_now s →
    CountMoves (is_store_fault e) sb sn → CountMoves (is_output_fault e) ob on → CountMoves (is_report_fault s) rb rn →
    IfSome files (λ all. (input : List ℕ) → ¬ Rose sb sn → ¬ Rose ob on → ¬ Rose rb rn → s ≢ status.Memory → IsAnswered (answer_for all input) out_before out_now report_before report_now s)
exactly answer_for None obe on' rbe rn' e s sb sn ob on rb rn run told store output report = tt
exactly answer_for (Some all) obe on' rbe rn' e s sb sn ob on rb rn run told store output report = λ input no_store no_output no_report no_memory.
    whole_answer (answer_for all input) obe on' rbe rn' s (answers (answer_for all input) obe on' rbe rn' e s (run input) told)
    (λ is. no_store (store.rises (told_store_fault rbe rn' e s told is)))
    (told_no_input_fault rbe rn' e s told)
    (λ is. no_output (output.rises (told_output_fault rbe rn' e s told is)))
    (λ is. no_report (report.rises (ap (λ v. is_report_fault v) is)))
    no_memory

-- a count that rose moved for a fault
moved : (failed : Bool) (before now : ℕ) → CountMoves failed before now → before < now → failed ≡ true
moved true before now moves rose = refl
moved false before now moves rose = absurd (omega (arith, moves.stands refl))

-- an ending of status StoreFault is that fault, and its line was taken
whole_store_fault : (before now : Option (List ℕ)) (e : Ending) → status_of e ≡ status.StoreFault → TookAll before now (report_of e) → TookAll before now (report_of ending.StoreFault)
whole_store_fault before now ending.StoreFault is told = told
whole_store_fault before now ending.OutputFault is told = absurd cc
whole_store_fault before now ending.Memory is told = absurd cc
whole_store_fault before now ending.Ended is told = absurd cc
whole_store_fault before now (ending.Stopped at) is told = absurd cc
whole_store_fault before now ending.Usage is told = absurd cc
whole_store_fault before now (ending.Missing name) is told = absurd cc
whole_store_fault before now ending.LinesSpent is told = absurd cc
whole_store_fault before now (ending.Refused name refusal) is told = absurd cc
whole_store_fault before now (ending.FileTooLarge name size) is told = absurd cc
whole_store_fault before now (ending.UnitTooLarge unit size limit) is told = absurd cc

pub store_fault_is_told : (before now : Option (List ℕ)) (e : Ending) (s : Status) → IsTold e before now s → s ≡ status.StoreFault → TookAll before now (report_of ending.StoreFault)
store_fault_is_told before now e _ (Whole told) is = whole_store_fault before now e is told
store_fault_is_told before now e _ (CutByFault some) is = absurd cc
store_fault_is_told before now e _ (CutByMemory some) is = absurd cc

-- where the ending is that fault, the status tells of it
tells_store_fault : (e : Ending) → is_store_fault e ≡ true → IsTrue (tells_fault status.StoreFault (status_of e))
tells_store_fault ending.StoreFault is = refl
tells_store_fault ending.OutputFault is = absurd cc
tells_store_fault ending.Memory is = absurd cc
tells_store_fault ending.Ended is = absurd cc
tells_store_fault (ending.Stopped at) is = absurd cc
tells_store_fault ending.Usage is = absurd cc
tells_store_fault (ending.Missing name) is = absurd cc
tells_store_fault ending.LinesSpent is = absurd cc
tells_store_fault (ending.Refused name refusal) is = absurd cc
tells_store_fault (ending.FileTooLarge name size) is = absurd cc
tells_store_fault (ending.UnitTooLarge unit size limit) is = absurd cc

pub store_fault_is_rose :
    (before now : Option (List ℕ)) (e : Ending) (s : Status) (count_before count_now : ℕ) → IsTold e before now s →
    CountMoves (is_store_fault e) count_before count_now → count_before < count_now → IsTrue (tells_fault status.StoreFault s)
store_fault_is_rose before now e _ b n (Whole told) moves rose = tells_store_fault e (moved (is_store_fault e) b n moves rose)
store_fault_is_rose before now e _ b n (CutByFault some) moves rose = refl
store_fault_is_rose before now e _ b n (CutByMemory some) moves rose = refl

-- an ending of status OutputFault is that fault, and its line was taken
whole_output_fault : (before now : Option (List ℕ)) (e : Ending) → status_of e ≡ status.OutputFault → TookAll before now (report_of e) → TookAll before now (report_of ending.OutputFault)
whole_output_fault before now ending.OutputFault is told = told
whole_output_fault before now ending.StoreFault is told = absurd cc
whole_output_fault before now ending.Memory is told = absurd cc
whole_output_fault before now ending.Ended is told = absurd cc
whole_output_fault before now (ending.Stopped at) is told = absurd cc
whole_output_fault before now ending.Usage is told = absurd cc
whole_output_fault before now (ending.Missing name) is told = absurd cc
whole_output_fault before now ending.LinesSpent is told = absurd cc
whole_output_fault before now (ending.Refused name refusal) is told = absurd cc
whole_output_fault before now (ending.FileTooLarge name size) is told = absurd cc
whole_output_fault before now (ending.UnitTooLarge unit size limit) is told = absurd cc

pub output_fault_is_told : (before now : Option (List ℕ)) (e : Ending) (s : Status) → IsTold e before now s → s ≡ status.OutputFault → TookAll before now (report_of ending.OutputFault)
output_fault_is_told before now e _ (Whole told) is = whole_output_fault before now e is told
output_fault_is_told before now e _ (CutByFault some) is = absurd cc
output_fault_is_told before now e _ (CutByMemory some) is = absurd cc

-- where the ending is that fault, the status tells of it
tells_output_fault : (e : Ending) → is_output_fault e ≡ true → IsTrue (tells_fault status.OutputFault (status_of e))
tells_output_fault ending.OutputFault is = refl
tells_output_fault ending.StoreFault is = absurd cc
tells_output_fault ending.Memory is = absurd cc
tells_output_fault ending.Ended is = absurd cc
tells_output_fault (ending.Stopped at) is = absurd cc
tells_output_fault ending.Usage is = absurd cc
tells_output_fault (ending.Missing name) is = absurd cc
tells_output_fault ending.LinesSpent is = absurd cc
tells_output_fault (ending.Refused name refusal) is = absurd cc
tells_output_fault (ending.FileTooLarge name size) is = absurd cc
tells_output_fault (ending.UnitTooLarge unit size limit) is = absurd cc

pub output_fault_is_rose :
    (before now : Option (List ℕ)) (e : Ending) (s : Status) (count_before count_now : ℕ) → IsTold e before now s →
    CountMoves (is_output_fault e) count_before count_now → count_before < count_now → IsTrue (tells_fault status.OutputFault s)
output_fault_is_rose before now e _ b n (Whole told) moves rose = tells_output_fault e (moved (is_output_fault e) b n moves rose)
output_fault_is_rose before now e _ b n (CutByFault some) moves rose = refl
output_fault_is_rose before now e _ b n (CutByMemory some) moves rose = refl

-- only statuses of the commands that are built come
built_status : (e : Ending) → IsTrue (can_be (status_of e))
built_status ending.StoreFault = refl
built_status ending.OutputFault = refl
built_status ending.Memory = refl
built_status ending.Ended = refl
built_status (ending.Stopped at) = refl
built_status ending.Usage = refl
built_status (ending.Missing name) = refl
built_status ending.LinesSpent = refl
built_status (ending.Refused name refusal) = refl
built_status (ending.FileTooLarge name size) = refl
built_status (ending.UnitTooLarge unit size limit) = refl

pub told_built : (before now : Option (List ℕ)) (e : Ending) (s : Status) → IsTold e before now s → IsTrue (can_be s)
told_built before now e _ (Whole told) = built_status e
told_built before now e _ (CutByFault some) = refl
told_built before now e _ (CutByMemory some) = refl
