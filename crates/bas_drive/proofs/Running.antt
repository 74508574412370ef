-- From the machine's answer to the answer of the command.
use Rattle.std.proofs.Common.{◌≡◌, ◌≢◌, ℕ, suc, ◌<◌, ◌≤◌, Bool, true, false, List, [], ◌∷◌, length, Option, Some, refl, sym, ap, subst, ◌∙◌, inl, inr, arith}
use Rattle.std.specs.Prelude.{nat_lt, if◌then◌else◌}
use Rattle.std.proofs.lemmas.Bool.{lt-ltb, ltb-true}
use Rattle.bas_ast.specs.Tree.{Program, SourceUnit, ProgramUnit}
use Rattle.bas_mean.specs.Outcome.{RunEnd}
use Rattle.bas_mean.specs.Outcome as run
use Rattle.bas_mean.specs.World.{first_world}
use Rattle.bas_mean.specs.Meaning.{end_of, run_first, first_program, mean}
use Rattle.bas_carry.specs.Slots.{slots_of}
use Rattle.bas_genexpr.specs.Counts.{code_limit}
use Rattle.bas_genexpr.specs.Numbering.{slot_limit}
use Rattle.bas_gen.specs.Generated.{program_size, IsWithin, IsRefused}
use Rattle.bas_vm.specs.Runs.{Answers, IsTold, TookOf}
use Rattle.bas_vm.specs.Took.{TookAll, TookPrefix}
use Rattle.bas_vm.specs.declared.turn.Turn.{Turn}
use Rattle.bas_vm.specs.declared.turn.Turn.TheVariants as turn
use Rattle.bas_genexpr.specs.declared.fault.GenFault.TheVariants.{TooLarge}
use Rattle.bas_carry.specs.Tables.{Sound}
use Rattle.bas_execute.specs.Executed.{DoesWhatItMeans, IsWhole, SoundIsNotLost}
use Rattle.bas_drive.specs.Answer.{run_answer, body_answer, program_answer}
use Rattle.bas_drive.specs.Ending.{Outcome, without_output, RunOf, turn_ending}
use Rattle.bas_drive.specs.declared.ending.Ending.{Ending}
use Rattle.bas_drive.specs.declared.ending.Ending.TheVariants as ends

-- an end that the machine tells is that of the answer, with its whole output and no report
told : (t : Turn) (e : RunEnd) (before now : Option (List ℕ)) → t ≢ turn.Refused → t ≢ turn.Lost → t ≢ turn.OutputFault → t ≢ turn.Memory → IsTold before now t e → (turn_ending t ≡ (run_answer e).ending) × TookAll before now (run_answer e).output × ((run_answer e).report ≡ [])
told turn.Ended (run.Ended seen) before now r l o m is = (refl, subst (λ x. TookAll before now x) (sym is.is.0) is.took, is.is.1)
told turn.Ended (run.Stopped x seen) before now r l o m is = absurd is.is
told turn.Ended (run.GoesOn seen) before now r l o m is = absurd is.is
told turn.Ended run.Lost before now r l o m is = absurd is.is
told (turn.Stopped at) (run.Stopped x seen) before now r l o m is = (ap (λ y. ends.Stopped (record { ex = y.number; line = y.line; unit = y.unit })) (sym is.is.0), subst (λ y. TookAll before now y) (sym is.is.1) is.took, is.is.2)
told (turn.Stopped at) (run.Ended seen) before now r l o m is = absurd is.is
told (turn.Stopped at) (run.GoesOn seen) before now r l o m is = absurd is.is
told (turn.Stopped at) run.Lost before now r l o m is = absurd is.is
told turn.LinesSpent (run.GoesOn seen) before now r l o m is = (refl, subst (λ x. TookAll before now x) (sym is.is.0) is.took, is.is.1)
told turn.LinesSpent (run.Ended seen) before now r l o m is = absurd is.is
told turn.LinesSpent (run.Stopped x seen) before now r l o m is = absurd is.is
told turn.LinesSpent run.Lost before now r l o m is = absurd is.is
told turn.Lost e before now r l o m is = absurd (l refl)
told turn.Refused e before now r l o m is = absurd (r refl)
told turn.OutputFault e before now r l o m is = absurd (o refl)
told turn.Memory e before now r l o m is = absurd (m refl)

-- the front of an end's output is the front of the answer's
front : (e : RunEnd) (before now : Option (List ℕ)) → e ≢ run.Lost → TookOf before now e → TookPrefix before now (run_answer e).output
front (run.Ended seen) before now there took = took
front (run.Stopped x seen) before now there took = took
front (run.GoesOn seen) before now there took = took
front run.Lost before now there took = absurd (there refl)

-- what a turn answers for an end that is not lost
pub turn_answers : (t : Turn) (e : RunEnd) (before now : Option (List ℕ)) → t ≢ turn.Refused → t ≢ turn.Lost → e ≢ run.Lost → Answers before now t e → RunOf (run_answer e) before now (turn_ending t)
turn_answers turn.OutputFault e before now r l there a = front e before now there a
turn_answers turn.Memory e before now r l there a = front e before now there a
turn_answers turn.Ended e before now r l there a = told turn.Ended e before now r l (λ q. absurd (cc)) (λ q. absurd (cc)) a
turn_answers (turn.Stopped at) e before now r l there a = told (turn.Stopped at) e before now r l (λ q. absurd (cc)) (λ q. absurd (cc)) a
turn_answers turn.LinesSpent e before now r l there a = told turn.LinesSpent e before now r l (λ q. absurd (cc)) (λ q. absurd (cc)) a
turn_answers turn.Lost e before now r l there a = absurd (l refl)
turn_answers turn.Refused e before now r l there a = absurd (r refl)

-- the answer where a count passes a limit
abbrev too_large : Program → (limit : ℕ) → Outcome
too_large p limit = without_output (ends.UnitTooLarge p.name (suc limit) limit)

told_sizes : (p : Program) (size limit own : ℕ) → size ≡ suc own → limit ≡ own → too_large p own ≡ without_output (ends.UnitTooLarge p.name size limit)
told_sizes p size limit own is_size is_limit =
    ap (λ s. without_output (ends.UnitTooLarge p.name s own)) (sym is_size) ∙ ap (λ l. without_output (ends.UnitTooLarge p.name size l)) (sym is_limit)

-- a count within its limit does not pass it
unpassed : (limit count : ℕ) → count ≤ limit → (b : Bool) → nat_lt limit count ≡ b → b ≡ false
unpassed limit count h true e = let above : limit < count = ltb-true limit count e in absurd (omega (arith, h, above))
unpassed limit count h false e = refl

-- a body within its limits is run
pub within_answer : (p : Program) (ran : Outcome) → IsWithin p → body_answer p ran ≡ ran
within_answer p ran within =
    ap (λ b. if b then too_large p code_limit else (if nat_lt slot_limit (length (slots_of p)) then too_large p slot_limit else ran)) (unpassed code_limit (program_size p) within.code (nat_lt code_limit (program_size p)) refl)
    ∙ ap (λ b. if b then too_large p slot_limit else ran) (unpassed slot_limit (length (slots_of p)) within.slots (nat_lt slot_limit (length (slots_of p))) refl)

-- a refused body tells the first count that passes its limit
pub refused_answer : (p : Program) (ran : Outcome) (size limit : ℕ) → IsRefused (TooLarge size limit) p → body_answer p ran ≡ without_output (ends.UnitTooLarge p.name size limit)
refused_answer p ran size limit (inl r) =
    ap (λ b. if b then too_large p code_limit else (if nat_lt slot_limit (length (slots_of p)) then too_large p slot_limit else ran)) (lt-ltb code_limit (program_size p) r.0)
    ∙ told_sizes p size limit code_limit r.1 r.2
refused_answer p ran size limit (inr r) =
    ap (λ b. if b then too_large p code_limit else (if nat_lt slot_limit (length (slots_of p)) then too_large p slot_limit else ran)) (unpassed code_limit (program_size p) r.0 (nat_lt code_limit (program_size p)) refl)
    ∙ (ap (λ b. if b then too_large p slot_limit else ran) (lt-ltb slot_limit (length (slots_of p)) r.1.0)
    ∙ told_sizes p size limit slot_limit r.1.1 r.1.2)

-- what a program comes to by the machine's answer is what it means
pub runs : (p : Program) (n : ℕ) (before now : Option (List ℕ)) (t : Turn) (result : Ending) → SoundIsNotLost → Sound p → IsWithin p → DoesWhatItMeans p n before now t → IsWhole p t → result ≡ turn_ending t →
    (input : List ℕ) → RunOf (body_answer p (run_answer (mean (ProgramUnit p ∷ []) n input))) before now result
runs p n before now t result not_lost sound within means whole is input =
    let e = mean (ProgramUnit p ∷ []) n input in
    let told : RunOf (run_answer e) before now (turn_ending t) = turn_answers t e before now (whole sound).0 (whole sound).1 (not_lost p sound n input) (means sound input) in
    let ran : RunOf (body_answer p (run_answer e)) before now (turn_ending t) = subst (λ o. RunOf o before now (turn_ending t)) (sym (within_answer p (run_answer e) within)) told in
    subst (λ r. RunOf (body_answer p (run_answer e)) before now r) (sym is) ran

-- units mean what their first program means
pub same_mean : (units : List SourceUnit) (p : Program) (n : ℕ) (input : List ℕ) → first_program units ≡ Some p → mean (ProgramUnit p ∷ []) n input ≡ mean units n input
unfolding mean
same_mean units p n input is = ap (λ o. end_of (run_first o (first_world n input))) (sym is)

-- the answer for units is that for their first program
pub units_answer : (name : List ℕ) (units : List SourceUnit) (p : Program) (lines : ℕ) (input : List ℕ) → first_program units ≡ Some p → body_answer p (run_answer (mean (ProgramUnit p ∷ []) lines input)) ≡ program_answer name units lines input (first_program units)
units_answer name units p lines input is =
    ap (λ e. body_answer p (run_answer e)) (same_mean units p lines input is) ∙ ap (λ o. program_answer name units lines input o) (sym is)
