-- The answer to the words, row by row.
use Rattle.std.proofs.Common.{◌≡◌, ◌≢◌, ◌↔◌, ◌<◌, ◌≤◌, ℕ, List, length, Bool, true, false, Option, Some, None, Result, Ok, Err, refl, sym, ap, ◌∙◌, arith}
use Rattle.std.specs.Prelude.{nat_le, nat_lt, if◌then◌else◌}
use Rattle.std.proofs.lemmas.Bool.{le-leb, leb-true, ltb-false}
use Rattle.std.specs.FinMap.{get}
use Rattle.bas_world.specs.Files.{Files}
use Rattle.bas_ast.specs.Tree.{Program, SourceUnit}
use Rattle.bas_mean.specs.World.{Seen}
use Rattle.bas_mean.specs.Outcome.{RunEnd, Exception}
use Rattle.bas_mean.specs.Outcome as run
use Rattle.bas_mean.specs.Meaning.{first_program, mean}
use Rattle.bas_carry.specs.Slots.{slots_of}
use Rattle.bas_genexpr.specs.Counts.{code_limit}
use Rattle.bas_genexpr.specs.Numbering.{slot_limit}
use Rattle.bas_gen.specs.Generated.{program_size, IsWithin}
use Rattle.bas_execute.specs.Executed.{SoundIsNotLost}
use Rattle.bas_accept.specs.Accepted.{accepted_of, HasSoundProgram, TellsAccepted, AcceptedIsSound}
use Rattle.bas_accept.specs.declared.acceptance.Refusal.{Refusal}
use Rattle.bas_drive.specs.Answer.{command_of, command_answer, file_answer, source_answer, program_answer, body_answer, run_answer, answer_of}
use Rattle.bas_drive.specs.Ending.{Outcome, without_output}
use Rattle.bas_drive.specs.Report.{status_of}
use Rattle.bas_drive.specs.declared.top.TheConstants.{SOURCE_BYTES}
use Rattle.bas_drive.specs.declared.words.Command.{Command}
use Rattle.bas_drive.specs.declared.words.Command.TheVariants.{Go}
use Rattle.bas_drive.specs.declared.ending.Ending.TheVariants as ends
use Rattle.bas_drive.specs.declared.status.Status.{Status}
use Rattle.bas_drive.specs.declared.status.Status.TheVariants as status
use Rattle.bas_drive.proofs.Running.{same_mean, within_answer}

-- no run has such a status
no_run : (s : Status) → status.Ended ≢ s → status.Stopped ≢ s → status.LinesSpent ≢ s → (e : RunEnd) → status_of (run_answer e).ending ≢ s
no_run s not_ended not_stopped not_spent (run.Ended seen) = not_ended
no_run s not_ended not_stopped not_spent (run.Stopped x seen) = not_stopped
no_run s not_ended not_stopped not_spent (run.GoesOn seen) = not_spent
no_run s not_ended not_stopped not_spent run.Lost = not_ended

-- nor has a body, where TooLarge is another one
no_body : (s : Status) → status.TooLarge ≢ s → (p : Program) (ran : Outcome) → status_of ran.ending ≢ s → status_of (body_answer p ran).ending ≢ s
no_body s not_large p ran not_ran = by (nat_lt code_limit (program_size p)) (nat_lt slot_limit (length (slots_of p)))
  where
    by : (a b : Bool) → status_of (if a then without_output (ends.UnitTooLarge p.name 65536 65535) else if b then without_output (ends.UnitTooLarge p.name 4097 4096) else ran).ending ≢ s
    by true b = not_large
    by false true = not_large
    by false false = not_ran

-- a program has none of the other statuses
no_program : (s : Status) → status.Ended ≢ s → status.Stopped ≢ s → status.LinesSpent ≢ s → status.TooLarge ≢ s → (p : Program) (e : RunEnd) → status_of (body_answer p (run_answer e)).ending ≢ s
no_program s a b c d p e = no_body s d p (run_answer e) (no_run s a b c e)

-- a file that is there is not missing, and no usage
no_units : (s : Status) → status.Ended ≢ s → status.Stopped ≢ s → status.LinesSpent ≢ s → status.TooLarge ≢ s → status.SourceRefused ≢ s → (name : List ℕ) (lines : ℕ) (input : List ℕ) (units : List SourceUnit) (o : Option Program) → status_of (program_answer name units lines input o).ending ≢ s
no_units s a b c d r name lines input units None = r
no_units s a b c d r name lines input units (Some p) = no_program s a b c d p (mean units lines input)

no_source : (s : Status) → status.Ended ≢ s → status.Stopped ≢ s → status.LinesSpent ≢ s → status.TooLarge ≢ s → status.SourceRefused ≢ s → (name : List ℕ) (lines : ℕ) (input : List ℕ) (found : Result (List SourceUnit) Refusal) → status_of (source_answer name lines input found).ending ≢ s
no_source s a b c d r name lines input (Err refusal) = r
no_source s a b c d r name lines input (Ok units) = no_units s a b c d r name lines input units (first_program units)

no_bytes : (s : Status) → status.Ended ≢ s → status.Stopped ≢ s → status.LinesSpent ≢ s → status.TooLarge ≢ s → status.SourceRefused ≢ s → (name : List ℕ) (lines : ℕ) (input bytes : List ℕ) → status_of (file_answer name lines input (Some bytes)).ending ≢ s
no_bytes s a b c d r name lines input bytes = by (nat_le (length bytes) SOURCE_BYTES)
  where
    by : (fits : Bool) → status_of (if fits then source_answer name lines input (accepted_of bytes) else without_output (ends.FileTooLarge name (length bytes))).ending ≢ s
    by true = no_source s a b c d r name lines input (accepted_of bytes)
    by false = d

pub no_usage : (name : List ℕ) (lines : ℕ) (input : List ℕ) (file : Option (List ℕ)) → status_of (file_answer name lines input file).ending ≢ status.Usage
no_usage name lines input None = λ e. absurd (cc)
no_usage name lines input (Some bytes) = no_bytes status.Usage (λ e. absurd (cc)) (λ e. absurd (cc)) (λ e. absurd (cc)) (λ e. absurd (cc)) (λ e. absurd (cc)) name lines input bytes

usage_only : (command : Option Command) (files : Files) (input : List ℕ) → status_of (command_answer command files input).ending ≡ status.Usage → command ≡ None
usage_only None files input is = refl
usage_only (Some (Go name lines)) files input is = absurd (no_usage name lines input (get files name) is)

pub usage_row : (words : List (List ℕ)) (files : Files) (input : List ℕ) → (status_of (answer_of words files input).ending ≡ status.Usage) ↔ (command_of words ≡ None)
usage_row words files input = (usage_only (command_of words) files input, λ none. ap (λ c. status_of (command_answer c files input).ending) none)

-- the answer to `go` is that for its file
at_file : (words : List (List ℕ)) (files : Files) (input name : List ℕ) (lines : ℕ) → command_of words ≡ Some (Go name lines) → answer_of words files input ≡ file_answer name lines input (get files name)
at_file words files input name lines go = ap (λ c. command_answer c files input) go

missing_only : (name : List ℕ) (lines : ℕ) (input : List ℕ) (file : Option (List ℕ)) → status_of (file_answer name lines input file).ending ≡ status.FileMissing → file ≡ None
missing_only name lines input None is = refl
missing_only name lines input (Some bytes) is = absurd (no_bytes status.FileMissing (λ e. absurd (cc)) (λ e. absurd (cc)) (λ e. absurd (cc)) (λ e. absurd (cc)) (λ e. absurd (cc)) name lines input bytes is)

pub missing_row : (words : List (List ℕ)) (files : Files) (input name : List ℕ) (lines : ℕ) → command_of words ≡ Some (Go name lines) → (status_of (answer_of words files input).ending ≡ status.FileMissing) ↔ (get files name ≡ None)
missing_row words files input name lines go =
    let at = at_file words files input name lines go in (
      λ is. missing_only name lines input (get files name) (ap (λ a. status_of a.ending) (sym at) ∙ is),
      λ none. ap (λ a. status_of a.ending) at ∙ ap (λ f. status_of (file_answer name lines input f).ending) none,
    )

-- the answer to `go` for a file that is there
at_bytes : (words : List (List ℕ)) (files : Files) (input name bytes : List ℕ) (lines : ℕ) → command_of words ≡ Some (Go name lines) → get files name ≡ Some bytes → answer_of words files input ≡ file_answer name lines input (Some bytes)
at_bytes words files input name bytes lines go there = at_file words files input name lines go ∙ ap (λ f. file_answer name lines input f) there

-- a number above a limit is not at most it
pub above : (n limit : ℕ) → limit < n → (b : Bool) → nat_le n limit ≡ b → b ≡ false
above n limit h true e = let within : n ≤ limit = leb-true n limit e in absurd (omega (arith, h, within))
above n limit h false e = refl

pub large_row : (words : List (List ℕ)) (files : Files) (input name bytes : List ℕ) (lines : ℕ) → command_of words ≡ Some (Go name lines) → get files name ≡ Some bytes → SOURCE_BYTES < length bytes → answer_of words files input ≡ without_output (ends.FileTooLarge name (length bytes))
large_row words files input name bytes lines go there large =
    at_bytes words files input name bytes lines go there
    ∙ ap (λ b. if b then source_answer name lines input (accepted_of bytes) else without_output (ends.FileTooLarge name (length bytes))) (above (length bytes) SOURCE_BYTES large (nat_le (length bytes) SOURCE_BYTES) refl)

-- the answer to `go` for a file that is not too large
at_source : (words : List (List ℕ)) (files : Files) (input name bytes : List ℕ) (lines : ℕ) → command_of words ≡ Some (Go name lines) → get files name ≡ Some bytes → length bytes ≤ SOURCE_BYTES → answer_of words files input ≡ source_answer name lines input (accepted_of bytes)
at_source words files input name bytes lines go there fits =
    at_bytes words files input name bytes lines go there
    ∙ ap (λ b. if b then source_answer name lines input (accepted_of bytes) else without_output (ends.FileTooLarge name (length bytes))) (le-leb (length bytes) SOURCE_BYTES fits)

pub told_row : (words : List (List ℕ)) (files : Files) (input name bytes : List ℕ) (lines : ℕ) (r : Refusal) → command_of words ≡ Some (Go name lines) → get files name ≡ Some bytes → length bytes ≤ SOURCE_BYTES → accepted_of bytes ≡ Err r → answer_of words files input ≡ without_output (ends.Refused name r)
told_row words files input name bytes lines r go there fits refused = at_source words files input name bytes lines go there fits ∙ ap (λ f. source_answer name lines input f) refused

-- the program of accepted units
has_program : TellsAccepted → AcceptedIsSound → (bytes : List ℕ) (units : List SourceUnit) → accepted_of bytes ≡ Ok units → HasSoundProgram units
has_program tells sound bytes units is = sound bytes units (tells.found bytes units is)

refused_only : (name : List ℕ) (lines : ℕ) (input : List ℕ) (found : Result (List SourceUnit) Refusal) → ((units : List SourceUnit) → found ≡ Ok units → HasSoundProgram units) → status_of (source_answer name lines input found).ending ≡ status.SourceRefused → (r : Refusal) × (found ≡ Err r)
refused_only name lines input (Err r) has is = (r, refl)
refused_only name lines input (Ok units) has is =
    let h = has units refl in
    absurd (no_program status.SourceRefused (λ e. absurd (cc)) (λ e. absurd (cc)) (λ e. absurd (cc)) (λ e. absurd (cc)) h.program (mean units lines input) (ap (λ o. status_of (program_answer name units lines input o).ending) (sym h.is_first) ∙ is))

pub refused_row : TellsAccepted → AcceptedIsSound → (words : List (List ℕ)) (files : Files) (input name bytes : List ℕ) (lines : ℕ) → command_of words ≡ Some (Go name lines) → get files name ≡ Some bytes → length bytes ≤ SOURCE_BYTES → (status_of (answer_of words files input).ending ≡ status.SourceRefused) ↔ ((r : Refusal) × (accepted_of bytes ≡ Err r))
refused_row tells sound words files input name bytes lines go there fits =
    let at = at_source words files input name bytes lines go there fits in (
      λ is. refused_only name lines input (accepted_of bytes) (λ units e. has_program tells sound bytes units e) (ap (λ a. status_of a.ending) (sym at) ∙ is),
      λ r. ap (λ a. status_of a.ending) (at ∙ ap (λ f. source_answer name lines input f) r.1),
    )

-- the answer to `go` for accepted units
at_program : (words : List (List ℕ)) (files : Files) (input name bytes : List ℕ) (lines : ℕ) (units : List SourceUnit) (p : Program) → command_of words ≡ Some (Go name lines) → get files name ≡ Some bytes → length bytes ≤ SOURCE_BYTES → accepted_of bytes ≡ Ok units → first_program units ≡ Some p → answer_of words files input ≡ body_answer p (run_answer (mean units lines input))
at_program words files input name bytes lines units p go there fits is_units is_first =
    at_source words files input name bytes lines go there fits ∙ ap (λ f. source_answer name lines input f) is_units ∙ ap (λ o. program_answer name units lines input o) is_first

pub meant_row : (words : List (List ℕ)) (files : Files) (input name bytes : List ℕ) (lines : ℕ) (units : List SourceUnit) (p : Program) → command_of words ≡ Some (Go name lines) → get files name ≡ Some bytes → length bytes ≤ SOURCE_BYTES → accepted_of bytes ≡ Ok units → first_program units ≡ Some p → IsWithin p → answer_of words files input ≡ run_answer (mean units lines input)
meant_row words files input name bytes lines units p go there fits is_units is_first within =
    at_program words files input name bytes lines units p go there fits is_units is_first ∙ within_answer p (run_answer (mean units lines input)) within

-- a body that is not within its limits is told
passed : (p : Program) (ran : Outcome) → (IsWithin p → ⊥) → status_of (body_answer p ran).ending ≡ status.TooLarge
passed p ran not_within = by (nat_lt code_limit (program_size p)) (nat_lt slot_limit (length (slots_of p))) refl refl
  where
    by : (a b : Bool) → nat_lt code_limit (program_size p) ≡ a → nat_lt slot_limit (length (slots_of p)) ≡ b → status_of (if a then without_output (ends.UnitTooLarge p.name 65536 65535) else if b then without_output (ends.UnitTooLarge p.name 4097 4096) else ran).ending ≡ status.TooLarge
    by true b c d = refl
    by false true c d = refl
    by false false c d = absurd (not_within (record { code = ltb-false code_limit (program_size p) c; slots = ltb-false slot_limit (length (slots_of p)) d }))

pub limit_row : (words : List (List ℕ)) (files : Files) (input name bytes : List ℕ) (lines : ℕ) (units : List SourceUnit) (p : Program) → command_of words ≡ Some (Go name lines) → get files name ≡ Some bytes → length bytes ≤ SOURCE_BYTES → accepted_of bytes ≡ Ok units → first_program units ≡ Some p → (status_of (answer_of words files input).ending ≡ status.TooLarge) ↔ (IsWithin p → ⊥)
limit_row words files input name bytes lines units p go there fits is_units is_first =
    let at = at_program words files input name bytes lines units p go there fits is_units is_first in (
      λ is within. no_run status.TooLarge (λ e. absurd (cc)) (λ e. absurd (cc)) (λ e. absurd (cc)) (mean units lines input) (ap (λ a. status_of a.ending) (sym (at ∙ within_answer p (run_answer (mean units lines input)) within)) ∙ is),
      λ not_within. ap (λ a. status_of a.ending) at ∙ passed p (run_answer (mean units lines input)) not_within,
    )

-- the end of accepted units is not lost
there_is_an_end : TellsAccepted → AcceptedIsSound → SoundIsNotLost → (bytes input : List ℕ) (lines : ℕ) (units : List SourceUnit) → accepted_of bytes ≡ Ok units → mean units lines input ≢ run.Lost
there_is_an_end tells sound not_lost bytes input lines units is lost =
    let h = has_program tells sound bytes units is in not_lost h.program h.sound lines input (same_mean units h.program lines input h.is_first ∙ lost)

pub ended_row : TellsAccepted → AcceptedIsSound → SoundIsNotLost → (bytes input : List ℕ) (lines : ℕ) (units : List SourceUnit) → accepted_of bytes ≡ Ok units → (status_of (run_answer (mean units lines input)).ending ≡ status.Ended) ↔ ((seen : Seen) × (mean units lines input ≡ run.Ended seen))
ended_row tells sound not_lost bytes input lines units is = (
  by (mean units lines input) (there_is_an_end tells sound not_lost bytes input lines units is),
  λ e. ap (λ x. status_of (run_answer x).ending) e.1,
)
  where
    by : (e : RunEnd) → e ≢ run.Lost → status_of (run_answer e).ending ≡ status.Ended → (seen : Seen) × (e ≡ run.Ended seen)
    by (run.Ended seen) there s = (seen, refl)
    by (run.Stopped x seen) there s = absurd cc
    by (run.GoesOn seen) there s = absurd cc
    by run.Lost there s = absurd (there refl)

pub stopped_row : (input : List ℕ) (lines : ℕ) (units : List SourceUnit) → (status_of (run_answer (mean units lines input)).ending ≡ status.Stopped) ↔ ((x : Exception) × (seen : Seen) × (mean units lines input ≡ run.Stopped x seen))
stopped_row input lines units = (by (mean units lines input), λ e. ap (λ x. status_of (run_answer x).ending) e.2)
  where
    by : (e : RunEnd) → status_of (run_answer e).ending ≡ status.Stopped → (x : Exception) × (seen : Seen) × (e ≡ run.Stopped x seen)
    by (run.Ended seen) s = absurd cc
    by (run.Stopped x seen) s = (x, seen, refl)
    by (run.GoesOn seen) s = absurd cc
    by run.Lost s = absurd cc

pub spent_row : (input : List ℕ) (lines : ℕ) (units : List SourceUnit) → (status_of (run_answer (mean units lines input)).ending ≡ status.LinesSpent) ↔ ((seen : Seen) × (mean units lines input ≡ run.GoesOn seen))
spent_row input lines units = (by (mean units lines input), λ e. ap (λ x. status_of (run_answer x).ending) e.1)
  where
    by : (e : RunEnd) → status_of (run_answer e).ending ≡ status.LinesSpent → (seen : Seen) × (e ≡ run.GoesOn seen)
    by (run.Ended seen) s = absurd cc
    by (run.Stopped x seen) s = absurd cc
    by (run.GoesOn seen) s = (seen, refl)
    by run.Lost s = absurd cc
