-- What a command line asks for, and the answer to it if nothing outside fails.
use Rattle.std.specs.Prelude.{◌≡◌, ℕ, suc, ◌&&◌, nat_le, nat_lt, nat_eq, if◌then◌else◌, List, [], ◌∷◌, length, codes, Option, Some, None, Result, Ok, Err, Bool, MatchBool}
use Rattle.std.specs.List.{list_all, ends_with}
use Rattle.std.specs.Char.{is_ascii_digit}
use Rattle.std.specs.Cmp.Lexicographic.{pointwise}
use Rattle.std.specs.FinMap.{get}
use Rattle.bas_base.specs.Names.{is_file_name}
use Rattle.bas_base.specs.declared.exception.ExAt.{ExAt}
use Rattle.bas_source.specs.Number.{spelled}
use Rattle.bas_ast.specs.Tree.{Program, SourceUnit}
use Rattle.bas_mean.specs.Outcome.{RunEnd, Exception}
use Rattle.bas_mean.specs.Outcome as run
use Rattle.bas_mean.specs.Meaning.{first_program, mean}
use Rattle.bas_carry.specs.Slots.{slots_of}
use Rattle.bas_genexpr.specs.Counts.{code_limit}
use Rattle.bas_genexpr.specs.Numbering.{slot_limit}
use Rattle.bas_gen.specs.Generated.{program_size}
use Rattle.bas_block.specs.declared.file.SourceFault.TheVariants.{NoUnit}
use Rattle.bas_accept.specs.Accepted.{accepted_of}
use Rattle.bas_accept.specs.declared.acceptance.Refusal.{Refusal}
use Rattle.bas_accept.specs.declared.acceptance.Refusal.TheVariants.{Source}
use Rattle.bas_world.specs.Files.{Files}
use Rattle.bas_drive.specs.Ending.{Outcome, without_output, is_failure}
use Rattle.bas_drive.specs.declared.words.TheConstants.{WORD_NAME_BYTES, LINES_DIGITS, DEFAULT_LINES}
use Rattle.bas_drive.specs.declared.top.TheConstants.{SOURCE_BYTES}
use Rattle.bas_drive.specs.declared.words.Command.{Command}
use Rattle.bas_drive.specs.declared.words.Command.TheVariants.{Go}
use Rattle.bas_drive.specs.declared.ending.Ending.{Ending}
use Rattle.bas_drive.specs.declared.ending.Ending.TheVariants.{Ended, Stopped, LinesSpent, Usage, Missing, Refused, FileTooLarge, UnitTooLarge}

-- ---- the words

-- two texts are equal
abbrev pub same_text : List ℕ → List ℕ → Bool
same_text a b = pointwise nat_eq a b

-- the name of a source file: a file name that ends in `.bas` and is not too long for a word of the command line
abbrev pub is_source_name : List ℕ → Bool
is_source_name name = is_file_name name && (nat_le (length name) WORD_NAME_BYTES && ends_with nat_eq name (codes ".bas"))

-- whether a word is a number of lines: 1 to 12 digits
abbrev pub is_line_count : List ℕ → Bool
is_line_count word = nat_le 1 (length word) && (nat_le (length word) LINES_DIGITS && list_all is_ascii_digit word)

-- the number of lines that a word gives
abbrev pub line_count_of : List ℕ → Option ℕ
line_count_of word = if is_line_count word then Some (spelled word) else None

-- the number of lines that an option and its value give
abbrev pub lines_of : (option value : List ℕ) → Option ℕ
lines_of option value = if same_text option (codes "--lines") then line_count_of value else None

-- `go`, the name of a source file, and a number of lines
abbrev pub go_of : (verb name : List ℕ) → Option ℕ → Option Command
go_of verb name None = None
go_of verb name (Some lines) = if same_text verb (codes "go") && is_source_name name then Some (Go name lines) else None

-- the command that a command line is, or None: `go` and a name, perhaps followed by `--lines` and a number
abbrev pub command_of : List (List ℕ) → Option Command
command_of (verb ∷ name ∷ []) = go_of verb name (Some DEFAULT_LINES)
command_of (verb ∷ name ∷ option ∷ value ∷ []) = go_of verb name (lines_of option value)
command_of _ = None

-- the file that a command names
abbrev pub name_of : Command → List ℕ
name_of (Go name lines) = name

-- ---- the answer

-- an exception, as the report tells it
abbrev pub told_at : Exception → ExAt
told_at x = record { ex = x.number; line = x.line; unit = x.unit }

-- the answer to a run by its end: what it printed and reported; no program of an accepted file is lost
abbrev pub run_answer : RunEnd → Outcome
run_answer (run.Ended seen) = record { output = seen.terminal.output; report = seen.terminal.report; ending = Ended }
run_answer (run.Stopped x seen) = record { output = seen.terminal.output; report = seen.terminal.report; ending = Stopped (told_at x) }
run_answer (run.GoesOn seen) = record { output = seen.terminal.output; report = seen.terminal.report; ending = LinesSpent }
run_answer run.Lost = without_output Ended

-- the answer where a count of the program's body passes its limit, first the instructions, then the
-- slots; else that of its run
abbrev pub body_answer : Program → Outcome → Outcome
body_answer p ran =
    if nat_lt code_limit (program_size p) then without_output (UnitTooLarge p.name (suc code_limit) code_limit)
    else if nat_lt slot_limit (length (slots_of p)) then without_output (UnitTooLarge p.name (suc slot_limit) slot_limit)
    else ran

-- the answer for the first program of accepted units; each accepted file has one
abbrev pub program_answer : (name : List ℕ) → List SourceUnit → (lines : ℕ) → (input : List ℕ) → Option Program → Outcome
program_answer name units lines input None = without_output (Refused name (Source NoUnit))
program_answer name units lines input (Some p) = body_answer p (run_answer (mean units lines input))

-- the answer for a file that is accepted or refused
abbrev pub source_answer : (name : List ℕ) → (lines : ℕ) → (input : List ℕ) → Result (List SourceUnit) Refusal → Outcome
source_answer name lines input (Err refusal) = without_output (Refused name refusal)
source_answer name lines input (Ok units) = program_answer name units lines input (first_program units)

-- the answer to `go` for a file that is there or is not
abbrev pub file_answer : (name : List ℕ) → (lines : ℕ) → (input : List ℕ) → Option (List ℕ) → Outcome
file_answer name lines input None = without_output (Missing name)
file_answer name lines input (Some bytes) =
    if nat_le (length bytes) SOURCE_BYTES then source_answer name lines input (accepted_of bytes) else without_output (FileTooLarge name (length bytes))

-- the answer to a command
abbrev pub command_answer : Option Command → Files → (input : List ℕ) → Outcome
command_answer None files input = without_output Usage
command_answer (Some (Go name lines)) files input = file_answer name lines input (get files name)

-- the answer to the words: what is printed and reported by the run, and how the command ends
abbrev pub answer_of : List (List ℕ) → Files → (input : List ℕ) → Outcome
answer_of words files input = command_answer (command_of words) files input

-- ---- how a command line can end

-- an ending that `go` can have for a file: that for some content and some input, or a failure
abbrev pub FileEnding : (name : List ℕ) → (lines : ℕ) → Ending → Type 0
FileEnding name lines ending =
    MatchBool (is_failure ending) (Unit {0}) ((content : Option (List ℕ)) × (input : List ℕ) × (ending ≡ (file_answer name lines input content).ending))

-- an ending that a command line can have: Usage if it is not valid, otherwise one for its file
abbrev pub CanEnd : Option Command → Ending → Type 0
CanEnd None ending = ending ≡ Usage
CanEnd (Some (Go name lines)) ending = FileEnding name lines ending
