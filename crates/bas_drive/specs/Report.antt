-- The status and the report line of each ending.
use Rattle.std.specs.Prelude.{ℕ, List, [], ◌∷◌, ◌++◌, codes, decimal}
use Rattle.bas_mean.specs.Line.{report_line}
use Rattle.bas_base.specs.declared.exception.ExAt.{ExAt}
use Rattle.bas_mean.specs.Outcome.{Exception}
use Rattle.bas_block.specs.declared.file.SourceFault.{SourceFault}
use Rattle.bas_block.specs.declared.file.SourceFault.TheVariants as fault
use Rattle.bas_accept.specs.declared.acceptance.Refusal.{Refusal}
use Rattle.bas_accept.specs.declared.acceptance.Refusal.TheVariants.{Source, Rule}
use Rattle.bas_drive.specs.declared.top.TheConstants.{SOURCE_BYTES}
use Rattle.bas_drive.specs.declared.ending.Ending.{Ending}
use Rattle.bas_drive.specs.declared.ending.Ending.TheVariants as ending
use Rattle.bas_drive.specs.declared.status.Status.{Status}
use Rattle.bas_drive.specs.declared.status.Status.TheVariants as status

-- the status of an ending
abbrev pub status_of : Ending → Status
status_of ending.Ended = status.Ended
status_of (ending.Stopped at) = status.Stopped
status_of ending.LinesSpent = status.LinesSpent
status_of ending.Usage = status.Usage
status_of (ending.Missing name) = status.FileMissing
status_of (ending.Refused name refusal) = status.SourceRefused
status_of (ending.FileTooLarge name size) = status.TooLarge
status_of (ending.UnitTooLarge unit size limit) = status.TooLarge
status_of ending.StoreFault = status.StoreFault
status_of ending.OutputFault = status.OutputFault
status_of ending.Memory = status.Memory

-- a text and LF
abbrev pub line : List ℕ → List ℕ
line text = text ++ 10 ∷ []

-- a line about a file or a unit: its name, and what is reported of it
abbrev pub line_about : List ℕ → List ℕ → List ℕ
line_about name text = line (name ++ (codes ": " ++ text))

-- a word and a number
abbrev pub with_number : List ℕ → ℕ → List ℕ
with_number word number = word ++ decimal number

-- two numbers with a space between them
abbrev pub with_numbers : List ℕ → (first second : ℕ) → List ℕ
with_numbers word first second = with_number word first ++ with_number (codes " ") second

-- what is reported of a fault of a source file; Memory has no report line
abbrev pub fault_text : SourceFault → List ℕ
fault_text (fault.TooLong count) = with_number (codes "TooLong ") count
fault_text (fault.Unnumbered count) = with_number (codes "Unnumbered ") count
fault_text (fault.OutOfOrder line) = with_number (codes "OutOfOrder ") line
fault_text (fault.BadLine line) = with_number (codes "BadLine ") line
fault_text (fault.BadNest line) = with_number (codes "BadNest ") line
fault_text (fault.Unclosed line) = with_number (codes "Unclosed ") line
fault_text fault.NoUnit = codes "NoUnit"
fault_text fault.Memory = []

-- what is reported of a refusal
abbrev pub refusal_text : Refusal → List ℕ
refusal_text (Source fault) = fault_text fault
refusal_text (Rule rule line) = with_numbers (codes "Rule ") rule line

-- what is reported of a size over its limit
abbrev pub size_text : (size limit : ℕ) → List ℕ
size_text size limit = with_numbers (codes "too large ") size limit

-- the exception that is reported
abbrev pub exception_of : ExAt → Exception
exception_of at = record { number = at.ex; line = at.line; unit = at.unit }

-- what the report gets of an ending: one line, or nothing
abbrev pub report_of : Ending → List ℕ
report_of ending.Ended = []
report_of (ending.Stopped at) = report_line (exception_of at)
report_of ending.LinesSpent = line (codes "lines spent")
report_of ending.Usage = line (codes "usage: fullbasic check, compile, link, run, go, list or demo")
report_of (ending.Missing name) = line_about name (codes "missing")
report_of (ending.Refused name refusal) = line_about name (refusal_text refusal)
report_of (ending.FileTooLarge name size) = line_about name (size_text size SOURCE_BYTES)
report_of (ending.UnitTooLarge unit size limit) = line_about unit (size_text size limit)
report_of ending.StoreFault = line (codes "store fault")
report_of ending.OutputFault = line (codes "output fault")
report_of ending.Memory = []

-- the exit status of each status
abbrev pub code_of : Status → ℕ
code_of status.Ended = 0
code_of status.Stopped = 1
code_of status.Usage = 2
code_of status.SourceRefused = 3
code_of status.LinkRefused = 4
code_of status.ImageRefused = 5
code_of status.LinesSpent = 6
code_of status.StoreFault = 7
code_of status.InputFault = 8
code_of status.OutputFault = 9
code_of status.Memory = 10
code_of status.FileMissing = 11
code_of status.ReportFault = 12
code_of status.TooLarge = 13
