-- The units of a file, and its first fault.
use Rattle.std.specs.Prelude.{◌≡◌, ℕ, suc, ◌<◌, ◌≤◌, nat_le, nat_lt, if◌then◌else◌, List, [], ◌∷◌, ◌++◌, length, map, Option, Some, None, Result, Ok, Err}
use Rattle.bas_ast.specs.Tree as tree
use Rattle.bas_ast.specs.BlockTree.{line_tree}
use Rattle.bas_ast.specs.UnitTree.{unit_tree}
use Rattle.bas_ast.specs.declared.unit.Unit.{Unit as SourceUnit}
use Rattle.bas_nest.specs.declared.state.Reading as declared
use Rattle.bas_nest.specs.States.{reading_tree}
use Rattle.bas_ast.specs.declared.block.LineItem.{LineItem}
use Rattle.bas_ast.specs.declared.block.NumLine.{NumLine}
use Rattle.bas_source.specs.Lines.{logical_lines}
use Rattle.bas_source.specs.Number.{numbered}
use Rattle.bas_line.specs.Items.{IsItem}
use Rattle.bas_line.specs.Itemizing.{item_of}
use Rattle.bas_nest.specs.Units.{AreUnits}
use Rattle.bas_nest.specs.Reading.{Reading, nothing_read, read, unclosed}
use Rattle.bas_block.specs.declared.TheConstants.{LINE_BYTES}
use Rattle.bas_block.specs.declared.file.SourceFault.{SourceFault}
use Rattle.bas_block.specs.declared.file.SourceFault.TheVariants as fault

-- ---- which units a file has

-- a logical line: at most 4,096 bytes, with a number greater than the one before it, and an item after that
abbrev pub IsLine : (last : ℕ) → List ℕ → NumLine → Type 0
IsLine last text line =
    (rest : List ℕ) × (length text ≤ LINE_BYTES) × (numbered text ≡ Some (line.line, rest)) × (last < line.line) × IsItem rest line.item

-- the logical lines of a file as lines of the language
abbrev pub AreLines : (last : ℕ) → List (List ℕ) → List NumLine → Type 0
AreLines last [] [] = Unit {0}
AreLines last [] (line ∷ lines) = ⊥
AreLines last (text ∷ texts) [] = ⊥
AreLines last (text ∷ texts) (line ∷ lines) = IsLine last text line × AreLines line.line texts lines

-- a file has the units that its lines are, one or more
abbrev pub IsFile : List ℕ → List tree.SourceUnit → Type 0
IsFile file units = (lines : List NumLine) × AreLines 0 (logical_lines file) lines × AreUnits units (map line_tree lines) × ((units ≡ []) → ⊥)

-- ---- the first fault

-- a line with its number, where it has an item
abbrev pub with_item : (number : ℕ) → Option LineItem → Result NumLine SourceFault
with_item number None = Err (fault.BadLine number)
with_item number (Some item) = Ok (record { line = number; item = item })

-- a line whose number is greater than the one before it
abbrev pub in_order : (last : ℕ) → Option (ℕ × List ℕ) → (count : ℕ) → Result NumLine SourceFault
in_order last None count = Err (fault.Unnumbered count)
in_order last (Some found) count = if nat_lt last found.0 then with_item found.0 (item_of found.1) else Err (fault.OutOfOrder found.0)

-- the logical line of a count: too long, without a number, out of order, without an item, or a line
abbrev pub line_of : (count last : ℕ) → List ℕ → Result NumLine SourceFault
line_of count last text = if nat_le (length text) LINE_BYTES then in_order last (numbered text) count else Err (fault.TooLong count)

abbrev pub behind_line : Result NumLine SourceFault → (NumLine → Result (List NumLine) SourceFault) → Result (List NumLine) SourceFault
behind_line (Err f) go = Err f
behind_line (Ok line) go = go line

abbrev pub onto : NumLine → Result (List NumLine) SourceFault → Result (List NumLine) SourceFault
onto line (Err f) = Err f
onto line (Ok lines) = Ok (line ∷ lines)

-- the lines of a file, or the first fault of a line, counted from 1
unfoldable pub lines_of : (count last : ℕ) → List (List ℕ) → Result (List NumLine) SourceFault
lines_of count last [] = Ok []
lines_of count last (text ∷ texts) = behind_line (line_of count last text) (λ line. onto line (lines_of (suc count) line.line texts))

-- the units that were read, or NoUnit if there are none
abbrev pub some_units : List tree.SourceUnit → Result (List tree.SourceUnit) SourceFault
some_units [] = Err fault.NoUnit
some_units (unit ∷ units) = Ok (unit ∷ units)

-- Unclosed, if something is open at the end; otherwise the units
abbrev pub closed : List tree.SourceUnit → Option ℕ → Result (List tree.SourceUnit) SourceFault
closed units None = some_units units
closed units (Some number) = Err (fault.Unclosed number)

-- the units, or the first line that fits no block
abbrev pub nested : Result Reading ℕ → Result (List tree.SourceUnit) SourceFault
nested (Err number) = Err (fault.BadNest number)
nested (Ok r) = closed r.units (unclosed r.opened)

abbrev pub units_of_lines : Result (List NumLine) SourceFault → Result (List tree.SourceUnit) SourceFault
units_of_lines (Err f) = Err f
units_of_lines (Ok lines) = nested (read nothing_read (map line_tree lines))

-- the units of a file, or its first fault: first those of lines, then those of the nesting
abbrev pub units_of : List ℕ → Result (List tree.SourceUnit) SourceFault
units_of file = units_of_lines (lines_of 1 0 (logical_lines file))

-- ---- plain trees of what is answered

abbrev pub plain_reading : Result declared.Reading ℕ → Result Reading ℕ
plain_reading (Ok r) = Ok (reading_tree r)
plain_reading (Err number) = Err number

abbrev pub plain_units : Result (List SourceUnit) SourceFault → Result (List tree.SourceUnit) SourceFault
plain_units (Ok units) = Ok (map unit_tree units)
plain_units (Err f) = Err f

-- the lines of a file behind those that are there
abbrev pub onto_all : List NumLine → Result (List NumLine) SourceFault → Result (List NumLine) SourceFault
onto_all front (Err f) = Err f
onto_all front (Ok lines) = Ok (front ++ lines)

-- ---- what joins the two

-- the units that are answered for a file are those that it has
abbrev pub FilesAreRead : Type 0
FilesAreRead = (file : List ℕ) (units : List tree.SourceUnit) → units_of file ≡ Ok units → IsFile file units

abbrev pub AllFilesAreRead : Type 0
AllFilesAreRead = (file : List ℕ) (units : List tree.SourceUnit) → IsFile file units → units_of file ≡ Ok units

-- a file has one list of units at most
abbrev pub OneList : Type 0
OneList = (file : List ℕ) (a b : List tree.SourceUnit) → IsFile file a → IsFile file b → a ≡ b

-- ---- the line at which a file is refused

-- lines after which no file has units, whatever lines follow them
abbrev pub EndsAllFiles : List NumLine → Type 0
EndsAllFiles front = (file : List ℕ) (behind : List NumLine) (units : List tree.SourceUnit) → AreLines 0 (logical_lines file) (front ++ behind) → IsFile file units → ⊥

-- lines that others can follow so that all are units
abbrev pub CanGoOn : List NumLine → Type 0
CanGoOn front = (behind : List tree.NumLine) × (units : List tree.SourceUnit) × AreUnits units (map line_tree front ++ behind)

-- the line of a `BadNest` is the first of its file after which no file has units
abbrev pub BadNestEndsAll : Type 0
BadNestEndsAll = (file : List ℕ) (number : ℕ) → units_of file ≡ Err (fault.BadNest number) →
    (before : List NumLine) × (line : NumLine) × (behind : List NumLine) × AreLines 0 (logical_lines file) (before ++ line ∷ behind)
    × (line.line ≡ number) × EndsAllFiles (before ++ line ∷ []) × CanGoOn before
