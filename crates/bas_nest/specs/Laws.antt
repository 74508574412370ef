-- The reading of lines joined to what lines are.
use Rattle.std.specs.Prelude.{◌≡◌, ℕ, List, [], ◌∷◌, ◌++◌, Option, Some, None, Result, Ok, Err}
use Rattle.bas_ast.specs.Tree.{NumLine, SourceUnit}
use Rattle.bas_nest.specs.Units.{AreUnits}
use Rattle.bas_nest.specs.Reading.{Reading, Outside, reading, nothing_read, read, line_read, unclosed}

-- lines that are read with nothing open at the end are the units that were read, and lines that are units
-- are read so
pub record ReadsUnits : Type 0 where
  pub sound : (units : List SourceUnit) (waiting lines : List NumLine) → read nothing_read lines ≡ Ok (reading units (Outside waiting)) → AreUnits units lines
  pub complete : (units : List SourceUnit) (lines : List NumLine) → AreUnits units lines → (waiting : List NumLine) × (read nothing_read lines ≡ Ok (reading units (Outside waiting)))

-- lines are one list of units at most
abbrev pub OneReading : Type 0
OneReading = (a b : List SourceUnit) (lines : List NumLine) → AreUnits a lines → AreUnits b lines → a ≡ b

-- if a line after lines that are read is refused, then no lines after it make them units
abbrev pub RefusedForEver : Type 0
RefusedForEver = (before behind : List NumLine) (line : NumLine) (r : Reading) (units : List SourceUnit) →
    read nothing_read before ≡ Ok r → line_read r line ≡ None → AreUnits units (before ++ line ∷ behind) → ⊥

-- lines that are read can be continued to units
abbrev pub CanBeClosed : Type 0
CanBeClosed = (lines : List NumLine) (r : Reading) → read nothing_read lines ≡ Ok r → (behind : List NumLine) × (units : List SourceUnit) × AreUnits units (lines ++ behind)

-- lines after which something is open are not units
abbrev pub NoneUnclosed : Type 0
NoneUnclosed = (lines : List NumLine) (r : Reading) (number : ℕ) (units : List SourceUnit) → read nothing_read lines ≡ Ok r → unclosed r.opened ≡ Some number → AreUnits units lines → ⊥

-- lines that go on to be units
abbrev pub CanGoOn : List NumLine → Type 0
CanGoOn lines = (behind : List NumLine) × (units : List SourceUnit) × AreUnits units (lines ++ behind)

-- the line that a reading refuses is the first with which the lines cannot go on to be units: those before it can
abbrev pub FirstRefused : Type 0
FirstRefused = (lines : List NumLine) (number : ℕ) → read nothing_read lines ≡ Err number →
    (before : List NumLine) × (line : NumLine) × (behind : List NumLine) × (lines ≡ before ++ line ∷ behind) × (line.line ≡ number)
    × CanGoOn before × (CanGoOn (before ++ line ∷ []) → ⊥)
