-- Which source files are accepted, and why another one is refused.
use Rattle.std.specs.Prelude.{◌≡◌, ℕ, Bool, true, List, [], ◌∷◌, Option, Some, None, Result, Ok, Err}
use Rattle.std.specs.Option.{is_none, option_or}
use Rattle.std.specs.List.{list_all}
use Rattle.bas_ast.specs.Tree.{Program, SourceUnit}
use Rattle.bas_mean.specs.Built.{are_built}
use Rattle.bas_mean.specs.Meaning.{first_program}
use Rattle.bas_carry.specs.Tables.{Sound}
use Rattle.bas_rules.specs.Well.{Fault, first_fault}
use Rattle.bas_block.specs.Files.{IsFile, units_of}
use Rattle.bas_block.specs.declared.file.SourceFault.{SourceFault}
use Rattle.bas_block.specs.declared.file.SourceFault.TheVariants.{BadLine}
use Rattle.bas_unbuilt.specs.Unbuilt.{unbuilt_line}
use Rattle.bas_accept.specs.declared.acceptance.Refusal.{Refusal}
use Rattle.bas_accept.specs.declared.acceptance.Refusal.TheVariants.{Source, Rule}

-- ---- which files are accepted

-- a unit keeps all rules where none is broken at any of its lines
abbrev pub keeps_rules : SourceUnit → Bool
keeps_rules unit = is_none (first_fault unit)

-- the same for every unit
abbrev pub keep_rules : List SourceUnit → Bool
keep_rules units = list_all keeps_rules units

-- a file has these units, their constructs are built, and they keep all rules
pub record IsAccepted (file : List ℕ) (units : List SourceUnit) : Type 0 where
  pub is_file : IsFile file units
  pub built : are_built units ≡ true
  pub rules : keep_rules units ≡ true

-- ---- the first refusal

-- the first line of units in order at which a rule is broken, and the least such rule
abbrev pub fault_in_units : List SourceUnit → Option Fault
fault_in_units [] = None
fault_in_units (unit ∷ units) = option_or (first_fault unit) (fault_in_units units)

-- a rule that is broken, and its line
abbrev pub unless_fault : List SourceUnit → Option Fault → Result (List SourceUnit) Refusal
unless_fault units None = Ok units
unless_fault units (Some fault) = Err (Rule fault.rule fault.line)

-- a construct that is not built, and then the rules
abbrev pub unless_unbuilt : List SourceUnit → Option ℕ → Result (List SourceUnit) Refusal
unless_unbuilt units (Some line) = Err (Source (BadLine line))
unless_unbuilt units None = unless_fault units (fault_in_units units)

-- the units that a file has, where nothing in them is refused
abbrev pub accepted_units : Result (List SourceUnit) SourceFault → Result (List SourceUnit) Refusal
accepted_units (Err fault) = Err (Source fault)
accepted_units (Ok units) = unless_unbuilt units (unbuilt_line units)

-- the units of a file, or the first refusal: by its lines and their nesting, then by what is not built,
-- then by the rules of a unit
abbrev pub accepted_of : List ℕ → Result (List SourceUnit) Refusal
accepted_of file = accepted_units (units_of file)

-- units, where there is no refusal
abbrev pub unless_refused : List SourceUnit → Option Refusal → Result (List SourceUnit) Refusal
unless_refused units None = Ok units
unless_refused units (Some refusal) = Err refusal

-- ---- what joins them

-- there is a program, and it is sound
pub record HasSoundProgram (units : List SourceUnit) : Type 0 where
  pub program : Program
  pub is_first : first_program units ≡ Some program
  pub sound : Sound program

-- what is accepted is what the relation gives, both ways
pub record TellsAccepted : Type 0 where
  pub found : (file : List ℕ) (units : List SourceUnit) → accepted_of file ≡ Ok units → IsAccepted file units
  pub whole : (file : List ℕ) (units : List SourceUnit) → IsAccepted file units → accepted_of file ≡ Ok units

-- the first program of an accepted file is sound
abbrev pub AcceptedIsSound : Type 0
AcceptedIsSound = (file : List ℕ) (units : List SourceUnit) → IsAccepted file units → HasSoundProgram units
