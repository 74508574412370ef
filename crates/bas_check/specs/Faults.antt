-- Faults of a unit, as they are told.
use Rattle.std.specs.Prelude.{◌≡◌, ℕ, List, Option}
use Rattle.std.specs.Option.{option_map}
use Rattle.bas_rules.specs.Sites.{Site}
use Rattle.bas_rules.specs.Well as rule
use Rattle.bas_check.specs.declared.fault.Fault.{Fault}

-- the fault that is told
abbrev pub fault_told : Fault → rule.Fault
fault_told found = record { line = found.line; rule = found.rule }

-- the fault of a line, where a rule is broken there
abbrev pub broken_at : ℕ → Option ℕ → Option rule.Fault
broken_at line broken = option_map (λ r. record { line = line; rule = r }) broken

-- what is found is the first fault of lines in order, each with its places
abbrev pub Finds : Option Fault → List (List Site) → Type 0
Finds found lines = option_map fault_told found ≡ rule.fault_among lines
