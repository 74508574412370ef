-- What a refusal tells.
use Rattle.std.specs.Prelude.{Option, Some, None}
use Rattle.bas_rules.specs.Well as rule
use Rattle.bas_check.specs.declared.checked.CheckFault.{CheckFault}
use Rattle.bas_check.specs.declared.checked.CheckFault.TheVariants.{Rule, Memory}

-- the fault that it tells; want of memory tells none
abbrev pub fault_in : CheckFault → Option rule.Fault
fault_in (Rule line rule) = Some (record { line = line; rule = rule })
fault_in Memory = None
