-- Names in the order of their numbers.
use Rattle.std.specs.Prelude.{◌≡◌, ℕ, List, length, map, Result, Ok, Err}
use Rattle.bas_mean.specs.World.{Variable, OfName}
use Rattle.bas_carry.specs.Slots.{with_variables}
use Rattle.bas_genexpr.specs.declared.fault.GenFault.{GenFault}
use Rattle.bas_genexpr.specs.Refusals.{IsRefusal}

-- the variables of these names
abbrev pub variables : List (List ℕ) → List Variable
variables names = map OfName names

-- how many slots a body may have
abbrev pub slot_limit : ℕ
slot_limit = 4096

-- the variables that a part of the text has were numbered behind those before it, or they are too many
abbrev pub Numbers : {T : Type 0} → Result T GenFault → (old new : List (List ℕ)) → List Variable → Type 0
Numbers (Ok x) old new xs = variables new ≡ with_variables (variables old) xs
Numbers (Err fault) old new xs = IsRefusal fault (length (with_variables (variables old) xs)) slot_limit
