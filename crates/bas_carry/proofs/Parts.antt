-- The variables of two parts, one behind the other.
use Rattle.std.proofs.Common.{◌≡◌, List, [], ◌∷◌, ◌++◌, refl}
use Rattle.bas_mean.specs.World.{Variable}
use Rattle.bas_carry.specs.Slots.{index_of, with_variable, with_variables}

pub variables_in_parts : (xs ys order : List Variable) → with_variables order (xs ++ ys) ≡ with_variables (with_variables order xs) ys
unfolding with_variables
variables_in_parts [] ys order = refl
variables_in_parts (x ∷ xs) ys order = variables_in_parts xs ys (with_variable (index_of order x) order x)

pub one_variable : (x : Variable) (order : List Variable) → with_variables order (x ∷ []) ≡ with_variable (index_of order x) order x
unfolding with_variables
one_variable x order = refl

pub no_variable : (order : List Variable) → with_variables order [] ≡ order
unfolding with_variables
no_variable order = refl

pub ruleset parts = (variables_in_parts, one_variable, no_variable)
