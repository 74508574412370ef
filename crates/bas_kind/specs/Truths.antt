-- Kinds as the code has them: whether a value is a number.
use Rattle.std.specs.Prelude.{Bool, true, false}
use Rattle.bas_rules.specs.Kinds.{Kind, Numeric, String}

-- the kind of a value that is a number, or of one that is none
abbrev pub kind_of : (numeric : Bool) → Kind
kind_of true = Numeric
kind_of false = String
