-- What the rules see of a name: the shape of a variable, the formals of a procedure, or a supplied function.
use Rattle.std.specs.Prelude.{ℕ, Bool, if◌then◌else◌, List, map, Option, Some, None}
use Rattle.std.specs.Option.{option_map, option_or, is_some, unwrap_or}
use Rattle.bas_dec.specs.declared.types.NumType.{NumType}
use Rattle.bas_dec.specs.declared.types.NumType.TheVariants as type
use Rattle.bas_face.specs.declared.shape.Shape.{Shape}
use Rattle.bas_face.specs.declared.shape.Shape.TheVariants as shape
use Rattle.bas_scope.specs.declared.written.WrittenType.{WrittenType}
use Rattle.bas_scope.specs.declared.written.WrittenType.TheVariants as written_type
use Rattle.bas_scope.specs.declared.written.WrittenShape.{WrittenShape}
use Rattle.bas_scope.specs.declared.written.WrittenShape.TheVariants as written
use Rattle.bas_scope.specs.declared.sense.Sense.{Sense as Told}
use Rattle.bas_scope.specs.declared.sense.Sense.TheVariants as told
use Rattle.bas_scope.specs.Shapes.{is_text_name}
use Rattle.bas_scope.specs.Supplied.{Forms, forms_of, forms_told}
use Rattle.bas_scope.specs.Scope.{Meaning, Variable, SubOf, FunctionOf, Supplied, Scope, entry_of, stands_for, called_by}

-- what the rules see of what a name stands for: not where it belongs, nor the bounds of an array. `set_here`:
-- the value of the function may be set
pub data Sense : Type 0 where
  Shaped : (shape : Shape) → Sense
  SubWith : (formals : Option (List Shape)) → Sense
  FunctionWith : (formals : Option (List Shape)) (set_here : Bool) → Sense
  SuppliedWith : (forms : Forms) → Sense

-- what the rules see of a meaning
abbrev pub sense : Meaning → Sense
sense (Variable home cell) = Shaped cell.shape
sense (SubOf home formals) = SubWith formals
sense (FunctionOf home formals value) = FunctionWith formals (is_some value)
sense (Supplied forms) = SuppliedWith forms

-- what the names of a body are, as operands or targets, and by CALL
pub record Senses : Type 0 where
  pub named : List ℕ → Sense
  pub called : List ℕ → Sense

-- what the rules see of the names of a body
abbrev pub senses_of : Scope → Senses
senses_of s = record { named = λ name. sense (stands_for s name); called = λ name. sense (called_by s name) }

-- what is looked up to find it: the names of the body, the procedures of the module, and the type of the
-- numbers that nothing declares
pub record Lookup : Type 0 where
  pub names : List ℕ → Option Sense
  pub procedures : List ℕ → Option Sense
  pub numbers : NumType

-- what there is to look up in a scope
abbrev pub lookup_of : Scope → Lookup
lookup_of s = record {
  names = λ name. option_map sense (entry_of name s.names);
  procedures = λ name. option_map sense (entry_of name s.outer.procedures);
  numbers = s.outer.options.numbers;
}

-- what a name is, where it is a function
abbrev pub function_sense : Option Sense → Option Sense
function_sense (Some (FunctionWith formals set_here)) = Some (FunctionWith formals set_here)
function_sense _ = None

-- what a name is, where it is a procedure; else another
abbrev pub procedure_sense : Option Sense → Sense → Sense
procedure_sense (Some (SubWith formals)) other = SubWith formals
procedure_sense (Some (FunctionWith formals set_here)) other = FunctionWith formals set_here
procedure_sense _ other = other

-- the scalar of a name that nothing declares
abbrev pub undeclared_shape : NumType → List ℕ → Shape
undeclared_shape numbers name = if is_text_name name then shape.Str 65535 else shape.Num numbers

-- a name as an operand or a target
abbrev pub named_by : Lookup → List ℕ → Sense
named_by found name =
    unwrap_or (option_or (option_map SuppliedWith (forms_of name)) (option_or (found.names name) (function_sense (found.procedures name))))
    (Shaped (undeclared_shape found.numbers name))

-- a name by CALL
abbrev pub called_in : Lookup → List ℕ → Sense
called_in found name = procedure_sense (found.names name) (unwrap_or (found.procedures name) (SubWith None))

-- all names
abbrev pub senses_by : Lookup → Senses
senses_by found = record { named = named_by found; called = called_in found }

-- the type that a program writes
abbrev pub type_written : WrittenType → NumType
type_written written_type.General = type.General
type_written (written_type.Fixed m n) = type.Fix (record { whole = m; places = n })

-- the shape that a program writes
abbrev pub shape_written : WrittenShape → Shape
shape_written written.NumValue = shape.NumValue
shape_written written.StrValue = shape.StrValue
shape_written (written.Num t) = shape.Num (type_written t)
shape_written (written.Str length) = shape.Str length
shape_written (written.NumArray t dimensions) = shape.NumArray (type_written t) dimensions
shape_written (written.StrArray length dimensions) = shape.StrArray length dimensions
shape_written written.Channel = shape.Channel

-- what an answer says of a name
abbrev pub sense_told : Told → Sense
sense_told (told.Variable shape) = Shaped (shape_written shape)
sense_told (told.Sub formals) = SubWith (option_map (λ f. map shape_written f.now) formals)
sense_told (told.Function formals set_here) = FunctionWith (option_map (λ f. map shape_written f.now) formals) set_here
sense_told (told.Supplied forms) = SuppliedWith (forms_told forms)
