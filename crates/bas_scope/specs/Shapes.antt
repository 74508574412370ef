-- The types, shapes and cells of variables.
use Rattle.std.specs.Prelude.{ℕ, zero, suc, ℤ, pos, Bool, if◌then◌else◌, List, [], ◌∷◌, ◌++◌, length, take, map, Option, Some, None, nat_eq}
use Rattle.std.specs.Option.{option_map_or, option_or, unwrap_or}
use Rattle.std.specs.List.{ends_with}
use Rattle.bas_dec.specs.declared.types.NumType.{NumType}
use Rattle.bas_dec.specs.declared.types.NumType.TheVariants.{General, Fix}
use Rattle.bas_text.specs.declared.byte_string.TheConstants.{MAX_STRING_LEN}
use Rattle.bas_face.specs.declared.shape.Shape.{Shape}
use Rattle.bas_face.specs.declared.shape.Shape.TheVariants as shape
use Rattle.bas_face.specs.declared.shape.Cell.{Cell}
use Rattle.bas_ast.specs.Tree.{TypeSpec, Bound, DeclaredItem, OptionBaseZero, OptionBaseOne, OptionArithmeticDecimal, OptionArithmeticFixed, LineItem, OfDecl, NumLine}

-- the first of what the lines give
abbrev pub first_given : {X : Type 0} → (LineItem → Option X) → List NumLine → Option X
first_given given [] = None
first_given given (line ∷ lines) = option_or (given line.item) (first_given given lines)

-- the type `*m.n`; n is 0 where it is not written
abbrev pub fixed : TypeSpec → NumType
fixed spec = Fix (record { whole = spec.whole; places = unwrap_or spec.fraction 0 })

-- what the OPTION lines of a unit set: the lower bound of arrays, and the type of numbers that are not declared
pub record Options : Type 0 where
  pub base : ℤ
  pub numbers : NumType

-- the lower bound that an OPTION line sets
abbrev pub base_on : LineItem → Option ℤ
base_on (OfDecl OptionBaseZero) = Some (pos 0)
base_on (OfDecl OptionBaseOne) = Some (pos 1)
base_on _ = None

-- the type that an OPTION line sets
abbrev pub numbers_on : LineItem → Option NumType
numbers_on (OfDecl OptionArithmeticDecimal) = Some General
numbers_on (OfDecl (OptionArithmeticFixed spec)) = Some (fixed spec)
numbers_on _ = None

-- the options of a unit, from its lines; 1 and general where none is written
abbrev pub options_of : List NumLine → Options
options_of lines = record { base = unwrap_or (first_given base_on lines) (pos 1); numbers = unwrap_or (first_given numbers_on lines) General }

-- a name that ends with `$` is that of a string
abbrev pub is_text_name : List ℕ → Bool
is_text_name name = ends_with nat_eq name (36 ∷ [])

-- the type of a number: that of its declaration, where there is one
abbrev pub number_type : Options → (declared : Option DeclaredItem) → NumType
number_type options None = options.numbers
number_type options (Some item) = option_map_or fixed item.spec General

-- the most bytes of a string, likewise
abbrev pub text_length : (declared : Option DeclaredItem) → ℕ
text_length None = MAX_STRING_LEN
text_length (Some item) = option_map_or (λ spec. spec.whole) item.spec MAX_STRING_LEN

-- a number, or an array of numbers where there are dimensions
abbrev pub number_shape : NumType → (dimensions : ℕ) → Shape
number_shape type zero = shape.Num type
number_shape type (suc n) = shape.NumArray type (suc n)

-- a string, or an array of strings
abbrev pub text_shape : (length dimensions : ℕ) → Shape
text_shape length zero = shape.Str length
text_shape length (suc n) = shape.StrArray length (suc n)

-- the shape of the variable of a name, by its declaration and its dimensions
abbrev pub shape_of : Options → (name : List ℕ) → (declared : Option DeclaredItem) → (dimensions : ℕ) → Shape
shape_of options name declared dimensions =
    if is_text_name name then text_shape (text_length declared) dimensions
    else number_shape (number_type options declared) dimensions

-- three pairs of bounds; those past the dimensions are 0
abbrev pub three : List (ℤ × ℤ) → List (ℤ × ℤ)
three bounds = take 3 (bounds ++ ((pos 0, pos 0) ∷ (pos 0, pos 0) ∷ (pos 0, pos 0) ∷ []))

-- the cell of a variable that has no bounds of its own
abbrev pub unbounded : Shape → Cell
unbounded shape = record { shape = shape; bounds = three [] }

-- the scalar of a name that is not declared
abbrev pub undeclared : Options → (name : List ℕ) → Cell
undeclared options name = unbounded (shape_of options name None 0)

-- the bounds of a dimension; the lower one is that of OPTION BASE where it is not written
abbrev pub bounds_of : (base : ℤ) → Bound → ℤ × ℤ
bounds_of base bound = (unwrap_or bound.low base, bound.high)

-- the cell of a declared variable
abbrev pub declared_cell : Options → DeclaredItem → Cell
declared_cell options item = record {
  shape = shape_of options item.name (Some item) (length item.bounds);
  bounds = three (map (bounds_of options.base) item.bounds);
}
