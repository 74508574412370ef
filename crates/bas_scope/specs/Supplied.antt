-- The supplied functions, with the arguments that each takes.
use Rattle.std.specs.Prelude.{ℕ, Bool, List, [], ◌∷◌, Option, codes}
use Rattle.std.specs.Option.{is_some}
use Rattle.std.specs.Map.{lookup}
use Rattle.std.specs.Str.{bytes_eq}
use Rattle.bas_scope.specs.declared.supplied.Forms.{Forms as Told}
use Rattle.bas_scope.specs.declared.supplied.Forms.TheVariants as told

-- what an argument is
pub data Parameter : Type 0 where
  Number : Parameter
  Text : Parameter
  Array : Parameter

-- the lists of arguments that a supplied function may take, one for each of its forms
abbrev pub Forms : Type 0
Forms = List (List Parameter)

-- no argument
abbrev pub nothing : Forms
nothing = [] ∷ []

-- one number
abbrev pub number : Forms
number = (Number ∷ []) ∷ []

-- two numbers
abbrev pub numbers : Forms
numbers = (Number ∷ Number ∷ []) ∷ []

-- one string
abbrev pub text : Forms
text = (Text ∷ []) ∷ []

-- the number of the dimension may be left out where the array has one
abbrev pub bound : Forms
bound = (Array ∷ []) ∷ (Array ∷ Number ∷ []) ∷ []

-- a string, a string and perhaps the place from which it is looked for
abbrev pub position : Forms
position = (Text ∷ Text ∷ []) ∷ (Text ∷ Text ∷ Number ∷ []) ∷ []

-- a string and how often
abbrev pub repetition : Forms
repetition = (Text ∷ Number ∷ []) ∷ []

-- the forms that an answer names
abbrev pub forms_told : Told → Forms
forms_told told.Nothing = nothing
forms_told told.Number = number
forms_told told.Numbers = numbers
forms_told told.Text = text
forms_told told.Bound = bound
forms_told told.Position = position
forms_told told.Repetition = repetition

-- each supplied function with its forms
abbrev pub supplied : List (List ℕ × Forms)
supplied =
    (codes "ABS", number) ∷ (codes "SGN", number) ∷ (codes "INT", number) ∷ (codes "IP", number) ∷ (codes "FP", number)
    ∷ (codes "CEIL", number) ∷ (codes "MOD", numbers) ∷ (codes "REMAINDER", numbers) ∷ (codes "ROUND", numbers)
    ∷ (codes "TRUNCATE", numbers) ∷ (codes "SQR", number) ∷ (codes "MAX", numbers) ∷ (codes "MIN", numbers)
    ∷ (codes "MAXNUM", nothing) ∷ (codes "RND", nothing) ∷ (codes "EXTYPE", nothing) ∷ (codes "EXLINE", nothing)
    ∷ (codes "LBOUND", bound) ∷ (codes "UBOUND", bound) ∷ (codes "LEN", text) ∷ (codes "ORD", text) ∷ (codes "CHR$", number)
    ∷ (codes "POS", position) ∷ (codes "STR$", number) ∷ (codes "VAL", text)
    ∷ (codes "UCASE$", text) ∷ (codes "LCASE$", text) ∷ (codes "LTRIM$", text) ∷ (codes "RTRIM$", text)
    ∷ (codes "REPEAT$", repetition) ∷ []

-- the forms of the supplied function of a name
abbrev pub forms_of : List ℕ → Option Forms
forms_of name = lookup (bytes_eq name) supplied

-- a name is that of a supplied function
abbrev pub is_supplied : List ℕ → Bool
is_supplied name = is_some (forms_of name)
