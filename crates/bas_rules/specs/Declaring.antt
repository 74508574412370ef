-- The rules on declarations: types, bounds, options, and what a module declares.
use Rattle.std.specs.Prelude.{ℕ, zero, ◌+◌, ◌*◌, ℤ, pos, neg_ℤ, ◌-ℤ◌, ◌+ℤ◌, unsigned_abs, Bool, true, false, not, ◌&&◌, ◌||◌, nat_lt, nat_le, if◌then◌else◌, List, [], ◌∷◌, length, map, Option, Some, None}
use Rattle.std.specs.Option.{option_map_or, unwrap_or, is_some}
use Rattle.std.specs.Int.Signed.{le_z}
use Rattle.std.specs.List.{list_any, list_all, filter}
use Rattle.bas_dec.specs.declared.TheConstants.{PLACES}
use Rattle.bas_text.specs.declared.byte_string.TheConstants.{MAX_STRING_LEN}
use Rattle.bas_ast.specs.Tree as t
use Rattle.bas_rules.specs.declared.limits.TheConstants.{FARTHEST_BOUND, MOST_ELEMENTS, MOST_DIMENSIONS}
use Rattle.bas_scope.specs.Lines.{unit_lines}
use Rattle.bas_scope.specs.Shapes.{is_text_name, bounds_of}
use Rattle.bas_scope.specs.Scope.{formals_on, entry_of}
use Rattle.bas_rules.specs.declared.options.OptionKind.{OptionKind}
use Rattle.bas_rules.specs.declared.options.OptionKind.TheVariants as option
use Rattle.bas_rules.specs.Sites.{Site}
use Rattle.bas_rules.specs.Jumping.{is_initial}

-- what a line declares as variables
abbrev pub items_on : t.LineItem → List t.DeclaredItem
items_on (t.OfDecl (t.Dim items)) = items
items_on (t.OfDecl (t.Declare kind items)) = items
items_on (t.OfDecl (t.Public kind items)) = items
items_on (t.OfDecl (t.Share kind items)) = items
items_on (t.OfDecl (t.DeclarePublic kind items)) = items
items_on _ = []

-- the kind that a line gives to what it declares
abbrev pub declared_kind : t.LineItem → Option t.DeclaredKind
declared_kind (t.OfDecl (t.Declare kind items)) = Some kind
declared_kind (t.OfDecl (t.Public kind items)) = Some kind
declared_kind (t.OfDecl (t.Share kind items)) = Some kind
declared_kind (t.OfDecl (t.DeclarePublic kind items)) = Some kind
declared_kind _ = None

-- a name that is declared as what its last byte does not say
abbrev pub has_other_kind : t.DeclaredKind → t.DeclaredItem → Bool
has_other_kind t.NumericKind item = is_text_name item.name
has_other_kind t.StringKind item = not (is_text_name item.name)

-- of rule 3: a name is declared with the other kind
abbrev pub declares_other_kind : t.LineItem → Bool
declares_other_kind item = option_map_or (λ kind. list_any (has_other_kind kind) (items_on item)) (declared_kind item) false

-- `*m.n` has 1 to 38 digits, and no more places than a number has
abbrev pub are_digits : (m n : ℕ) → Bool
are_digits m n = nat_le 1 (m + n) && (nat_le (m + n) 38 && nat_le n PLACES)

-- a numeric type within its bounds; n is 0 where it is not written
abbrev pub is_number_type : t.TypeSpec → Bool
is_number_type spec = are_digits spec.whole (unwrap_or spec.fraction 0)

-- a string's type is a length of 1 to 65,535
abbrev pub is_text_type : t.TypeSpec → Bool
is_text_type spec = nat_le 1 spec.whole && (nat_le spec.whole MAX_STRING_LEN && not (is_some spec.fraction))

-- a type within the bounds for the kind of a name
abbrev pub is_type_of : List ℕ → t.TypeSpec → Bool
is_type_of name spec = if is_text_name name then is_text_type spec else is_number_type spec

-- a declared variable whose type is out of bounds
abbrev pub has_bad_type : t.DeclaredItem → Bool
has_bad_type item = option_map_or (λ spec. not (is_type_of item.name spec)) item.spec false

-- OPTION ARITHMETIC with a type out of bounds
abbrev pub has_bad_option : t.LineItem → Bool
has_bad_option (t.OfDecl (t.OptionArithmeticFixed spec)) = not (is_number_type spec)
has_bad_option _ = false

-- 13: a type is out of its bounds
abbrev pub has_type_out_of_bounds : Site → Bool
has_type_out_of_bounds x = has_bad_option x.item || list_any has_bad_type (items_on x.item)

-- bounds that do not fall and are not too far from 0
abbrev pub is_range : ℤ × ℤ → Bool
is_range b =
    le_z b.0 b.1 && (le_z (neg_ℤ FARTHEST_BOUND) b.0 && le_z b.1 FARTHEST_BOUND)

-- how many elements a dimension has between its bounds
abbrev pub extent : ℤ × ℤ → ℕ
extent b = unsigned_abs (b.1 -ℤ b.0 +ℤ pos 1)

-- how many elements there are between the bounds
abbrev pub elements : List (ℤ × ℤ) → ℕ
elements [] = 1
elements (b ∷ bs) = extent b * elements bs

-- bounds in range, with so many elements at most
abbrev pub are_within : (most : ℕ) → List (ℤ × ℤ) → Bool
are_within most bounds = list_all is_range bounds && nat_le (elements bounds) most

-- bounds that an array may have
abbrev pub are_bounds : List (ℤ × ℤ) → Bool
are_bounds bounds = nat_le (length bounds) MOST_DIMENSIONS && are_within MOST_ELEMENTS bounds

-- a declared variable whose bounds are out of range
abbrev pub has_bad_bounds : (base : ℤ) → t.DeclaredItem → Bool
has_bad_bounds base item = not (are_bounds (map (bounds_of base) item.bounds))

-- a formal array of too many dimensions
abbrev pub has_many_dimensions : t.Formal → Bool
has_many_dimensions (t.FormalName name dimensions) = nat_lt MOST_DIMENSIONS dimensions
has_many_dimensions (t.FormalChan number) = false

-- 14: bounds are the wrong way round or too far from 0, or an array has too many elements or dimensions
abbrev pub has_bounds_out_of_range : Site → Bool
has_bounds_out_of_range x =
    list_any (has_bad_bounds x.body.scope.outer.options.base) (items_on x.item) || list_any has_many_dimensions (formals_on x.item)

-- the kind of an OPTION line
abbrev pub option_on : t.LineItem → Option OptionKind
option_on (t.OfDecl t.OptionBaseZero) = Some option.Base
option_on (t.OfDecl t.OptionBaseOne) = Some option.Base
option_on (t.OfDecl t.OptionArithmeticDecimal) = Some option.Arithmetic
option_on (t.OfDecl (t.OptionArithmeticFixed spec)) = Some option.Arithmetic
option_on _ = None

-- an option of that kind
abbrev pub same_option : OptionKind → Option OptionKind → Bool
same_option option.Base (Some option.Base) = true
same_option option.Arithmetic (Some option.Arithmetic) = true
same_option _ _ = false

-- an OPTION may follow no line that is none, and none of its own kind
abbrev pub may_not_follow : OptionKind → t.NumLine → Bool
may_not_follow kind line = not (is_some (option_on line.item)) || same_option kind (option_on line.item)

-- an OPTION with lines before it that it may not follow; the first of its unit may be any but one of its kind
abbrev pub comes_late : OptionKind → (before : List t.NumLine) → Bool
comes_late kind [] = false
comes_late kind (line ∷ lines) = same_option kind (option_on line.item) || list_any (may_not_follow kind) lines

-- the same for what stands on a line of that number in a unit of these lines
abbrev pub is_late_option : List t.NumLine → ℕ → t.LineItem → Bool
is_late_option lines l item = option_map_or (λ kind. comes_late kind (filter (λ line. nat_lt line.line l) lines)) (option_on item) false

-- 15: OPTION stands after other lines, or a second time
abbrev pub has_late_option : Site → Bool
has_late_option x = is_late_option (unit_lines x.unit) x.line x.item

-- a declaration that stands in modules alone
abbrev pub is_of_module : t.LineItem → Bool
is_of_module (t.OfDecl (t.Public kind items)) = true
is_of_module (t.OfDecl (t.Share kind items)) = true
is_of_module (t.OfDecl (t.Private names)) = true
is_of_module _ = false

-- the names on a PRIVATE line
abbrev pub private_names : t.LineItem → List (List ℕ)
private_names (t.OfDecl (t.Private names)) = names
private_names _ = []

-- 18: PUBLIC, SHARE or PRIVATE stands in no module or after its procedures, or PRIVATE names none of them
abbrev pub is_out_of_module : Site → Bool
is_out_of_module x =
    is_of_module x.item && not (is_initial x.body.kind)
    || list_any (λ name. not (is_some (entry_of name x.body.scope.outer.procedures))) (private_names x.item)

-- a formal that is a scalar
abbrev pub is_scalar : t.Formal → Bool
is_scalar (t.FormalName name zero) = true
is_scalar _ = false

-- the formals on a PROGRAM line
abbrev pub program_formals : t.LineItem → List t.Formal
program_formals (t.OfPart (t.ProgramLine name formals)) = formals
program_formals _ = []

-- 24: a formal of a program is no scalar
abbrev pub has_program_formal : Site → Bool
has_program_formal x = list_any (λ formal. not (is_scalar formal)) (program_formals x.item)
