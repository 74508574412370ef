-- The rules on calls: arguments fit their formals, their counts are right, and lists are not too long.
use Rattle.std.specs.Prelude.{ℕ, Bool, true, false, not, ◌&&◌, ◌||◌, nat_eq, nat_lt, nat_le, if◌then◌else◌, List, [], ◌∷◌, length, map, Option, Some, None}
use Rattle.std.specs.Option.{option_map_or, is_some}
use Rattle.std.specs.List.{list_any, filter_map}
use Rattle.bas_ast.specs.Tree as t
use Rattle.bas_ast.specs.Accessors.{lone_primary}
use Rattle.bas_face.specs.declared.shape.Shape.{Shape}
use Rattle.bas_face.specs.declared.shape.Shape.TheVariants as shape
use Rattle.bas_face.specs.Fits.{fits}
use Rattle.bas_scope.specs.Nodes.{Node, OfPrimary, OfWhole, OfCall, item_nodes}
use Rattle.bas_scope.specs.Scope.{formals_on}
use Rattle.bas_scope.specs.Senses.{Sense, Shaped, SubWith, FunctionWith, SuppliedWith, Senses, senses_of}
use Rattle.bas_rules.specs.declared.limits.TheConstants.{LONGEST_LIST, LAST_CHANNEL}
use Rattle.bas_rules.specs.Sites.{Site}
use Rattle.bas_rules.specs.Kinds.{is_number, actuals_of, form_with}
use Rattle.bas_rules.specs.Statements.{plains_on, targets_of}
use Rattle.bas_rules.specs.Naming.{dimensions_in, is_whole_array}

-- a value of an expression's kind
abbrev pub value_of : t.Expr → Shape
value_of e = if is_number e then shape.NumValue else shape.StrValue

-- an element of an array
abbrev pub element_of : Shape → Shape
element_of (shape.NumArray type n) = shape.Num type
element_of (shape.StrArray length n) = shape.Str length
element_of other = other

-- a variable or an element by reference; anything else is a value
abbrev pub referred_with : t.Args → (value : Shape) → Sense → Shape
referred_with t.NoArgs value (Shaped shape) = shape
referred_with (t.MoreArgs actual rest) value (Shaped shape) = element_of shape
referred_with args value _ = value

-- what an operand refers to by itself, else a value
abbrev pub reference_or : Senses → (value : Shape) → Option t.Primary → Shape
reference_or s value (Some (t.Named name args)) = referred_with args value (s.named name)
reference_or s value _ = value

-- what CALL passes: variables, elements and arrays by reference
abbrev pub passed_by_call : Senses → t.Actual → Shape
passed_by_call s (t.Argument expr) = reference_or s (value_of expr) (lone_primary expr)
passed_by_call s (t.ChanArgument number) = shape.Channel

-- what a function is passed: arrays by reference, all else by value
abbrev pub passed_to_function : Senses → t.Actual → Shape
passed_to_function s (t.Argument expr) =
    if is_whole_array s (t.Argument expr) then reference_or s (value_of expr) (lone_primary expr) else value_of expr
passed_to_function s (t.ChanArgument number) = shape.Channel

-- as many arguments as formals, and each fits
abbrev pub all_fit : List Shape → List Shape → Bool
all_fit [] [] = true
all_fit (actual ∷ actuals) (formal ∷ formals) = fits actual formal && all_fit actuals formals
all_fit _ _ = false

-- the arguments do not fit formals that are known
abbrev pub misfits : (t.Actual → Shape) → List t.Actual → Option (List Shape) → Bool
misfits passed actuals formals = option_map_or (λ known. not (all_fit (map passed actuals) known)) formals false

-- arguments of a function of this unit that do not fit
abbrev pub misfits_function : Senses → List t.Actual → Sense → Bool
misfits_function s actuals (FunctionWith formals set_here) = misfits (passed_to_function s) actuals formals
misfits_function s actuals _ = false

-- arguments of a SUB of this unit that do not fit
abbrev pub misfits_sub : Senses → List t.Actual → Sense → Bool
misfits_sub s actuals (SubWith formals) = misfits (passed_by_call s) actuals formals
misfits_sub s actuals _ = false

-- a call of a procedure of this unit with arguments that do not fit
abbrev pub misfits_at : Senses → Node → Bool
misfits_at s (OfPrimary (t.Named name args)) = misfits_function s (actuals_of args) (s.named name)
misfits_at s (OfWhole (t.Named name args)) = misfits_function s (actuals_of args) (s.named name)
misfits_at s (OfCall name args) = misfits_sub s (actuals_of args) (s.called name)
misfits_at s _ = false

-- 11: a call of one of the unit's own procedures has another count of arguments, or one does not fit
abbrev pub misfits_a_formal : Site → Bool
misfits_a_formal x = list_any (misfits_at (senses_of x.body.scope)) (item_nodes x.item)

-- the number of the dimension is left out, though the array has several
abbrev pub is_of_several : Senses → Option t.Primary → Bool
is_of_several s (Some (t.Named name t.NoArgs)) = nat_lt 1 (dimensions_in (s.named name))
is_of_several s _ = false

-- one argument alone, an array of several dimensions
abbrev pub lacks_dimension : Senses → List t.Actual → Bool
lacks_dimension s (t.Argument expr ∷ []) = is_of_several s (lone_primary expr)
lacks_dimension s _ = false

-- no form of the supplied function has that count of arguments
abbrev pub miscounts : Senses → Sense → List t.Actual → Bool
miscounts s (SuppliedWith forms) actuals = not (is_some (form_with (length actuals) forms)) || lacks_dimension s actuals
miscounts s _ actuals = false

-- an operand that calls a supplied function with a wrong count
abbrev pub miscounts_at : Senses → Node → Bool
miscounts_at s (OfPrimary (t.Named name args)) = miscounts s (s.named name) (actuals_of args)
miscounts_at s (OfWhole (t.Named name args)) = miscounts s (s.named name) (actuals_of args)
miscounts_at s _ = false

-- 12: a supplied function has another count of arguments
abbrev pub miscounts_supplied : Site → Bool
miscounts_supplied x = list_any (miscounts_at (senses_of x.body.scope)) (item_nodes x.item)

-- a list has more entries than it may
abbrev pub is_too_long : {X : Type 0} → List X → Bool
is_too_long xs = nat_lt LONGEST_LIST (length xs)

-- a call or an element with too many arguments
abbrev pub has_too_many_args : Node → Bool
has_too_many_args (OfPrimary (t.Named name args)) = is_too_long (actuals_of args)
has_too_many_args (OfCall name args) = is_too_long (actuals_of args)
has_too_many_args _ = false

-- the values that a statement writes or hands over
abbrev pub written_by : t.Plain → List t.Expr
written_by (t.Write chan setter miss values) = values
written_by (t.Rewrite chan setter miss values) = values
written_by (t.Chain program values) = values
written_by _ = []

-- a statement with a list that is too long
abbrev pub has_too_long_list : t.Plain → Bool
has_too_long_list plain = is_too_long (targets_of plain) || is_too_long (written_by plain)

-- the number of a formal channel
abbrev pub channel_of : t.Formal → Option ℕ
channel_of (t.FormalName name dimensions) = None
channel_of (t.FormalChan number) = Some number

-- formal channels are 1 to 99, each once
abbrev pub are_bad_channels : List ℕ → Bool
are_bad_channels [] = false
are_bad_channels (n ∷ ns) = not (nat_le 1 n && nat_le n LAST_CHANNEL) || (list_any (nat_eq n) ns || are_bad_channels ns)

-- 20: a list of arguments, formals, targets or values is too long, or a formal channel is none
abbrev pub lists_too_many : Site → Bool
lists_too_many x =
    list_any has_too_many_args (item_nodes x.item)
    || (list_any has_too_long_list (plains_on x.item)
    || (is_too_long (formals_on x.item) || are_bad_channels (filter_map channel_of (formals_on x.item))))
