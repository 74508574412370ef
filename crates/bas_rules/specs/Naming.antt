-- The rules on names: what a line declares, and how it uses what its names stand for.
use Rattle.std.specs.Prelude.{ℕ, suc, Bool, true, false, not, ◌&&◌, ◌||◌, nat_eq, nat_lt, List, [], ◌∷◌, ◌++◌, length, map, Option, Some, None}
use Rattle.std.specs.Option.{option_map_or, option_to_list}
use Rattle.std.specs.List.{list_any, filter, filter_map}
use Rattle.std.specs.Str.{bytes_eq}
use Rattle.bas_ast.specs.Tree as t
use Rattle.bas_ast.specs.Accessors.{lone_primary}
use Rattle.bas_face.specs.declared.shape.Shape.{Shape}
use Rattle.bas_face.specs.declared.shape.Shape.TheVariants as shape
use Rattle.bas_scope.specs.Lines.{gathered, own_lines}
use Rattle.bas_scope.specs.Nodes.{Node, OfPrimary, OfTarget, OfCall, item_nodes}
use Rattle.bas_scope.specs.Supplied.{Parameter, Array}
use Rattle.bas_scope.specs.Scope.{formals_on}
use Rattle.bas_scope.specs.Senses.{Sense, Shaped, SubWith, FunctionWith, SuppliedWith, Senses, senses_of}
use Rattle.bas_scope.specs.declared.body.BodyKind.{BodyKind}
use Rattle.bas_scope.specs.declared.body.BodyKind.TheVariants.{Internal}
use Rattle.bas_scope.specs.Bodies.{Body, Family, head_item, names_on, handler_on}
use Rattle.bas_rules.specs.declared.claims.Claim.{Claim}
use Rattle.bas_rules.specs.declared.claims.Claim.TheVariants.{Types, Imports, Makes}
use Rattle.bas_rules.specs.Sites.{Site}
use Rattle.bas_rules.specs.Kinds.{actuals_of, form_with}

-- a name is one of some
abbrev pub is_among : List ℕ → List (List ℕ) → Bool
is_among name names = list_any (bytes_eq name) names

-- the name of a claim
abbrev pub claimed_name : Claim → List ℕ
claimed_name (Types name) = name
claimed_name (Imports name) = name
claimed_name (Makes name) = name

-- names that are made anew
abbrev pub made : List t.DeclaredItem → List Claim
made items = map (λ item. Makes item.name) items

-- DECLARE of a name with bounds makes it
abbrev pub types_name : List ℕ → List t.Bound → Claim
types_name name [] = Types name
types_name name (bound ∷ bounds) = Makes name

-- the names that a declaration declares
abbrev pub claims_of_decl : t.Decl → List Claim
claims_of_decl (t.Dim items) = made items
claims_of_decl (t.Declare kind items) = map (λ item. types_name item.name item.bounds) items
claims_of_decl (t.Public kind items) = made items
claims_of_decl (t.Share kind items) = made items
claims_of_decl (t.DeclarePublic kind items) = made items
claims_of_decl (t.DeclareExternal t.SubKind names) = map Makes names
claims_of_decl (t.DeclareExternal t.FunctionKind names) = map Imports names
claims_of_decl _ = []

-- the names that a line declares in its body
abbrev pub claims_on : t.LineItem → List Claim
claims_on (t.OfDecl decl) = claims_of_decl decl
claims_on (t.OfPart (t.Sub name formals)) = Makes name ∷ []
claims_on (t.OfPart (t.Function name formals)) = Makes name ∷ []
claims_on (t.OfPart (t.Def name formals value)) = Makes name ∷ []
claims_on _ = []

-- the lines of a body before a line
abbrev pub lines_before : Body → ℕ → List t.NumLine
lines_before body l = filter (λ line. nat_lt line.line l) (own_lines body.block)

-- the names that a line declares
abbrev pub names_claimed : t.LineItem → List (List ℕ)
names_claimed item = map claimed_name (claims_on item)

-- the names that the lines of a body before a line declare
abbrev pub claimed_before : Body → ℕ → List (List ℕ)
claimed_before body l = gathered (λ line. names_claimed line.item) (lines_before body l)

-- the name of a formal
abbrev pub name_of_formal : t.Formal → Option (List ℕ)
name_of_formal (t.FormalName name dimensions) = Some name
name_of_formal (t.FormalChan number) = None

-- the names of the formals on the first line of a body
abbrev pub formal_names : t.LineItem → List (List ℕ)
formal_names head = filter_map name_of_formal (formals_on head)

-- the function that the first line of a body names
abbrev pub function_name : t.LineItem → List (List ℕ)
function_name (t.OfPart (t.Function name formals)) = name ∷ []
function_name (t.OfPart (t.ExternalFunction name formals)) = name ∷ []
function_name (t.OfPart (t.Def name formals value)) = name ∷ []
function_name _ = []

-- a claim that the first line of a program, an external procedure or an initial part has made already
abbrev pub heading_has : t.LineItem → Claim → Bool
heading_has head (Types name) = is_among name (function_name head)
heading_has head (Imports name) = is_among name (formal_names head)
heading_has head (Makes name) = is_among name (formal_names head) || is_among name (function_name head)

-- in an internal procedure only formals are declared
abbrev pub is_no_formal : t.LineItem → Claim → Bool
is_no_formal head (Types name) = not (is_among name (formal_names head))
is_no_formal head _ = true

-- a claim that a body does not take, whatever came before
abbrev pub may_not_claim : BodyKind → t.LineItem → Claim → Bool
may_not_claim Internal head claim = is_no_formal head claim
may_not_claim _ head claim = heading_has head claim

-- a claim of a name that was claimed before, or that the body does not take
abbrev pub is_refused : BodyKind → (head : t.LineItem) → (before : List (List ℕ)) → Claim → Bool
is_refused kind head before claim = is_among (claimed_name claim) before || may_not_claim kind head claim

-- a name that stands twice among some
abbrev pub has_twice : List (List ℕ) → Bool
has_twice [] = false
has_twice (name ∷ names) = is_among name names || has_twice names

-- a name stands for a SUB
abbrev pub is_sub_sense : Sense → Bool
is_sub_sense (SubWith formals) = true
is_sub_sense _ = false

-- the names that a line uses as variables, and that a SUB has
abbrev pub sub_names_used : Senses → t.LineItem → List (List ℕ)
sub_names_used s item = filter (λ name. is_sub_sense (s.named name)) (names_on item)

-- the bodies of a family
abbrev pub bodies_in : Family → List Body
bodies_in f = f.container ∷ f.internals

-- a line uses a name as a variable that a SUB before it has
abbrev pub uses_sub_before : Site → Bool
uses_sub_before x = list_any (λ name. is_among name (claimed_before x.family.container x.line)) (sub_names_used (senses_of x.body.scope) x.item)

-- the names of SUBs that are used as variables before a line
abbrev pub used_before : Family → ℕ → List (List ℕ)
used_before f l = gathered (λ body. gathered (λ line. sub_names_used (senses_of body.scope) line.item) (lines_before body l)) (bodies_in f)

-- a line begins or declares a SUB whose name is used as a variable before it
abbrev pub claims_used : Site → Bool
claims_used x = list_any (λ claim. is_among (claimed_name claim) (used_before x.family x.line)) (claims_on x.item)

-- 1: a name gets a second declaration or a second kind
abbrev pub declared_twice : Site → Bool
declared_twice x =
    list_any (is_refused x.body.kind (head_item x.body.head) (claimed_before x.body x.line)) (claims_on x.item)
    || (has_twice (names_claimed x.item)
    || (has_twice (function_name x.item ++ formal_names x.item) || (uses_sub_before x || claims_used x)))

-- how many dimensions a variable has
abbrev pub dimensions_of : Shape → ℕ
dimensions_of (shape.NumArray type n) = n
dimensions_of (shape.StrArray length n) = n
dimensions_of _ = 0

-- the dimensions of what a name stands for
abbrev pub dimensions_in : Sense → ℕ
dimensions_in (Shaped shape) = dimensions_of shape
dimensions_in _ = 0

-- a name stands for an array
abbrev pub is_array : Sense → Bool
is_array sense = nat_lt 0 (dimensions_in sense)

-- how many expressions there are
abbrev pub exprs_length : t.Exprs → ℕ
exprs_length t.NoExprs = 0
exprs_length (t.MoreExprs expr rest) = suc (exprs_length rest)

-- an array that is an argument by itself
abbrev pub named_array : Senses → Option t.Primary → Bool
named_array s (Some (t.Named name t.NoArgs)) = is_array (s.named name)
named_array s _ = false

-- an argument that is an array by itself
abbrev pub is_whole_array : Senses → t.Actual → Bool
is_whole_array s (t.Argument expr) = named_array s (lone_primary expr)
is_whole_array s (t.ChanArgument number) = false

-- a supplied function takes whole arrays where it asks for them, and there alone
abbrev pub misuses_array : Senses → List t.Actual → List Parameter → Bool
misuses_array s (actual ∷ actuals) (Array ∷ parameters) = not (is_whole_array s actual) || misuses_array s actuals parameters
misuses_array s (actual ∷ actuals) (parameter ∷ parameters) = is_whole_array s actual || misuses_array s actuals parameters
misuses_array s _ _ = false

-- wrong subscripts of an array, or a wrong use of arrays as arguments
abbrev pub misuses_args : Senses → Sense → List t.Actual → Bool
misuses_args s (Shaped shape) actuals =
    nat_lt 0 (dimensions_of shape) && (not (nat_eq (length actuals) (dimensions_of shape)) || list_any (is_whole_array s) actuals)
misuses_args s (SuppliedWith forms) actuals = option_map_or (misuses_array s actuals) (form_with (length actuals) forms) false
misuses_args s _ actuals = false

-- another number of subscripts than the target has dimensions
abbrev pub misuses_target : Sense → (subscripts : ℕ) → Bool
misuses_target (Shaped shape) n = not (nat_eq n (dimensions_of shape))
misuses_target _ n = nat_lt 0 n

-- an operand or a target that misuses an array
abbrev pub array_misused : Senses → Node → Bool
array_misused s (OfPrimary (t.Named name args)) = misuses_args s (s.named name) (actuals_of args)
array_misused s (OfTarget (t.Variable name subscripts)) = misuses_target (s.named name) (exprs_length subscripts)
array_misused s _ = false

-- 2: an array is not declared, or has another number of subscripts
abbrev pub misuses_an_array : Site → Bool
misuses_an_array x = list_any (array_misused (senses_of x.body.scope)) (item_nodes x.item)

-- the name of the handler that a line begins
abbrev pub handler_name : t.LineItem → List (List ℕ)
handler_name item = option_to_list (handler_on item)

-- the handlers of a body
abbrev pub handlers_in : Body → List (List ℕ)
handlers_in body = gathered (λ line. handler_name line.item) (own_lines body.block)

-- those before a line
abbrev pub handlers_before : Body → ℕ → List (List ℕ)
handlers_before body l = gathered (λ line. handler_name line.item) (lines_before body l)

-- WHEN without its handler, or a second handler of a name
abbrev pub lacks_handler : Site → t.LineItem → Bool
lacks_handler x (t.OfPart (t.WhenExceptionUse name)) =
    not (is_among name (handlers_in x.body))
lacks_handler x (t.OfPart (t.Handler name)) = is_among name (handlers_before x.body x.line)
lacks_handler x _ = false

-- 8: WHEN EXCEPTION USE names no handler, or a handler has the name of another one
abbrev pub handler_is_not_one : Site → Bool
handler_is_not_one x = lacks_handler x x.item

-- the shape of a numeric scalar
abbrev pub is_number_shape : Shape → Bool
is_number_shape (shape.Num type) = true
is_number_shape _ = false

-- a name stands for a numeric scalar
abbrev pub is_number_scalar : Sense → Bool
is_number_scalar (Shaped shape) = is_number_shape shape
is_number_scalar _ = false

-- the variable of a FOR line
abbrev pub counter_of : t.LineItem → List (List ℕ)
counter_of (t.OfPart (t.For name start limit step)) = name ∷ []
counter_of _ = []

-- FOR or NEXT with another variable than it may have
abbrev pub bad_counter : Site → t.LineItem → Bool
bad_counter x (t.OfPart (t.For name start limit step)) =
    not (is_number_scalar ((senses_of x.body.scope).named name)) || is_among name x.around.counters
bad_counter x (t.OfPart (t.Next name)) = not (is_among name (counter_of x.opener))
bad_counter x _ = false

-- 9: the variable of a FOR is no numeric scalar, or one of a FOR around it, or NEXT names another
abbrev pub counts_by_wrong_variable : Site → Bool
counts_by_wrong_variable x = bad_counter x x.item

-- a name stands for a function whose value is not set here
abbrev pub is_outside_function : Sense → Bool
is_outside_function (FunctionWith formals false) = true
is_outside_function _ = false

-- a name stands for a function
abbrev pub is_function : Sense → Bool
is_function (FunctionWith formals set_here) = true
is_function _ = false

-- a target or a substring of a function
abbrev pub sets_function : Senses → Node → Bool
sets_function s (OfTarget (t.Variable name t.NoExprs)) = is_outside_function (s.named name)
sets_function s (OfPrimary (t.Substring (t.Variable name subscripts) first last)) = is_function (s.named name)
sets_function s _ = false

-- 16: a function's name is a target outside of it
abbrev pub sets_a_function : Site → Bool
sets_a_function x = list_any (sets_function (senses_of x.body.scope)) (item_nodes x.item)

-- what may have arguments
abbrev pub takes_args : Sense → Bool
takes_args (Shaped shape) = nat_lt 0 (dimensions_of shape)
takes_args (SubWith formals) = false
takes_args (FunctionWith formals set_here) = true
takes_args (SuppliedWith forms) = true

-- a name with arguments that takes none, or CALL of a function
abbrev pub applies_nothing : Senses → Node → Bool
applies_nothing s (OfPrimary (t.Named name (t.MoreArgs actual rest))) = not (takes_args (s.named name))
applies_nothing s (OfCall name args) = is_function (s.called name)
applies_nothing s _ = false

-- 23: a name with arguments is no array and no known function, or CALL names a function
abbrev pub calls_what_is_none : Site → Bool
calls_what_is_none x = list_any (applies_nothing (senses_of x.body.scope)) (item_nodes x.item)
