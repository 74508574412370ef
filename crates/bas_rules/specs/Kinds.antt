-- Whether an expression is a number or a string, and where operands have another kind than is wanted.
use Rattle.std.specs.Prelude.{ℕ, Bool, true, false, not, ◌&&◌, if◌then◌else◌, List, [], ◌∷◌, length, nat_eq, Option, Some, None}
use Rattle.std.specs.List.{list_all, find}
use Rattle.bas_ast.specs.Tree as t
use Rattle.bas_face.specs.declared.shape.Shape.{Shape}
use Rattle.bas_face.specs.declared.shape.Shape.TheVariants as shape
use Rattle.bas_scope.specs.Shapes.{is_text_name}
use Rattle.bas_scope.specs.Supplied.{Parameter, Number, Text, Array, Forms}
use Rattle.bas_scope.specs.Senses.{Sense, Shaped, SubWith, FunctionWith, SuppliedWith, Senses}
use Rattle.bas_scope.specs.Nodes.{Node, OfExpr, OfTerm, OfFactor, OfPrimary, OfTarget, OfTest, OfWhole, OfCall}

-- what a value is
pub data Kind : Type 0 where
  Numeric : Kind
  String : Kind

-- the kind of a name
abbrev pub name_kind : List ℕ → Kind
name_kind name = if is_text_name name then String else Numeric

-- the kind of numbers
abbrev pub is_numeric : Kind → Bool
is_numeric Numeric = true
is_numeric String = false

-- the kind of strings
abbrev pub is_string : Kind → Bool
is_string kind = not (is_numeric kind)

-- two kinds are one
abbrev pub same_kind : Kind → Kind → Bool
same_kind Numeric kind = is_numeric kind
same_kind String kind = is_string kind

-- the kind that an operator of terms takes and gives
abbrev pub sign_kind : t.TermSign → Kind
sign_kind t.Add = Numeric
sign_kind t.Subtract = Numeric
sign_kind t.Join = String

abbrev mutual
  -- an expression with an operator has the kind of its last one
  pub expr_kind : t.Expr → Kind
  expr_kind (t.Sum None first rest) = terms_kind (term_kind first) rest
  expr_kind (t.Sum (Some sign) first rest) = terms_kind Numeric rest

  pub terms_kind : (before : Kind) → t.Terms → Kind
  terms_kind before t.NoTerms = before
  terms_kind before (t.MoreTerms sign term rest) = terms_kind (sign_kind sign) rest

  pub term_kind : t.Term → Kind
  term_kind (t.Product first t.NoFactors) = factor_kind first
  term_kind (t.Product first (t.MoreFactors sign factor rest)) = Numeric

  pub factor_kind : t.Factor → Kind
  factor_kind (t.Power base t.NoPrimaries) = primary_kind base
  factor_kind (t.Power base (t.MorePrimaries primary rest)) = Numeric

  pub primary_kind : t.Primary → Kind
  primary_kind (t.Numeric numeral) = Numeric
  primary_kind (t.Quoted text) = String
  primary_kind (t.Group expr) = expr_kind expr
  primary_kind (t.Named name args) = name_kind name
  primary_kind (t.Substring target first last) = String

-- an expression is a number
abbrev pub is_number : t.Expr → Bool
is_number e = is_numeric (expr_kind e)

-- an expression is a string
abbrev pub is_string_expr : t.Expr → Bool
is_string_expr e = is_string (expr_kind e)

-- operators of terms group from the left, and each takes its own kind on both sides
abbrev pub terms_agree : (before : Kind) → t.Terms → Bool
terms_agree before t.NoTerms = true
terms_agree before (t.MoreTerms sign term rest) =
    same_kind before (sign_kind sign) && (same_kind (term_kind term) (sign_kind sign) && terms_agree (sign_kind sign) rest)

-- a signed first term is a number
abbrev pub expr_agrees : t.Expr → Bool
expr_agrees (t.Sum None first rest) = terms_agree (term_kind first) rest
expr_agrees (t.Sum (Some sign) first rest) = is_numeric (term_kind first) && terms_agree Numeric rest

-- each of these factors is a number
abbrev pub are_numeric_factors : t.Factors → Bool
are_numeric_factors t.NoFactors = true
are_numeric_factors (t.MoreFactors sign factor rest) = is_numeric (factor_kind factor) && are_numeric_factors rest

-- the factors of a product are numbers
abbrev pub term_agrees : t.Term → Bool
term_agrees (t.Product first t.NoFactors) = true
term_agrees (t.Product first rest) = is_numeric (factor_kind first) && are_numeric_factors rest

-- each of these operands is a number
abbrev pub are_numeric_primaries : t.Primaries → Bool
are_numeric_primaries t.NoPrimaries = true
are_numeric_primaries (t.MorePrimaries primary rest) = is_numeric (primary_kind primary) && are_numeric_primaries rest

-- a base with an exponent is a number, as the exponents are
abbrev pub factor_agrees : t.Factor → Bool
factor_agrees (t.Power base t.NoPrimaries) = true
factor_agrees (t.Power base rest) = is_numeric (primary_kind base) && are_numeric_primaries rest

-- each of these expressions is a number
abbrev pub are_numeric_exprs : t.Exprs → Bool
are_numeric_exprs t.NoExprs = true
are_numeric_exprs (t.MoreExprs expr rest) = is_number expr && are_numeric_exprs rest

-- arguments in a row
abbrev pub actuals_of : t.Args → List t.Actual
actuals_of t.NoArgs = []
actuals_of (t.MoreArgs actual rest) = actual ∷ actuals_of rest

-- the number of a channel that is passed is a number
abbrev pub chan_agrees : t.Actual → Bool
chan_agrees (t.Argument expr) = true
chan_agrees (t.ChanArgument number) = is_number number

-- an argument that is a number
abbrev pub is_number_actual : t.Actual → Bool
is_number_actual (t.Argument expr) = is_number expr
is_number_actual (t.ChanArgument number) = false

-- an argument has the kind of its formal; that a channel meets something else is no matter of kinds
abbrev pub formal_agrees : t.Actual → Shape → Bool
formal_agrees (t.ChanArgument number) formal = true
formal_agrees (t.Argument expr) (shape.Num type) = is_number expr
formal_agrees (t.Argument expr) (shape.NumArray type dimensions) = is_number expr
formal_agrees (t.Argument expr) (shape.Str length) = is_string_expr expr
formal_agrees (t.Argument expr) (shape.StrArray length dimensions) = is_string_expr expr
formal_agrees (t.Argument expr) _ = true

-- each argument has the kind of the formal in its place
abbrev pub formals_agree : List t.Actual → List Shape → Bool
formals_agree [] formals = true
formals_agree (actual ∷ actuals) [] = true
formals_agree (actual ∷ actuals) (formal ∷ formals) = formal_agrees actual formal && formals_agree actuals formals

-- the same where the formals are known
abbrev pub known_agree : List t.Actual → Option (List Shape) → Bool
known_agree actuals None = true
known_agree actuals (Some formals) = formals_agree actuals formals

-- the form of a supplied function with a count of arguments
abbrev pub form_with : (count : ℕ) → Forms → Option (List Parameter)
form_with count forms = find (λ form. nat_eq (length form) count) forms

-- an argument is what a supplied function takes in its place
abbrev pub parameter_agrees : t.Actual → Parameter → Bool
parameter_agrees (t.Argument expr) Number = is_number expr
parameter_agrees (t.Argument expr) Text = is_string_expr expr
parameter_agrees (t.Argument expr) Array = true
parameter_agrees (t.ChanArgument number) parameter = false

-- the same for each in its place
abbrev pub parameters_agree : List t.Actual → List Parameter → Bool
parameters_agree (actual ∷ actuals) (parameter ∷ parameters) =
    parameter_agrees actual parameter && parameters_agree actuals parameters
parameters_agree _ _ = true

-- with a wrong count the kinds do not matter
abbrev pub form_agrees : List t.Actual → Option (List Parameter) → Bool
form_agrees actuals None = true
form_agrees actuals (Some form) = parameters_agree actuals form

-- the arguments of what a name stands for: subscripts are numbers
abbrev pub args_agree : List t.Actual → Sense → Bool
args_agree actuals (Shaped shape) = list_all is_number_actual actuals
args_agree actuals (SubWith formals) = known_agree actuals formals
args_agree actuals (FunctionWith formals set_here) = known_agree actuals formals
args_agree actuals (SuppliedWith forms) = form_agrees actuals (form_with (length actuals) forms)

-- arguments that have their kinds
abbrev pub call_agrees : Sense → List t.Actual → Bool
call_agrees sense actuals = list_all chan_agrees actuals && args_agree actuals sense

-- the kind of a target
abbrev pub target_kind : t.Target → Kind
target_kind (t.Variable name subscripts) = name_kind name

-- both sides of a relation have one kind
abbrev pub test_agrees : t.Test → Bool
test_agrees (t.Compare left rel right) = same_kind (expr_kind left) (expr_kind right)
test_agrees _ = true

-- the parts of an operand have their kinds
abbrev pub primary_agrees : Senses → t.Primary → Bool
primary_agrees s (t.Named name args) = call_agrees (s.named name) (actuals_of args)
primary_agrees s (t.Substring target first last) = is_string (target_kind target) && (is_number first && is_number last)
primary_agrees s _ = true

-- subscripts are numbers
abbrev pub target_agrees : t.Target → Bool
target_agrees (t.Variable name subscripts) = are_numeric_exprs subscripts

-- the operands of a node have their kinds
abbrev pub node_agrees : Senses → Node → Bool
node_agrees s (OfExpr expr) = expr_agrees expr
node_agrees s (OfTerm term) = term_agrees term
node_agrees s (OfFactor factor) = factor_agrees factor
node_agrees s (OfPrimary primary) = primary_agrees s primary
node_agrees s (OfWhole primary) = primary_agrees s primary
node_agrees s (OfTarget target) = target_agrees target
node_agrees s (OfTest test) = test_agrees test
node_agrees s (OfCall name args) = call_agrees (s.called name) (actuals_of args)
