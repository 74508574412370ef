-- The plain tree of an expression: each layer with the plain trees of its parts in their places.
use Rattle.std.specs.Prelude.{List, [], ◌∷◌}
use Rattle.std.specs.Option.{option_map}
use Rattle.bas_ast.specs.Tree as t
use Rattle.bas_ast.specs.declared.expression.Sign.{Sign}
use Rattle.bas_ast.specs.declared.expression.Sign.TheVariants.{Plus, Minus}
use Rattle.bas_ast.specs.declared.expression.TermSign.{TermSign}
use Rattle.bas_ast.specs.declared.expression.TermSign.TheVariants.{Add, Subtract, Join}
use Rattle.bas_ast.specs.declared.expression.FactorSign.{FactorSign}
use Rattle.bas_ast.specs.declared.expression.FactorSign.TheVariants.{Multiply, Divide}
use Rattle.bas_ast.specs.declared.expression.Numeral.{Numeral}
use Rattle.bas_ast.specs.declared.expression.Actual.{Actual, Actual-F, fold-Actual}
use Rattle.bas_ast.specs.declared.expression.Actual.TheOpen as layer
use Rattle.bas_ast.specs.declared.expression.Primary.{Primary, Primary-F, fold-Primary}
use Rattle.bas_ast.specs.declared.expression.Args.{Args, Args-F, fold-Args}
use Rattle.bas_ast.specs.declared.expression.Expr.{Expr, Expr-F, fold-Expr}
use Rattle.bas_ast.specs.declared.expression.Factor.{Factor, Factor-F, fold-Factor}
use Rattle.bas_ast.specs.declared.expression.Target.{Target, Target-F, fold-Target}
use Rattle.bas_ast.specs.declared.expression.Term.{Term, Term-F, fold-Term}

abbrev pub sign_tree : Sign → t.Sign
sign_tree Plus = t.Plus
sign_tree Minus = t.Minus

abbrev pub term_sign_tree : TermSign → t.TermSign
term_sign_tree Add = t.Add
term_sign_tree Subtract = t.Subtract
term_sign_tree Join = t.Join

abbrev pub factor_sign_tree : FactorSign → t.FactorSign
factor_sign_tree Multiply = t.Multiply
factor_sign_tree Divide = t.Divide

abbrev pub numeral_tree : Numeral → t.Numeral
numeral_tree n = record { value = n.value; digits = n.digits }

-- plain trees in a row, with the sign in front of each
abbrev pub terms_of : List (TermSign × t.Term) → t.Terms
terms_of [] = t.NoTerms
terms_of (x ∷ xs) = t.MoreTerms (term_sign_tree x.0) x.1 (terms_of xs)

abbrev pub factors_of : List (FactorSign × t.Factor) → t.Factors
factors_of [] = t.NoFactors
factors_of (x ∷ xs) = t.MoreFactors (factor_sign_tree x.0) x.1 (factors_of xs)

abbrev pub primaries_of : List t.Primary → t.Primaries
primaries_of [] = t.NoPrimaries
primaries_of (x ∷ xs) = t.MorePrimaries x (primaries_of xs)

abbrev pub actuals_of : List t.Actual → t.Args
actuals_of [] = t.NoArgs
actuals_of (x ∷ xs) = t.MoreArgs x (actuals_of xs)

abbrev pub exprs_of : List t.Expr → t.Exprs
exprs_of [] = t.NoExprs
exprs_of (x ∷ xs) = t.MoreExprs x (exprs_of xs)

-- a layer of each type, with plain trees as its parts
abbrev pub actual_of : Actual-F t.Actual t.Primary t.Args t.Expr t.Factor t.Target t.Term → t.Actual
actual_of (layer.Expr e) = t.Argument e
actual_of (layer.Chan e) = t.ChanArgument e

abbrev pub primary_of : Primary-F t.Actual t.Primary t.Args t.Expr t.Factor t.Target t.Term → t.Primary
primary_of (layer.Numeral n) = t.Numeric (numeral_tree n)
primary_of (layer.Quoted text) = t.Quoted text
primary_of (layer.Group e) = t.Group e
primary_of (layer.Name name args) = t.Named name args
primary_of (layer.Substring target first last) = t.Substring target first last

abbrev pub args_of : Args-F t.Actual t.Primary t.Args t.Expr t.Factor t.Target t.Term → t.Args
args_of x = actuals_of x.actuals

abbrev pub expr_of : Expr-F t.Actual t.Primary t.Args t.Expr t.Factor t.Target t.Term → t.Expr
expr_of x = t.Sum (option_map sign_tree x.sign) x.first (terms_of x.rest)

abbrev pub factor_of : Factor-F t.Actual t.Primary t.Args t.Expr t.Factor t.Target t.Term → t.Factor
factor_of x = t.Power x.base (primaries_of x.exponents)

abbrev pub target_of : Target-F t.Actual t.Primary t.Args t.Expr t.Factor t.Target t.Term → t.Target
target_of x = t.Variable x.name (exprs_of x.subscripts)

abbrev pub term_of : Term-F t.Actual t.Primary t.Args t.Expr t.Factor t.Target t.Term → t.Term
term_of x = t.Product x.first (factors_of x.rest)

-- the plain tree of an argument
unfoldable pub actual_tree : Actual → t.Actual
actual_tree = fold-Actual t.Actual t.Primary t.Args t.Expr t.Factor t.Target t.Term actual_of primary_of args_of expr_of factor_of target_of term_of

-- the plain tree of an operand
unfoldable pub primary_tree : Primary → t.Primary
primary_tree = fold-Primary t.Actual t.Primary t.Args t.Expr t.Factor t.Target t.Term actual_of primary_of args_of expr_of factor_of target_of term_of

-- the plain tree of arguments
unfoldable pub args_tree : Args → t.Args
args_tree = fold-Args t.Actual t.Primary t.Args t.Expr t.Factor t.Target t.Term actual_of primary_of args_of expr_of factor_of target_of term_of

-- the plain tree of an expression
unfoldable pub expr_tree : Expr → t.Expr
expr_tree = fold-Expr t.Actual t.Primary t.Args t.Expr t.Factor t.Target t.Term actual_of primary_of args_of expr_of factor_of target_of term_of

-- the plain tree of a factor
unfoldable pub factor_tree : Factor → t.Factor
factor_tree = fold-Factor t.Actual t.Primary t.Args t.Expr t.Factor t.Target t.Term actual_of primary_of args_of expr_of factor_of target_of term_of

-- the plain tree of a target
unfoldable pub target_tree : Target → t.Target
target_tree = fold-Target t.Actual t.Primary t.Args t.Expr t.Factor t.Target t.Term actual_of primary_of args_of expr_of factor_of target_of term_of

-- the plain tree of a term
unfoldable pub term_tree : Term → t.Term
term_tree = fold-Term t.Actual t.Primary t.Args t.Expr t.Factor t.Target t.Term actual_of primary_of args_of expr_of factor_of target_of term_of

-- the plain trees of parts in a row
abbrev pub terms_tree : List (TermSign × Term) → t.Terms
terms_tree [] = t.NoTerms
terms_tree (x ∷ xs) = t.MoreTerms (term_sign_tree x.0) (term_tree x.1) (terms_tree xs)

abbrev pub factors_tree : List (FactorSign × Factor) → t.Factors
factors_tree [] = t.NoFactors
factors_tree (x ∷ xs) = t.MoreFactors (factor_sign_tree x.0) (factor_tree x.1) (factors_tree xs)

abbrev pub primaries_tree : List Primary → t.Primaries
primaries_tree [] = t.NoPrimaries
primaries_tree (x ∷ xs) = t.MorePrimaries (primary_tree x) (primaries_tree xs)

abbrev pub actuals_tree : List Actual → t.Args
actuals_tree [] = t.NoArgs
actuals_tree (x ∷ xs) = t.MoreArgs (actual_tree x) (actuals_tree xs)

abbrev pub exprs_tree : List Expr → t.Exprs
exprs_tree [] = t.NoExprs
exprs_tree (x ∷ xs) = t.MoreExprs (expr_tree x) (exprs_tree xs)
