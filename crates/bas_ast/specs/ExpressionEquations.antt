-- The equations of the plain trees of expressions.
use Rattle.std.specs.Prelude.{◌≡◌, ℕ, List}
use Rattle.std.specs.Option.{option_map}
use Rattle.bas_ast.specs.Tree as t
use Rattle.bas_ast.specs.ExpressionTree.{sign_tree, numeral_tree, actual_tree, primary_tree, args_tree, expr_tree, factor_tree, target_tree, term_tree, actuals_tree, terms_tree, primaries_tree, exprs_tree, factors_tree}
use Rattle.bas_ast.specs.declared.expression.Numeral.{Numeral}
use Rattle.bas_ast.specs.declared.expression.Actual.{Actual}
use Rattle.bas_ast.specs.declared.expression.Primary.{Primary}
use Rattle.bas_ast.specs.declared.expression.Args.{Args, Args-F, roll-Args, out-Args}
use Rattle.bas_ast.specs.declared.expression.Expr.{Expr, Expr-F, roll-Expr, out-Expr}
use Rattle.bas_ast.specs.declared.expression.Factor.{Factor, Factor-F, roll-Factor, out-Factor}
use Rattle.bas_ast.specs.declared.expression.Target.{Target, Target-F, roll-Target, out-Target}
use Rattle.bas_ast.specs.declared.expression.Term.{Term, Term-F, roll-Term, out-Term}
use Rattle.bas_ast.specs.declared.expression.Actual as actual_form
use Rattle.bas_ast.specs.declared.expression.Primary as primary_form

-- a form's plain tree has the plain trees of its parts; a struct is told as it is made and as it is opened
pub record ExpressionEquations : Type 0 where
  pub actual_expr : (x : Expr) → actual_tree (actual_form.Expr x) ≡ t.Argument (expr_tree x)
  pub actual_chan : (x : Expr) → actual_tree (actual_form.Chan x) ≡ t.ChanArgument (expr_tree x)
  pub primary_numeral : (x : Numeral) → primary_tree (primary_form.Numeral x) ≡ t.Numeric (numeral_tree x)
  pub primary_quoted : (text : List ℕ) → primary_tree (primary_form.Quoted text) ≡ t.Quoted text
  pub primary_group : (x : Expr) → primary_tree (primary_form.Group x) ≡ t.Group (expr_tree x)
  pub primary_name : (name : List ℕ) (args : Args) → primary_tree (primary_form.Name name args) ≡ t.Named name (args_tree args)
  pub primary_substring : (target : Target) (first : Expr) (last : Expr) → primary_tree (primary_form.Substring target first last) ≡ t.Substring (target_tree target) (expr_tree first) (expr_tree last)
  pub args_roll : (x : Args-F Actual Primary Args Expr Factor Target Term) → args_tree (roll-Args x) ≡ actuals_tree x.actuals
  pub args_out : (x : Args) → args_tree x ≡ actuals_tree (out-Args x).actuals
  pub expr_roll : (x : Expr-F Actual Primary Args Expr Factor Target Term) → expr_tree (roll-Expr x) ≡ t.Sum (option_map sign_tree x.sign) (term_tree x.first) (terms_tree x.rest)
  pub expr_out : (x : Expr) → expr_tree x ≡ t.Sum (option_map sign_tree (out-Expr x).sign) (term_tree (out-Expr x).first) (terms_tree (out-Expr x).rest)
  pub factor_roll : (x : Factor-F Actual Primary Args Expr Factor Target Term) → factor_tree (roll-Factor x) ≡ t.Power (primary_tree x.base) (primaries_tree x.exponents)
  pub factor_out : (x : Factor) → factor_tree x ≡ t.Power (primary_tree (out-Factor x).base) (primaries_tree (out-Factor x).exponents)
  pub target_roll : (x : Target-F Actual Primary Args Expr Factor Target Term) → target_tree (roll-Target x) ≡ t.Variable x.name (exprs_tree x.subscripts)
  pub target_out : (x : Target) → target_tree x ≡ t.Variable (out-Target x).name (exprs_tree (out-Target x).subscripts)
  pub term_roll : (x : Term-F Actual Primary Args Expr Factor Target Term) → term_tree (roll-Term x) ≡ t.Product (factor_tree x.first) (factors_tree x.rest)
  pub term_out : (x : Term) → term_tree x ≡ t.Product (factor_tree (out-Term x).first) (factors_tree (out-Term x).rest)
