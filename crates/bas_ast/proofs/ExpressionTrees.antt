-- The equations of the plain trees of expressions.
use Rattle.std.proofs.Common.{◌≡◌, ℕ, List, [], ◌∷◌, map, refl, ap, sym, ◌∙◌}
use Rattle.std.specs.Option.{option_map}
use Rattle.bas_ast.specs.Tree as t
use Rattle.bas_ast.specs.ExpressionTree.{sign_tree, term_sign_tree, factor_sign_tree, numeral_tree, actual_tree, primary_tree, args_tree, expr_tree, factor_tree, target_tree, term_tree, actuals_tree, terms_tree, primaries_tree, exprs_tree, factors_tree}
use Rattle.bas_ast.specs.declared.expression.Numeral.{Numeral}
use Rattle.bas_ast.specs.declared.expression.Actual.{Actual}
use Rattle.bas_ast.specs.declared.expression.Primary.{Primary}
use Rattle.bas_ast.specs.declared.expression.Args.{Args, Args-F, roll-Args, out-Args}
use Rattle.bas_ast.specs.declared.expression.Expr.{Expr, Expr-F, roll-Expr, out-Expr}
use Rattle.bas_ast.specs.declared.expression.Factor.{Factor, Factor-F, roll-Factor, out-Factor}
use Rattle.bas_ast.specs.declared.expression.Target.{Target, Target-F, roll-Target, out-Target}
use Rattle.bas_ast.specs.declared.expression.Term.{Term, Term-F, roll-Term, out-Term}
use Rattle.bas_ast.specs.declared.expression.Actual as actual_form
use Rattle.bas_ast.specs.declared.expression.Primary as primary_form
use Rattle.bas_ast.specs.ExpressionTree.{terms_of, factors_of, primaries_of, actuals_of, exprs_of, actual_of, primary_of, args_of, expr_of, factor_of, target_of, term_of}
use Rattle.bas_ast.specs.declared.expression.TermSign.{TermSign}
use Rattle.bas_ast.specs.declared.expression.FactorSign.{FactorSign}
use Rattle.bas_ast.specs.declared.expression.Actual.{fold-roll-Actual}
use Rattle.bas_ast.specs.declared.expression.Primary.{fold-roll-Primary}
use Rattle.bas_ast.specs.declared.expression.Args.{fold-roll-Args, fold_out-Args}
use Rattle.bas_ast.specs.declared.expression.Expr.{fold-roll-Expr, fold_out-Expr}
use Rattle.bas_ast.specs.declared.expression.Factor.{fold-roll-Factor, fold_out-Factor}
use Rattle.bas_ast.specs.declared.expression.Target.{fold-roll-Target, fold_out-Target}
use Rattle.bas_ast.specs.declared.expression.Term.{fold-roll-Term, fold_out-Term}
use Rattle.bas_ast.specs.declared.expression.Actual.TheOpen as layer
use Rattle.bas_ast.specs.declared.expression.Actual.TheVariants as actual_rolls
use Rattle.bas_ast.specs.declared.expression.Primary.TheVariants as primary_rolls
use Rattle.bas_ast.specs.ExpressionEquations.{ExpressionEquations}

terms_rows : (xs : List (TermSign × Term)) → terms_of (map (λ x. (x.0, term_tree x.1)) xs) ≡ terms_tree xs
terms_rows [] = refl
terms_rows (x ∷ xs) = ap (t.MoreTerms (term_sign_tree x.0) (term_tree x.1)) (terms_rows xs)

factors_rows : (xs : List (FactorSign × Factor)) → factors_of (map (λ x. (x.0, factor_tree x.1)) xs) ≡ factors_tree xs
factors_rows [] = refl
factors_rows (x ∷ xs) = ap (t.MoreFactors (factor_sign_tree x.0) (factor_tree x.1)) (factors_rows xs)

primaries_rows : (xs : List Primary) → primaries_of (map primary_tree xs) ≡ primaries_tree xs
primaries_rows [] = refl
primaries_rows (x ∷ xs) = ap (t.MorePrimaries (primary_tree x)) (primaries_rows xs)

actuals_rows : (xs : List Actual) → actuals_of (map actual_tree xs) ≡ actuals_tree xs
actuals_rows [] = refl
actuals_rows (x ∷ xs) = ap (t.MoreArgs (actual_tree x)) (actuals_rows xs)

exprs_rows : (xs : List Expr) → exprs_of (map expr_tree xs) ≡ exprs_tree xs
exprs_rows [] = refl
exprs_rows (x ∷ xs) = ap (t.MoreExprs (expr_tree x)) (exprs_rows xs)

pub actual_expr : (x : Expr) → actual_tree (actual_form.Expr x) ≡ t.Argument (expr_tree x)
unfolding actual_tree primary_tree args_tree expr_tree factor_tree target_tree term_tree
actual_expr x = ap actual_tree (sym (actual_rolls.rolls-Expr x)) ∙ fold-roll-Actual t.Actual t.Primary t.Args t.Expr t.Factor t.Target t.Term actual_of primary_of args_of expr_of factor_of target_of term_of (layer.Expr x)

pub actual_chan : (x : Expr) → actual_tree (actual_form.Chan x) ≡ t.ChanArgument (expr_tree x)
unfolding actual_tree primary_tree args_tree expr_tree factor_tree target_tree term_tree
actual_chan x = ap actual_tree (sym (actual_rolls.rolls-Chan x)) ∙ fold-roll-Actual t.Actual t.Primary t.Args t.Expr t.Factor t.Target t.Term actual_of primary_of args_of expr_of factor_of target_of term_of (layer.Chan x)

pub primary_numeral : (x : Numeral) → primary_tree (primary_form.Numeral x) ≡ t.Numeric (numeral_tree x)
unfolding actual_tree primary_tree args_tree expr_tree factor_tree target_tree term_tree
primary_numeral x = ap primary_tree (sym (primary_rolls.rolls-Numeral x)) ∙ fold-roll-Primary t.Actual t.Primary t.Args t.Expr t.Factor t.Target t.Term actual_of primary_of args_of expr_of factor_of target_of term_of (layer.Numeral x)

pub primary_quoted : (text : List ℕ) → primary_tree (primary_form.Quoted text) ≡ t.Quoted text
unfolding actual_tree primary_tree args_tree expr_tree factor_tree target_tree term_tree
primary_quoted text = ap primary_tree (sym (primary_rolls.rolls-Quoted text)) ∙ fold-roll-Primary t.Actual t.Primary t.Args t.Expr t.Factor t.Target t.Term actual_of primary_of args_of expr_of factor_of target_of term_of (layer.Quoted text)

pub primary_group : (x : Expr) → primary_tree (primary_form.Group x) ≡ t.Group (expr_tree x)
unfolding actual_tree primary_tree args_tree expr_tree factor_tree target_tree term_tree
primary_group x = ap primary_tree (sym (primary_rolls.rolls-Group x)) ∙ fold-roll-Primary t.Actual t.Primary t.Args t.Expr t.Factor t.Target t.Term actual_of primary_of args_of expr_of factor_of target_of term_of (layer.Group x)

pub primary_name : (name : List ℕ) (args : Args) → primary_tree (primary_form.Name name args) ≡ t.Named name (args_tree args)
unfolding actual_tree primary_tree args_tree expr_tree factor_tree target_tree term_tree
primary_name name args = ap primary_tree (sym (primary_rolls.rolls-Name name args)) ∙ fold-roll-Primary t.Actual t.Primary t.Args t.Expr t.Factor t.Target t.Term actual_of primary_of args_of expr_of factor_of target_of term_of (layer.Name name args)

pub primary_substring : (target : Target) (first : Expr) (last : Expr) → primary_tree (primary_form.Substring target first last) ≡ t.Substring (target_tree target) (expr_tree first) (expr_tree last)
unfolding actual_tree primary_tree args_tree expr_tree factor_tree target_tree term_tree
primary_substring target first last = ap primary_tree (sym (primary_rolls.rolls-Substring target first last)) ∙ fold-roll-Primary t.Actual t.Primary t.Args t.Expr t.Factor t.Target t.Term actual_of primary_of args_of expr_of factor_of target_of term_of (layer.Substring target first last)

pub args_roll : (x : Args-F Actual Primary Args Expr Factor Target Term) → args_tree (roll-Args x) ≡ actuals_tree x.actuals
unfolding actual_tree primary_tree args_tree expr_tree factor_tree target_tree term_tree
args_roll x = fold-roll-Args t.Actual t.Primary t.Args t.Expr t.Factor t.Target t.Term actual_of primary_of args_of expr_of factor_of target_of term_of x ∙ actuals_rows x.actuals

pub args_out : (x : Args) → args_tree x ≡ actuals_tree (out-Args x).actuals
unfolding actual_tree primary_tree args_tree expr_tree factor_tree target_tree term_tree
args_out x = fold_out-Args t.Actual t.Primary t.Args t.Expr t.Factor t.Target t.Term actual_of primary_of args_of expr_of factor_of target_of term_of x ∙ actuals_rows (out-Args x).actuals

pub expr_roll : (x : Expr-F Actual Primary Args Expr Factor Target Term) → expr_tree (roll-Expr x) ≡ t.Sum (option_map sign_tree x.sign) (term_tree x.first) (terms_tree x.rest)
unfolding actual_tree primary_tree args_tree expr_tree factor_tree target_tree term_tree
expr_roll x = fold-roll-Expr t.Actual t.Primary t.Args t.Expr t.Factor t.Target t.Term actual_of primary_of args_of expr_of factor_of target_of term_of x ∙ ap (t.Sum (option_map sign_tree x.sign) (term_tree x.first)) (terms_rows x.rest)

pub expr_out : (x : Expr) → expr_tree x ≡ t.Sum (option_map sign_tree (out-Expr x).sign) (term_tree (out-Expr x).first) (terms_tree (out-Expr x).rest)
unfolding actual_tree primary_tree args_tree expr_tree factor_tree target_tree term_tree
expr_out x = fold_out-Expr t.Actual t.Primary t.Args t.Expr t.Factor t.Target t.Term actual_of primary_of args_of expr_of factor_of target_of term_of x ∙ ap (t.Sum (option_map sign_tree (out-Expr x).sign) (term_tree (out-Expr x).first)) (terms_rows (out-Expr x).rest)

pub factor_roll : (x : Factor-F Actual Primary Args Expr Factor Target Term) → factor_tree (roll-Factor x) ≡ t.Power (primary_tree x.base) (primaries_tree x.exponents)
unfolding actual_tree primary_tree args_tree expr_tree factor_tree target_tree term_tree
factor_roll x = fold-roll-Factor t.Actual t.Primary t.Args t.Expr t.Factor t.Target t.Term actual_of primary_of args_of expr_of factor_of target_of term_of x ∙ ap (t.Power (primary_tree x.base)) (primaries_rows x.exponents)

pub factor_out : (x : Factor) → factor_tree x ≡ t.Power (primary_tree (out-Factor x).base) (primaries_tree (out-Factor x).exponents)
unfolding actual_tree primary_tree args_tree expr_tree factor_tree target_tree term_tree
factor_out x = fold_out-Factor t.Actual t.Primary t.Args t.Expr t.Factor t.Target t.Term actual_of primary_of args_of expr_of factor_of target_of term_of x ∙ ap (t.Power (primary_tree (out-Factor x).base)) (primaries_rows (out-Factor x).exponents)

pub target_roll : (x : Target-F Actual Primary Args Expr Factor Target Term) → target_tree (roll-Target x) ≡ t.Variable x.name (exprs_tree x.subscripts)
unfolding actual_tree primary_tree args_tree expr_tree factor_tree target_tree term_tree
target_roll x = fold-roll-Target t.Actual t.Primary t.Args t.Expr t.Factor t.Target t.Term actual_of primary_of args_of expr_of factor_of target_of term_of x ∙ ap (t.Variable x.name) (exprs_rows x.subscripts)

pub target_out : (x : Target) → target_tree x ≡ t.Variable (out-Target x).name (exprs_tree (out-Target x).subscripts)
unfolding actual_tree primary_tree args_tree expr_tree factor_tree target_tree term_tree
target_out x = fold_out-Target t.Actual t.Primary t.Args t.Expr t.Factor t.Target t.Term actual_of primary_of args_of expr_of factor_of target_of term_of x ∙ ap (t.Variable (out-Target x).name) (exprs_rows (out-Target x).subscripts)

pub term_roll : (x : Term-F Actual Primary Args Expr Factor Target Term) → term_tree (roll-Term x) ≡ t.Product (factor_tree x.first) (factors_tree x.rest)
unfolding actual_tree primary_tree args_tree expr_tree factor_tree target_tree term_tree
term_roll x = fold-roll-Term t.Actual t.Primary t.Args t.Expr t.Factor t.Target t.Term actual_of primary_of args_of expr_of factor_of target_of term_of x ∙ ap (t.Product (factor_tree x.first)) (factors_rows x.rest)

pub term_out : (x : Term) → term_tree x ≡ t.Product (factor_tree (out-Term x).first) (factors_tree (out-Term x).rest)
unfolding actual_tree primary_tree args_tree expr_tree factor_tree target_tree term_tree
term_out x = fold_out-Term t.Actual t.Primary t.Args t.Expr t.Factor t.Target t.Term actual_of primary_of args_of expr_of factor_of target_of term_of x ∙ ap (t.Product (factor_tree (out-Term x).first)) (factors_rows (out-Term x).rest)

pub ruleset expression_trees = (actual_expr, actual_chan, primary_numeral, primary_quoted, primary_group, primary_name, primary_substring, args_roll, args_out, expr_roll, expr_out, factor_roll, factor_out, target_roll, target_out, term_roll, term_out)

pub expression_equations : ExpressionEquations
expression_equations = record { actual_expr = actual_expr; actual_chan = actual_chan; primary_numeral = primary_numeral; primary_quoted = primary_quoted; primary_group = primary_group; primary_name = primary_name; primary_substring = primary_substring; args_roll = args_roll; args_out = args_out; expr_roll = expr_roll; expr_out = expr_out; factor_roll = factor_roll; factor_out = factor_out; target_roll = target_roll; target_out = target_out; term_roll = term_roll; term_out = term_out }
