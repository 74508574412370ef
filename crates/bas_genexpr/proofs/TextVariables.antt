-- The variables of a part are those of its parts, in order.
use Rattle.std.proofs.Common.{◌≡◌, List, ◌∷◌, ◌++◌, sym, ap, ◌∙◌}
use Rattle.bas_ast.specs.ExpressionTree.{expr_tree, term_tree, factor_tree, primary_tree, terms_tree, factors_tree, primaries_tree}
use Rattle.bas_ast.specs.ConditionTree.{cond_tree, conj_tree, test_tree, conjs_tree, tests_tree}
use Rattle.bas_ast.specs.declared.expression.TermSign.{TermSign}
use Rattle.bas_ast.specs.declared.expression.FactorSign.{FactorSign}
use Rattle.bas_ast.specs.declared.expression.Expr.{Expr, out-Expr}
use Rattle.bas_ast.specs.declared.expression.Term.{Term, out-Term}
use Rattle.bas_ast.specs.declared.expression.Factor.{Factor, out-Factor}
use Rattle.bas_ast.specs.declared.expression.Primary.{Primary}
use Rattle.bas_ast.specs.declared.condition.Cond.{Cond, out-Cond}
use Rattle.bas_ast.specs.declared.condition.Conj.{Conj, out-Conj}
use Rattle.bas_ast.specs.declared.condition.Test.{Test}
use Rattle.bas_ast.proofs.ExpressionTrees.{expr_out, term_out, factor_out}
use Rattle.bas_ast.proofs.ConditionTrees.{cond_out, conj_out}
use Rattle.bas_carry.specs.Slots.{in_expr, in_terms, in_term, in_factors, in_factor, in_primaries, in_primary, in_cond, in_conjs, in_conj, in_tests, in_test}

pub expr_parts : (e : Expr) (first : Term) (rest : List (TermSign × Term)) → first ≡ (out-Expr e).first → rest ≡ (out-Expr e).rest → in_term (term_tree first) ++ in_terms (terms_tree rest) ≡ in_expr (expr_tree e)
expr_parts e first rest p q = ap (λ x. in_term (term_tree x) ++ in_terms (terms_tree rest)) p ∙ ap (λ x. in_term (term_tree (out-Expr e).first) ++ in_terms (terms_tree x)) q ∙ ap in_expr (sym (expr_out e))

pub term_parts : (t : Term) (rest : List (FactorSign × Factor)) → rest ≡ (out-Term t).rest → in_factor (factor_tree (out-Term t).first) ++ in_factors (factors_tree rest) ≡ in_term (term_tree t)
term_parts t rest q = ap (λ x. in_factor (factor_tree (out-Term t).first) ++ in_factors (factors_tree x)) q ∙ ap in_term (sym (term_out t))

pub factor_parts : (f : Factor) (rest : List Primary) → rest ≡ (out-Factor f).exponents → in_primary (primary_tree (out-Factor f).base) ++ in_primaries (primaries_tree rest) ≡ in_factor (factor_tree f)
factor_parts f rest q = ap (λ x. in_primary (primary_tree (out-Factor f).base) ++ in_primaries (primaries_tree x)) q ∙ ap in_factor (sym (factor_out f))

pub cond_parts : (c : Cond) (rest : List Conj) → rest ≡ (out-Cond c).rest → in_conj (conj_tree (out-Cond c).first) ++ in_conjs (conjs_tree rest) ≡ in_cond (cond_tree c)
cond_parts c rest q = ap (λ x. in_conj (conj_tree (out-Cond c).first) ++ in_conjs (conjs_tree x)) q ∙ ap in_cond (sym (cond_out c))

pub conj_parts : (c : Conj) (rest : List Test) → rest ≡ (out-Conj c).rest → in_test (test_tree (out-Conj c).first) ++ in_tests (tests_tree rest) ≡ in_conj (conj_tree c)
conj_parts c rest q = ap (λ x. in_test (test_tree (out-Conj c).first) ++ in_tests (tests_tree x)) q ∙ ap in_conj (sym (conj_out c))

pub terms_left : (left more : List (TermSign × Term)) (x : TermSign × Term) → left ≡ x ∷ more → in_term (term_tree x.1) ++ in_terms (terms_tree more) ≡ in_terms (terms_tree left)
terms_left left more x e = ap (λ l. in_terms (terms_tree l)) (sym e)

pub factors_left : (left more : List (FactorSign × Factor)) (x : FactorSign × Factor) → left ≡ x ∷ more → in_factor (factor_tree x.1) ++ in_factors (factors_tree more) ≡ in_factors (factors_tree left)
factors_left left more x e = ap (λ l. in_factors (factors_tree l)) (sym e)

pub exponents_left : (left more : List Primary) (x : Primary) → left ≡ x ∷ more → in_primary (primary_tree x) ++ in_primaries (primaries_tree more) ≡ in_primaries (primaries_tree left)
exponents_left left more x e = ap (λ l. in_primaries (primaries_tree l)) (sym e)

pub conjs_left : (left more : List Conj) (x : Conj) → left ≡ x ∷ more → in_conj (conj_tree x) ++ in_conjs (conjs_tree more) ≡ in_conjs (conjs_tree left)
conjs_left left more x e = ap (λ l. in_conjs (conjs_tree l)) (sym e)

pub tests_left : (left more : List Test) (x : Test) → left ≡ x ∷ more → in_test (test_tree x) ++ in_tests (tests_tree more) ≡ in_tests (tests_tree left)
tests_left left more x e = ap (λ l. in_tests (tests_tree l)) (sym e)
