-- The names of each layer of an expression, by those of its parts.
use Rattle.std.proofs.Common.{◌≡◌, ℕ, List, [], ◌∷◌, ◌++◌, Some, None, refl}
use Rattle.bas_ast.specs.Tree as t
use Rattle.bas_ast.specs.ExpressionTree.{expr_tree, term_tree, terms_tree, factor_tree, factors_tree, primary_tree, primaries_tree, args_tree, actuals_tree, target_tree, exprs_tree}
use Rattle.bas_ast.specs.declared.expression.TermSign.{TermSign}
use Rattle.bas_ast.specs.declared.expression.FactorSign.{FactorSign}
use Rattle.bas_ast.specs.declared.expression.Actual.{Actual}
use Rattle.bas_ast.specs.declared.expression.Args.{Args, out-Args}
use Rattle.bas_ast.specs.declared.expression.Primary.{Primary}
use Rattle.bas_ast.specs.declared.expression.Expr.{Expr, out-Expr}
use Rattle.bas_ast.specs.declared.expression.Term.{Term, out-Term}
use Rattle.bas_ast.specs.declared.expression.Factor.{Factor, out-Factor}
use Rattle.bas_ast.specs.declared.expression.Target.{Target, out-Target}
use Rattle.bas_ast.proofs.ExpressionTrees.{expr_out, term_out, factor_out, args_out, target_out}
use Rattle.bas_scope.specs.Nodes.{expr_nodes, term_nodes, terms_nodes, factor_nodes, factors_nodes, primary_nodes, primaries_nodes, args_nodes, actual_nodes, target_nodes, exprs_nodes}
use Rattle.bas_uses.specs.Uses.{bare_names}
use Rattle.bas_uses.proofs.Appending.{two, three}

pub expr_uses : (x : Expr) (first : Term) (rest : List (TermSign × Term)) (a b c : List (List ℕ)) → first ≡ (out-Expr x).first → rest ≡ (out-Expr x).rest
    → b ≡ a ++ bare_names (term_nodes (term_tree first)) → c ≡ b ++ bare_names (terms_nodes (terms_tree rest)) → c ≡ a ++ bare_names (expr_nodes (expr_tree x))
unfolding bare_names
expr_uses x first rest a b c ef er p q = rw (expr_out x, ← ef, ← er) (two a b c (term_nodes (term_tree first)) (terms_nodes (terms_tree rest)) p q)

pub term_uses : (x : Term) (rest : List (FactorSign × Factor)) (a b c : List (List ℕ)) → rest ≡ (out-Term x).rest
    → b ≡ a ++ bare_names (factor_nodes (factor_tree (out-Term x).first)) → c ≡ b ++ bare_names (factors_nodes (factors_tree rest))
    → c ≡ a ++ bare_names (term_nodes (term_tree x))
unfolding bare_names
term_uses x rest a b c er p q = rw (term_out x, ← er) (two a b c (factor_nodes (factor_tree (out-Term x).first)) (factors_nodes (factors_tree rest)) p q)

pub factor_uses : (x : Factor) (rest : List Primary) (a b c : List (List ℕ)) → rest ≡ (out-Factor x).exponents
    → b ≡ a ++ bare_names (primary_nodes (primary_tree (out-Factor x).base)) → c ≡ b ++ bare_names (primaries_nodes (primaries_tree rest))
    → c ≡ a ++ bare_names (factor_nodes (factor_tree x))
unfolding bare_names
factor_uses x rest a b c er p q = rw (factor_out x, ← er) (two a b c (primary_nodes (primary_tree (out-Factor x).base)) (primaries_nodes (primaries_tree rest)) p q)

pub substring_uses : (target : t.Target) (first last : t.Expr) (a b c d : List (List ℕ)) → b ≡ a ++ bare_names (target_nodes target)
    → c ≡ b ++ bare_names (expr_nodes first) → d ≡ c ++ bare_names (expr_nodes last) → d ≡ a ++ bare_names (primary_nodes (t.Substring target first last))
unfolding bare_names
substring_uses target first last a b c d p q r = three a b c d (target_nodes target) (expr_nodes first) (expr_nodes last) p q r

-- a name alone
pub name_uses : (name : List ℕ) (x : Args) (a b : List (List ℕ)) → (out-Args x).actuals ≡ [] → b ≡ a ++ name ∷ []
    → b ≡ a ++ bare_names (primary_nodes (t.Named name (args_tree x)))
unfolding bare_names
name_uses name x a b e p = rw (args_out x, e) p

args_hide : (name : List ℕ) (xs : List Actual) → (xs ≡ [] → ⊥) → bare_names (args_nodes (actuals_tree xs)) ≡ bare_names (primary_nodes (t.Named name (actuals_tree xs)))
unfolding bare_names
args_hide name [] h = absurd (h refl)
args_hide name (x ∷ xs) h = refl

-- a name with arguments
pub call_uses : (name : List ℕ) (x : Args) (xs : List Actual) → xs ≡ (out-Args x).actuals → ((out-Args x).actuals ≡ [] → ⊥)
    → bare_names (args_nodes (actuals_tree xs)) ≡ bare_names (primary_nodes (t.Named name (args_tree x)))
call_uses name x xs is h = rw (is, args_out x) (args_hide name (out-Args x).actuals h)

-- a variable
pub variable_uses : (x : Target) (a b : List (List ℕ)) → (out-Target x).subscripts ≡ [] → b ≡ a ++ (out-Target x).name ∷ []
    → b ≡ a ++ bare_names (target_nodes (target_tree x))
unfolding bare_names
variable_uses x a b e p = rw (target_out x, e) p

subscripts_hide : (name : List ℕ) (xs : List Expr) → (xs ≡ [] → ⊥) → bare_names (exprs_nodes (exprs_tree xs)) ≡ bare_names (target_nodes (t.Variable name (exprs_tree xs)))
unfolding bare_names
subscripts_hide name [] h = absurd (h refl)
subscripts_hide name (x ∷ xs) h = refl

-- an element
pub element_uses : (x : Target) (xs : List Expr) → xs ≡ (out-Target x).subscripts → ((out-Target x).subscripts ≡ [] → ⊥)
    → bare_names (exprs_nodes (exprs_tree xs)) ≡ bare_names (target_nodes (target_tree x))
element_uses x xs is h = rw (is, target_out x) (subscripts_hide (out-Target x).name (out-Target x).subscripts h)

-- an argument that is passed whole is used as it is in an expression
pub argument_uses : (e : t.Expr) → bare_names (expr_nodes e) ≡ bare_names (actual_nodes (t.Argument e))
unfolding bare_names
argument_uses (t.Sum None (t.Product (t.Power (t.Numeric numeral) t.NoPrimaries) t.NoFactors) t.NoTerms) = refl
argument_uses (t.Sum None (t.Product (t.Power (t.Quoted text) t.NoPrimaries) t.NoFactors) t.NoTerms) = refl
argument_uses (t.Sum None (t.Product (t.Power (t.Group expr) t.NoPrimaries) t.NoFactors) t.NoTerms) = refl
argument_uses (t.Sum None (t.Product (t.Power (t.Named name t.NoArgs) t.NoPrimaries) t.NoFactors) t.NoTerms) = refl
argument_uses (t.Sum None (t.Product (t.Power (t.Named name (t.MoreArgs actual rest)) t.NoPrimaries) t.NoFactors) t.NoTerms) = refl
argument_uses (t.Sum None (t.Product (t.Power (t.Substring target first last) t.NoPrimaries) t.NoFactors) t.NoTerms) = refl
argument_uses (t.Sum None (t.Product (t.Power base (t.MorePrimaries primary more)) t.NoFactors) t.NoTerms) = refl
argument_uses (t.Sum None (t.Product first (t.MoreFactors sign factor more)) t.NoTerms) = refl
argument_uses (t.Sum (Some s) first t.NoTerms) = refl
argument_uses (t.Sum s first (t.MoreTerms sign term more)) = refl
