-- The faults of each layer of an expression, by the faults of its parts.
use Rattle.std.proofs.Common.{◌≡◌, ℕ, List, ◌∷◌, ◌++◌, Option, Some, None, refl, ap, sym, ◌∙◌}
use Rattle.bas_ast.specs.Tree as t
use Rattle.bas_ast.specs.ExpressionTree.{expr_tree, term_tree, terms_tree, factor_tree, factors_tree, primary_tree, primaries_tree, args_tree, actuals_tree, target_tree, exprs_tree}
use Rattle.bas_ast.specs.declared.expression.TermSign.{TermSign}
use Rattle.bas_ast.specs.declared.expression.FactorSign.{FactorSign}
use Rattle.bas_ast.specs.declared.expression.Actual.{Actual}
use Rattle.bas_ast.specs.declared.expression.Args.{Args, out-Args}
use Rattle.bas_ast.specs.declared.expression.Primary.{Primary}
use Rattle.bas_ast.specs.declared.expression.Expr.{Expr, out-Expr}
use Rattle.bas_ast.specs.declared.expression.Term.{Term, out-Term}
use Rattle.bas_ast.specs.declared.expression.Factor.{Factor, out-Factor}
use Rattle.bas_ast.specs.declared.expression.Target.{Target, out-Target}
use Rattle.bas_ast.proofs.ExpressionTrees.{expr_out, term_out, factor_out, args_out, target_out}
use Rattle.bas_scope.specs.Nodes.{Node, OfExpr, OfTerm, OfFactor, OfPrimary, OfTarget, OfWhole, OfCall, expr_nodes, term_nodes, terms_nodes, factor_nodes, factors_nodes, primary_nodes, primaries_nodes, args_nodes, target_nodes, exprs_nodes, whole_or}
use Rattle.bas_scope.specs.Senses.{Senses}
use Rattle.bas_operands.specs.Operands.{node_fault, nodes_fault, least}
use Rattle.bas_operands.specs.Whole.{name_alone}
use Rattle.bas_operands.proofs.Rows.{fault_first, fault_both, fault_parts, fault_alone}
use Rattle.bas_operands.proofs.NamesAlone.{whole_alone}

pub expr_is : (s : Senses) (x : Expr) (first : Term) (rest : List (TermSign × Term)) (a b c : Option ℕ)
    → first ≡ (out-Expr x).first → rest ≡ (out-Expr x).rest → a ≡ node_fault s (OfExpr (expr_tree x))
    → b ≡ nodes_fault s (term_nodes (term_tree first)) → c ≡ nodes_fault s (terms_nodes (terms_tree rest))
    → least a (least b c) ≡ nodes_fault s (expr_nodes (expr_tree x))
expr_is s x first rest a b c ef er ea eb ec = rw (ea, eb, ec, ef, er, expr_out x) (sym (fault_parts s _ _ _))

pub term_is : (s : Senses) (x : Term) (rest : List (FactorSign × Factor)) (a b c : Option ℕ)
    → rest ≡ (out-Term x).rest → a ≡ node_fault s (OfTerm (term_tree x))
    → b ≡ nodes_fault s (factor_nodes (factor_tree (out-Term x).first)) → c ≡ nodes_fault s (factors_nodes (factors_tree rest))
    → least a (least b c) ≡ nodes_fault s (term_nodes (term_tree x))
term_is s x rest a b c er ea eb ec = rw (ea, eb, ec, er, term_out x) (sym (fault_parts s _ _ _))

pub factor_is : (s : Senses) (x : Factor) (rest : List Primary) (a b c : Option ℕ)
    → rest ≡ (out-Factor x).exponents → a ≡ node_fault s (OfFactor (factor_tree x))
    → b ≡ nodes_fault s (primary_nodes (primary_tree (out-Factor x).base)) → c ≡ nodes_fault s (primaries_nodes (primaries_tree rest))
    → least a (least b c) ≡ nodes_fault s (factor_nodes (factor_tree x))
factor_is s x rest a b c er ea eb ec = rw (ea, eb, ec, er, factor_out x) (sym (fault_parts s _ _ _))

pub numeral_is : (s : Senses) (numeral : t.Numeral) → None ≡ nodes_fault s (primary_nodes (t.Numeric numeral))
unfolding nodes_fault
numeral_is s numeral = refl

pub quoted_is : (s : Senses) (text : List ℕ) → None ≡ nodes_fault s (primary_nodes (t.Quoted text))
unfolding nodes_fault
quoted_is s text = refl

pub group_is : (s : Senses) (expr : t.Expr) → nodes_fault s (expr_nodes expr) ≡ nodes_fault s (primary_nodes (t.Group expr))
unfolding nodes_fault
group_is s expr = refl

pub name_is : (s : Senses) (name : List ℕ) (x : Args) (xs : List Actual) (a b : Option ℕ) → xs ≡ (out-Args x).actuals
    → a ≡ node_fault s (OfPrimary (t.Named name (actuals_tree xs))) → b ≡ nodes_fault s (args_nodes (actuals_tree xs))
    → least a b ≡ nodes_fault s (primary_nodes (t.Named name (args_tree x)))
name_is s name x xs a b is ea eb = rw (ea, eb, is, args_out x) (sym (fault_first s _ _))

pub call_parts : (s : Senses) (name : List ℕ) (x : Args) (xs : List Actual) (a b : Option ℕ) → xs ≡ (out-Args x).actuals
    → a ≡ node_fault s (OfCall name (actuals_tree xs)) → b ≡ nodes_fault s (args_nodes (actuals_tree xs))
    → least a b ≡ nodes_fault s (OfCall name (args_tree x) ∷ args_nodes (args_tree x))
call_parts s name x xs a b is ea eb = rw (ea, eb, is, args_out x) (sym (fault_first s _ _))

pub substring_parts : (s : Senses) (target : t.Target) (first last : t.Expr) (a b c d : Option ℕ)
    → a ≡ node_fault s (OfPrimary (t.Substring target first last)) → b ≡ nodes_fault s (target_nodes target)
    → c ≡ nodes_fault s (expr_nodes first) → d ≡ nodes_fault s (expr_nodes last)
    → least a (least b (least c d)) ≡ nodes_fault s (primary_nodes (t.Substring target first last))
substring_parts s target first last a b c d ea eb ec ed =
    rw (ea, eb, ec, ed)
    (sym (fault_parts s (OfPrimary (t.Substring target first last)) (target_nodes target) (expr_nodes first ++ expr_nodes last)
    ∙ ap (λ o. least (node_fault s (OfPrimary (t.Substring target first last))) (least (nodes_fault s (target_nodes target)) o)) (fault_both s (expr_nodes first) (expr_nodes last))))

pub target_parts : (s : Senses) (x : Target) (xs : List Expr) (a b : Option ℕ) → xs ≡ (out-Target x).subscripts
    → a ≡ node_fault s (OfTarget (target_tree x)) → b ≡ nodes_fault s (exprs_nodes (exprs_tree xs))
    → least a b ≡ nodes_fault s (target_nodes (target_tree x))
target_parts s x xs a b is ea eb = rw (ea, eb, is, target_out x) (sym (fault_first s _ _))

-- a name that is passed whole
pub whole_is : (s : Senses) (p : Option t.Primary) (others : List Node) (name : List ℕ) (a : Option ℕ) → Some name ≡ name_alone p
    → a ≡ node_fault s (OfWhole (t.Named name t.NoArgs)) → a ≡ nodes_fault s (whole_or p others)
whole_is s p others name a is ea = rw (ea, whole_alone p others, ← is) (sym (fault_alone s (OfWhole (t.Named name t.NoArgs))))

-- any other argument
pub other_is : (s : Senses) (p : Option t.Primary) (others : List Node) → None ≡ name_alone p
    → nodes_fault s others ≡ nodes_fault s (whole_or p others)
other_is s p others is = rw (whole_alone p others, ← is) refl
