-- What was appended for the parts of an expression is the code of the expression.
use Rattle.std.proofs.Common.{◌≡◌, List, [], ◌∷◌, ◌++◌, sym, ap, ◌∙◌}
use Rattle.std.specs.Option.{option_map}
use Rattle.bas_ast.specs.ExpressionTree.{sign_tree, term_sign_tree, factor_sign_tree, expr_tree, term_tree, factor_tree, primary_tree, terms_tree, factors_tree, primaries_tree}
use Rattle.bas_ast.specs.declared.expression.TermSign.{TermSign}
use Rattle.bas_ast.specs.declared.expression.FactorSign.{FactorSign}
use Rattle.bas_ast.specs.declared.expression.Expr.{Expr, out-Expr}
use Rattle.bas_ast.specs.declared.expression.Term.{Term, out-Term}
use Rattle.bas_ast.specs.declared.expression.Factor.{Factor, out-Factor}
use Rattle.bas_ast.specs.declared.expression.Primary.{Primary}
use Rattle.bas_ast.proofs.ExpressionTrees.{expr_out, term_out, factor_out}
use Rattle.bas_mean.specs.World.{Variable}
use Rattle.bas_code.specs.declared.instr.Instr.{Instr}
use Rattle.bas_code.specs.declared.instr.Instr.TheVariants as instr
use Rattle.bas_code.specs.declared.instr.ArithInstr.TheVariants as arith_instr
use Rattle.bas_carry.specs.Codes.{sign_code, term_sign_code, factor_sign_code, expr_code, terms_code, term_code, factors_code, factor_code, exponents_code, primary_code}
use Rattle.bas_genexpr.proofs.Pieces.{two, three, two_less, none_left}

module _ (order : List Variable) where
  pub expr_made : (e : Expr) (first : Term) (rest : List (TermSign × Term)) (a b c d : List Instr) → first ≡ (out-Expr e).first → rest ≡ (out-Expr e).rest → b ≡ a ++ term_code order (term_tree first) → c ≡ b ++ sign_code (option_map sign_tree (out-Expr e).sign) → d ≡ c ++ terms_code order (terms_tree rest) → d ≡ a ++ expr_code order (expr_tree e)
  expr_made e first rest a b c d f g p q r =
      three a b c d _ _ _
      (p ∙ ap (λ x. a ++ term_code order (term_tree x)) f)
      q
      (r ∙ ap (λ x. c ++ terms_code order (terms_tree x)) g)
      ∙ ap (λ x. a ++ expr_code order x) (sym (expr_out e))

  pub term_made : (t : Term) (rest : List (FactorSign × Factor)) (a b c : List Instr) → rest ≡ (out-Term t).rest → b ≡ a ++ factor_code order (factor_tree (out-Term t).first) → c ≡ b ++ factors_code order (factors_tree rest) → c ≡ a ++ term_code order (term_tree t)
  term_made t rest a b c g p q =
      two a b c _ _ p (q ∙ ap (λ x. b ++ factors_code order (factors_tree x)) g)
      ∙ ap (λ x. a ++ term_code order x) (sym (term_out t))

  pub factor_made : (f : Factor) (rest : List Primary) (a b c : List Instr) → rest ≡ (out-Factor f).exponents → b ≡ a ++ primary_code order (primary_tree (out-Factor f).base) → c ≡ b ++ exponents_code order (primaries_tree rest) → c ≡ a ++ factor_code order (factor_tree f)
  factor_made f rest a b c g p q =
      two a b c _ _ p (q ∙ ap (λ x. b ++ exponents_code order (primaries_tree x)) g)
      ∙ ap (λ x. a ++ factor_code order x) (sym (factor_out f))

  pub terms_turn : (left more : List (TermSign × Term)) (x : TermSign × Term) (a b c all : List Instr) → left ≡ x ∷ more → b ≡ a ++ term_code order (term_tree x.1) → c ≡ b ++ term_sign_code (term_sign_tree x.0) → a ++ terms_code order (terms_tree left) ≡ all → c ++ terms_code order (terms_tree more) ≡ all
  terms_turn left more x a b c all e p q t = two_less a b c _ _ _ all p q (ap (λ l. a ++ terms_code order (terms_tree l)) (sym e) ∙ t)

  pub factors_turn : (left more : List (FactorSign × Factor)) (x : FactorSign × Factor) (a b c all : List Instr) → left ≡ x ∷ more → b ≡ a ++ factor_code order (factor_tree x.1) → c ≡ b ++ factor_sign_code (factor_sign_tree x.0) → a ++ factors_code order (factors_tree left) ≡ all → c ++ factors_code order (factors_tree more) ≡ all
  factors_turn left more x a b c all e p q t = two_less a b c _ _ _ all p q (ap (λ l. a ++ factors_code order (factors_tree l)) (sym e) ∙ t)

  pub exponents_turn : (left more : List Primary) (x : Primary) (a b c all : List Instr) → left ≡ x ∷ more → b ≡ a ++ primary_code order (primary_tree x) → c ≡ b ++ instr.Arith arith_instr.Power ∷ [] → a ++ exponents_code order (primaries_tree left) ≡ all → c ++ exponents_code order (primaries_tree more) ≡ all
  exponents_turn left more x a b c all e p q t = two_less a b c _ _ _ all p q (ap (λ l. a ++ exponents_code order (primaries_tree l)) (sym e) ∙ t)

  pub terms_end : (left : List (TermSign × Term)) (a all : List Instr) → left ≡ [] → a ++ terms_code order (terms_tree left) ≡ all → a ≡ all
  terms_end left a all e t = none_left a _ all (ap (λ l. terms_code order (terms_tree l)) e) t

  pub factors_end : (left : List (FactorSign × Factor)) (a all : List Instr) → left ≡ [] → a ++ factors_code order (factors_tree left) ≡ all → a ≡ all
  factors_end left a all e t = none_left a _ all (ap (λ l. factors_code order (factors_tree l)) e) t

  pub exponents_end : (left : List Primary) (a all : List Instr) → left ≡ [] → a ++ exponents_code order (primaries_tree left) ≡ all → a ≡ all
  exponents_end left a all e t = none_left a _ all (ap (λ l. exponents_code order (primaries_tree l)) e) t
