-- Sizes that are counted to one more than the limit.
use Rattle.std.proofs.Common.{◌≡◌, ℕ, ◌+◌, ◌≤◌, List, sym, ap, ◌∙◌, arith}
use Rattle.std.specs.Option.{option_map}
use Rattle.bas_ast.specs.ExpressionTree.{sign_tree, expr_tree, term_tree, factor_tree, primary_tree, terms_tree, factors_tree, primaries_tree}
use Rattle.bas_ast.specs.declared.expression.TermSign.{TermSign}
use Rattle.bas_ast.specs.declared.expression.FactorSign.{FactorSign}
use Rattle.bas_ast.specs.declared.expression.Expr.{Expr, out-Expr}
use Rattle.bas_ast.specs.declared.expression.Term.{Term, out-Term}
use Rattle.bas_ast.specs.declared.expression.Factor.{Factor, out-Factor}
use Rattle.bas_ast.specs.declared.expression.Primary.{Primary}
use Rattle.bas_ast.proofs.ExpressionTrees.{expr_out, term_out, factor_out}
use Rattle.bas_carry.specs.Codes.{sign_size, expr_size, terms_size, term_size, factors_size, factor_size, exponents_size, primary_size}
use Rattle.bas_genexpr.specs.Counts.{counted}

pub counted_two : (x y a b n : ℕ) → a ≡ counted x → b ≡ counted y → n ≡ counted (a + b) → n ≡ counted (x + y)
counted_two x y a b n p q r = omega arith

pub counted_three : (x y z a f b n : ℕ) → a ≡ counted x → f ≡ counted (a + y) → b ≡ counted z → n ≡ counted (f + b) → n ≡ counted (x + (y + z))
counted_three x y z a f b n p q r s = omega arith

-- a piece of what was left, and an operator behind it
pub counted_turn : (m x y z a f n all : ℕ) → a ≡ counted x → f ≡ counted (m + a) → n ≡ counted (f + y) → counted (m + (x + (y + z))) ≡ counted all → counted (n + z) ≡ counted all
counted_turn m x y z a f n all p q r t = omega arith

pub counted_one_less : (m x z a n all : ℕ) → a ≡ counted x → n ≡ counted (m + a) → counted (m + (x + z)) ≡ counted all → counted (n + z) ≡ counted all
counted_one_less m x z a n all p q t = omega arith

pub counted_end : (m z all : ℕ) → m ≤ 65536 → z ≡ 0 → counted (m + z) ≡ counted all → m ≡ counted all
counted_end m z all h e t = omega arith

pub expr_counted : (e : Expr) (first : Term) (rest : List (TermSign × Term)) (a s f b n : ℕ) → first ≡ (out-Expr e).first → rest ≡ (out-Expr e).rest → a ≡ counted (term_size (term_tree first)) → s ≡ sign_size (option_map sign_tree (out-Expr e).sign) → f ≡ counted (a + s) → b ≡ counted (terms_size (terms_tree rest)) → n ≡ counted (f + b) → n ≡ counted (expr_size (expr_tree e))
expr_counted e first rest a s f b n g h p q r t u =
    counted_three (term_size (term_tree (out-Expr e).first)) (sign_size (option_map sign_tree (out-Expr e).sign)) (terms_size (terms_tree (out-Expr e).rest)) a f b n
    (p ∙ ap (λ x. counted (term_size (term_tree x))) g)
    (r ∙ ap (λ x. counted (a + x)) q)
    (t ∙ ap (λ x. counted (terms_size (terms_tree x))) h)
    u
    ∙ ap (λ x. counted (expr_size x)) (sym (expr_out e))

pub term_counted : (t : Term) (rest : List (FactorSign × Factor)) (a b n : ℕ) → rest ≡ (out-Term t).rest → a ≡ counted (factor_size (factor_tree (out-Term t).first)) → b ≡ counted (factors_size (factors_tree rest)) → n ≡ counted (a + b) → n ≡ counted (term_size (term_tree t))
term_counted t rest a b n h p q r =
    counted_two (factor_size (factor_tree (out-Term t).first)) (factors_size (factors_tree (out-Term t).rest)) a b n p (q ∙ ap (λ x. counted (factors_size (factors_tree x))) h) r
    ∙ ap (λ x. counted (term_size x)) (sym (term_out t))

pub factor_counted : (f : Factor) (rest : List Primary) (a b n : ℕ) → rest ≡ (out-Factor f).exponents → a ≡ counted (primary_size (primary_tree (out-Factor f).base)) → b ≡ counted (exponents_size (primaries_tree rest)) → n ≡ counted (a + b) → n ≡ counted (factor_size (factor_tree f))
factor_counted f rest a b n h p q r =
    counted_two (primary_size (primary_tree (out-Factor f).base)) (exponents_size (primaries_tree (out-Factor f).exponents)) a b n p (q ∙ ap (λ x. counted (exponents_size (primaries_tree x))) h) r
    ∙ ap (λ x. counted (factor_size x)) (sym (factor_out f))
