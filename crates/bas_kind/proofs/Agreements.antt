-- Operands agree where nothing stands between them, or where each has its kind.
use Rattle.std.proofs.Common.{◌≡◌, Bool, true, false, ◌&&◌, List, [], ◌∷◌, Some, None, refl, sym, ap, ◌∙◌}
use Rattle.std.specs.Option.{option_map}
use Rattle.bas_ast.specs.Tree as t
use Rattle.bas_ast.specs.ExpressionTree.{sign_tree, expr_tree, term_tree, factor_tree, primary_tree, terms_tree, factors_tree, primaries_tree}
use Rattle.bas_ast.specs.declared.expression.Sign.{Sign}
use Rattle.bas_ast.specs.declared.expression.FactorSign.{FactorSign}
use Rattle.bas_ast.specs.declared.expression.Primary.{Primary}
use Rattle.bas_ast.specs.declared.expression.Factor.{Factor, out-Factor}
use Rattle.bas_ast.specs.declared.expression.Term.{Term, out-Term}
use Rattle.bas_ast.specs.declared.expression.Expr.{Expr, out-Expr}
use Rattle.bas_ast.proofs.ExpressionTrees.{expr_out, term_out, factor_out}
use Rattle.bas_rules.specs.Kinds.{Kind, Numeric, String, is_numeric, terms_agree, expr_agrees, term_kind, factor_kind, primary_kind, term_agrees, factor_agrees, are_numeric_factors, are_numeric_primaries}
use Rattle.bas_kind.specs.Truths.{kind_of}

kind_back : (kind : Kind) → kind_of (is_numeric kind) ≡ kind
kind_back Numeric = refl
kind_back String = refl

-- of two tests the second decides where the first holds, and the first where it does not
second : (a b x : Bool) → (a && b) ≡ x → a ≡ true → b ≡ x
second a b x e h = ap (λ z. z && b) (sym h) ∙ e

first : (a b x : Bool) → (a && b) ≡ x → a ≡ false → a ≡ x
first a b x e h = h ∙ ap (λ z. z && b) (sym h) ∙ e

-- a factor alone
pub alone_in_term : (x : Term) → (out-Term x).rest ≡ [] → true ≡ term_agrees (term_tree x)
alone_in_term x h = ap (λ l. term_agrees (t.Product (factor_tree (out-Term x).first) (factors_tree l))) (sym h) ∙ ap term_agrees (sym (term_out x))

many_factors : (first : t.Factor) (xs : List (FactorSign × Factor)) → (xs ≡ [] → ⊥) → (is_numeric (factor_kind first) && are_numeric_factors (factors_tree xs)) ≡ term_agrees (t.Product first (factors_tree xs))
many_factors first [] h = absurd (h refl)
many_factors first (x ∷ xs) h = refl

factors_agree : (x : Term) → ((out-Term x).rest ≡ [] → ⊥) → (is_numeric (factor_kind (factor_tree (out-Term x).first)) && are_numeric_factors (factors_tree (out-Term x).rest)) ≡ term_agrees (term_tree x)
factors_agree x h = many_factors (factor_tree (out-Term x).first) (out-Term x).rest h ∙ ap term_agrees (sym (term_out x))

-- the factors of a product
pub later_factors : (x : Term) → ((out-Term x).rest ≡ [] → ⊥) → is_numeric (factor_kind (factor_tree (out-Term x).first)) ≡ true → are_numeric_factors (factors_tree (out-Term x).rest) ≡ term_agrees (term_tree x)
later_factors x h p = second _ _ _ (factors_agree x h) p

pub first_factor : (x : Term) → ((out-Term x).rest ≡ [] → ⊥) → is_numeric (factor_kind (factor_tree (out-Term x).first)) ≡ false → is_numeric (factor_kind (factor_tree (out-Term x).first)) ≡ term_agrees (term_tree x)
first_factor x h p = first _ _ _ (factors_agree x h) p

-- a base alone
pub alone_in_factor : (x : Factor) → (out-Factor x).exponents ≡ [] → true ≡ factor_agrees (factor_tree x)
alone_in_factor x h = ap (λ l. factor_agrees (t.Power (primary_tree (out-Factor x).base) (primaries_tree l))) (sym h) ∙ ap factor_agrees (sym (factor_out x))

many_primaries : (base : t.Primary) (xs : List Primary) → (xs ≡ [] → ⊥) → (is_numeric (primary_kind base) && are_numeric_primaries (primaries_tree xs)) ≡ factor_agrees (t.Power base (primaries_tree xs))
many_primaries base [] h = absurd (h refl)
many_primaries base (x ∷ xs) h = refl

exponents_agree : (x : Factor) → ((out-Factor x).exponents ≡ [] → ⊥) → (is_numeric (primary_kind (primary_tree (out-Factor x).base)) && are_numeric_primaries (primaries_tree (out-Factor x).exponents)) ≡ factor_agrees (factor_tree x)
exponents_agree x h = many_primaries (primary_tree (out-Factor x).base) (out-Factor x).exponents h ∙ ap factor_agrees (sym (factor_out x))

-- a base and its exponents
pub exponents : (x : Factor) → ((out-Factor x).exponents ≡ [] → ⊥) → is_numeric (primary_kind (primary_tree (out-Factor x).base)) ≡ true → are_numeric_primaries (primaries_tree (out-Factor x).exponents) ≡ factor_agrees (factor_tree x)
exponents x h p = second _ _ _ (exponents_agree x h) p

pub base : (x : Factor) → ((out-Factor x).exponents ≡ [] → ⊥) → is_numeric (primary_kind (primary_tree (out-Factor x).base)) ≡ false → is_numeric (primary_kind (primary_tree (out-Factor x).base)) ≡ factor_agrees (factor_tree x)
base x h p = first _ _ _ (exponents_agree x h) p

signed_terms : (e : Expr) (sign : Sign) → (out-Expr e).sign ≡ Some sign → (is_numeric (term_kind (term_tree (out-Expr e).first)) && terms_agree (kind_of true) (terms_tree (out-Expr e).rest)) ≡ expr_agrees (expr_tree e)
signed_terms e sign h = ap (λ o. expr_agrees (t.Sum (option_map sign_tree o) (term_tree (out-Expr e).first) (terms_tree (out-Expr e).rest))) (sym h) ∙ ap expr_agrees (sym (expr_out e))

-- a term behind a sign, and the terms behind it
pub behind_signed : (e : Expr) (sign : Sign) → (out-Expr e).sign ≡ Some sign → is_numeric (term_kind (term_tree (out-Expr e).first)) ≡ true → terms_agree (kind_of true) (terms_tree (out-Expr e).rest) ≡ expr_agrees (expr_tree e)
behind_signed e sign h p = second _ _ _ (signed_terms e sign h) p

pub signed_term : (e : Expr) (sign : Sign) → (out-Expr e).sign ≡ Some sign → is_numeric (term_kind (term_tree (out-Expr e).first)) ≡ false → is_numeric (term_kind (term_tree (out-Expr e).first)) ≡ expr_agrees (expr_tree e)
signed_term e sign h p = first _ _ _ (signed_terms e sign h) p

bare_terms : (e : Expr) → (out-Expr e).sign ≡ None → terms_agree (term_kind (term_tree (out-Expr e).first)) (terms_tree (out-Expr e).rest) ≡ expr_agrees (expr_tree e)
bare_terms e h = ap (λ o. expr_agrees (t.Sum (option_map sign_tree o) (term_tree (out-Expr e).first) (terms_tree (out-Expr e).rest))) (sym h) ∙ ap expr_agrees (sym (expr_out e))

-- a term without a sign, alone and with others
pub alone_in_sum : (e : Expr) → (out-Expr e).sign ≡ None → (out-Expr e).rest ≡ [] → true ≡ expr_agrees (expr_tree e)
alone_in_sum e h g = ap (λ l. terms_agree (term_kind (term_tree (out-Expr e).first)) (terms_tree l)) (sym g) ∙ bare_terms e h

pub unsigned_terms : (e : Expr) → (out-Expr e).sign ≡ None → terms_agree (kind_of (is_numeric (term_kind (term_tree (out-Expr e).first)))) (terms_tree (out-Expr e).rest) ≡ expr_agrees (expr_tree e)
unsigned_terms e h = ap (λ k. terms_agree k (terms_tree (out-Expr e).rest)) (kind_back (term_kind (term_tree (out-Expr e).first))) ∙ bare_terms e h
