-- The last operator tells a kind, or the operand that stands alone.
use Rattle.std.proofs.Common.{◌≡◌, ◌-◌, length, true, false, List, [], ◌∷◌, Option, Some, None, refl, sym, ap, ◌∙◌}
use Rattle.std.specs.Prelude.{is_some}
use native.Mathlib.Numerals.{unary_clauses}
use Rattle.std.specs.Option.{option_map}
use Rattle.std.specs.List.{slice_get}
use Rattle.bas_ast.specs.Tree as t
use Rattle.bas_ast.specs.ExpressionTree.{sign_tree, term_sign_tree, expr_tree, term_tree, factor_tree, primary_tree, terms_tree, factors_tree, primaries_tree}
use Rattle.bas_ast.specs.declared.expression.Sign.{Sign}
use Rattle.bas_ast.specs.declared.expression.TermSign.{TermSign}
use Rattle.bas_ast.specs.declared.expression.FactorSign.{FactorSign}
use Rattle.bas_ast.specs.declared.expression.Primary.{Primary}
use Rattle.bas_ast.specs.declared.expression.Factor.{Factor, out-Factor}
use Rattle.bas_ast.specs.declared.expression.Term.{Term, out-Term}
use Rattle.bas_ast.specs.declared.expression.Expr.{Expr, out-Expr}
use Rattle.bas_ast.proofs.ExpressionTrees.{expr_out, term_out, factor_out}
use Rattle.bas_rules.specs.Kinds.{Kind, is_numeric, sign_kind, expr_kind, terms_kind, term_kind, factor_kind, primary_kind, is_number}

-- the last element of a longer list is that of its rest
later_last : {A : Type 0} → (y z : A) (rest : List A) → slice_get (y ∷ z ∷ rest) (length (y ∷ z ∷ rest) - 1) ≡ slice_get (z ∷ rest) (length (z ∷ rest) - 1)
later_last y z rest = simp unary_clauses refl

last_operator : (before : Kind) (xs : List (TermSign × Term)) (x : TermSign × Term) → Some x ≡ slice_get xs (length xs - 1) → sign_kind (term_sign_tree x.0) ≡ terms_kind before (terms_tree xs)
last_operator before [] x e = let bad : Some x ≡ None = e in absurd cc
last_operator before (y ∷ []) x e = let same : Some x ≡ Some y = e in let eq : x ≡ y = cc in ap (λ z. sign_kind (term_sign_tree z.0)) eq
last_operator before (y ∷ z ∷ rest) x e = last_operator (sign_kind (term_sign_tree y.0)) (z ∷ rest) x (e ∙ later_last y z rest)

no_operator : (xs : List (TermSign × Term)) → None ≡ slice_get xs (length xs - 1) → xs ≡ []
no_operator [] e = refl
no_operator (y ∷ []) e = let bad : None ≡ Some y = e in absurd cc
no_operator (y ∷ z ∷ rest) e = let bad : z ∷ rest ≡ [] = no_operator (z ∷ rest) (e ∙ later_last y z rest) in absurd cc

ends_sum : (sign : Option t.Sign) (first : t.Term) (xs : List (TermSign × Term)) (x : TermSign × Term) → Some x ≡ slice_get xs (length xs - 1) → sign_kind (term_sign_tree x.0) ≡ expr_kind (t.Sum sign first (terms_tree xs))
ends_sum None first xs x e = last_operator (term_kind first) xs x e
ends_sum (Some sign) first xs x e = last_operator _ xs x e

-- an expression with an operator
pub by_operator : (e : Expr) (rest : List (TermSign × Term)) (x : TermSign × Term) → rest ≡ (out-Expr e).rest → Some x ≡ slice_get rest (length rest - 1) → is_numeric (sign_kind (term_sign_tree x.0)) ≡ is_number (expr_tree e)
by_operator e rest x g h =
    ap is_numeric (ends_sum (option_map sign_tree (out-Expr e).sign) (term_tree (out-Expr e).first) rest x h)
    ∙ ap (λ l. is_number (t.Sum (option_map sign_tree (out-Expr e).sign) (term_tree (out-Expr e).first) (terms_tree l))) g
    ∙ ap is_number (sym (expr_out e))

signed : (sign : Option Sign) (first : t.Term) → is_some sign ≡ true → true ≡ is_number (t.Sum (option_map sign_tree sign) first t.NoTerms)
signed None first h = let bad : false ≡ true = h in absurd cc
signed (Some sign) first h = refl

unsigned : (sign : Option Sign) (first : t.Term) → is_some sign ≡ false → is_numeric (term_kind first) ≡ is_number (t.Sum (option_map sign_tree sign) first t.NoTerms)
unsigned None first h = refl
unsigned (Some sign) first h = let bad : true ≡ false = h in absurd cc

alone : (e : Expr) (rest : List (TermSign × Term)) → rest ≡ (out-Expr e).rest → None ≡ slice_get rest (length rest - 1) → is_number (t.Sum (option_map sign_tree (out-Expr e).sign) (term_tree (out-Expr e).first) t.NoTerms) ≡ is_number (expr_tree e)
alone e rest g h = ap (λ l. is_number (t.Sum (option_map sign_tree (out-Expr e).sign) (term_tree (out-Expr e).first) (terms_tree l))) (sym (no_operator rest h) ∙ g) ∙ ap is_number (sym (expr_out e))

-- a term with its sign, and one without
pub by_sign : (e : Expr) (rest : List (TermSign × Term)) → rest ≡ (out-Expr e).rest → None ≡ slice_get rest (length rest - 1) → is_some (out-Expr e).sign ≡ true → true ≡ is_number (expr_tree e)
by_sign e rest g h s = signed (out-Expr e).sign (term_tree (out-Expr e).first) s ∙ alone e rest g h

pub by_term : (e : Expr) (rest : List (TermSign × Term)) → rest ≡ (out-Expr e).rest → None ≡ slice_get rest (length rest - 1) → is_some (out-Expr e).sign ≡ false → is_numeric (term_kind (term_tree (out-Expr e).first)) ≡ is_number (expr_tree e)
by_term e rest g h s = unsigned (out-Expr e).sign (term_tree (out-Expr e).first) s ∙ alone e rest g h

some_factors : (first : t.Factor) (xs : List (FactorSign × Factor)) → (xs ≡ [] → ⊥) → true ≡ is_numeric (term_kind (t.Product first (factors_tree xs)))
some_factors first [] h = absurd (h refl)
some_factors first (x ∷ xs) h = refl

-- a term with operators, and one that is a factor
pub by_product : (x : Term) → ((out-Term x).rest ≡ [] → ⊥) → true ≡ is_numeric (term_kind (term_tree x))
by_product x h = some_factors (factor_tree (out-Term x).first) (out-Term x).rest h ∙ ap (λ y. is_numeric (term_kind y)) (sym (term_out x))

pub by_factor : (x : Term) → (out-Term x).rest ≡ [] → is_numeric (factor_kind (factor_tree (out-Term x).first)) ≡ is_numeric (term_kind (term_tree x))
by_factor x h = ap (λ l. is_numeric (term_kind (t.Product (factor_tree (out-Term x).first) (factors_tree l)))) (sym h) ∙ ap (λ y. is_numeric (term_kind y)) (sym (term_out x))

some_exponents : (base : t.Primary) (xs : List Primary) → (xs ≡ [] → ⊥) → true ≡ is_numeric (factor_kind (t.Power base (primaries_tree xs)))
some_exponents base [] h = absurd (h refl)
some_exponents base (x ∷ xs) h = refl

-- a factor with exponents, and one that is an operand
pub by_power : (x : Factor) → ((out-Factor x).exponents ≡ [] → ⊥) → true ≡ is_numeric (factor_kind (factor_tree x))
by_power x h = some_exponents (primary_tree (out-Factor x).base) (out-Factor x).exponents h ∙ ap (λ y. is_numeric (factor_kind y)) (sym (factor_out x))

pub by_base : (x : Factor) → (out-Factor x).exponents ≡ [] → is_numeric (primary_kind (primary_tree (out-Factor x).base)) ≡ is_numeric (factor_kind (factor_tree x))
by_base x h = ap (λ l. is_numeric (factor_kind (t.Power (primary_tree (out-Factor x).base) (primaries_tree l)))) (sym h) ∙ ap (λ y. is_numeric (factor_kind y)) (sym (factor_out x))
