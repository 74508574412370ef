-- What stands behind an operand hides it.
use Rattle.std.proofs.Common.{◌≡◌, List, [], ◌∷◌, refl, Option, Some, None}
use Rattle.bas_ast.specs.Tree as t
use Rattle.bas_ast.specs.Accessors.{lone_factor, lone_term, lone_primary}
use Rattle.bas_ast.specs.ExpressionTree.{terms_tree, factors_tree, primaries_tree}
use Rattle.bas_ast.specs.declared.expression.TermSign.{TermSign}
use Rattle.bas_ast.specs.declared.expression.FactorSign.{FactorSign}
use Rattle.bas_ast.specs.declared.expression.Primary.{Primary}
use Rattle.bas_ast.specs.declared.expression.Factor.{Factor}
use Rattle.bas_ast.specs.declared.expression.Term.{Term}

pub powers_hide : (base : t.Primary) (xs : List Primary) → (xs ≡ [] → ⊥) → None ≡ lone_factor (t.Power base (primaries_tree xs))
powers_hide base [] h = absurd (h refl)
powers_hide base (x ∷ xs) h = refl

pub factors_hide : (first : t.Factor) (xs : List (FactorSign × Factor)) → (xs ≡ [] → ⊥) → None ≡ lone_term (t.Product first (factors_tree xs))
factors_hide first [] h = absurd (h refl)
factors_hide first (x ∷ xs) h = refl

pub terms_hide : (sign : Option t.Sign) (first : t.Term) (xs : List (TermSign × Term)) → (xs ≡ [] → ⊥) → None ≡ lone_primary (t.Sum sign first (terms_tree xs))
terms_hide sign first [] h = absurd (h refl)
terms_hide None first (x ∷ xs) h = refl
terms_hide (Some _) first (x ∷ xs) h = refl
