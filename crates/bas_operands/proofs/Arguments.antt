-- Arguments in a row.
use Rattle.std.proofs.Common.{◌≡◌, ℕ, zero, suc, ◌≤◌, leb, true, false, List, [], ◌∷◌, length, map, get_or, drop, refl, ap, sym, ◌∙◌, arith}
use Rattle.std.proofs.lemmas.Bool.Decides.{nat_tests}
use Rattle.std.proofs.lemmas.List.{at_drop_all}
use Rattle.bas_ast.specs.Tree as t
use Rattle.bas_ast.specs.ExpressionTree.{actual_tree, actuals_tree}
use Rattle.bas_ast.specs.declared.expression.Actual.{Actual}
use Rattle.bas_face.specs.declared.shape.Shape.{Shape}
use Rattle.bas_scope.specs.Senses.{Senses, Shaped, shape_written}
use Rattle.bas_scope.specs.declared.written.WrittenShape.{WrittenShape}
use Rattle.bas_rules.specs.Kinds.{actuals_of}
use Rattle.bas_rules.specs.Calling.{lacks_dimension, element_of, referred_with, all_fit}

pub actuals_mapped : (xs : List Actual) → actuals_of (actuals_tree xs) ≡ map actual_tree xs
actuals_mapped [] = refl
actuals_mapped (x ∷ xs) = ap (λ l. actual_tree x ∷ l) (actuals_mapped xs)

-- one argument
pub one_alone : (s : Senses) (xs : List Actual) (x : Actual) → length xs ≡ 1 → x ≡ get_or xs 0 x
    → lacks_dimension s (actual_tree x ∷ []) ≡ lacks_dimension s (map actual_tree xs)
one_alone s [] x a e = absurd (omega arith)
one_alone s (y ∷ []) x a e = ap (λ z. lacks_dimension s (actual_tree z ∷ [])) e
one_alone s (y ∷ z ∷ zs) x a e = absurd (omega arith)

-- a variable by itself
pub refers_whole : (xs : List Actual) (value shape : Shape) → xs ≡ [] → shape ≡ referred_with (actuals_tree xs) value (Shaped shape)
refers_whole [] value shape e = refl
refers_whole (x ∷ xs) value shape e = let bad : x ∷ xs ≡ [] = e in absurd cc

-- an element
pub refers_element : (xs : List Actual) (value shape : Shape) → (xs ≡ [] → ⊥) → element_of shape ≡ referred_with (actuals_tree xs) value (Shaped shape)
refers_element [] value shape h = absurd (h refl)
refers_element (x ∷ xs) value shape h = refl

le_zero : (n : ℕ) → leb 0 n ≡ true
le_zero n = grind (arith, nat_tests)

le_suc : (m n : ℕ) → leb (suc m) (suc n) ≡ leb m n
le_suc m n = grind (arith, nat_tests)

not_le : (m : ℕ) → leb (suc m) 0 ≡ false
not_le m = grind (arith, nat_tests)

-- no formal is left where there are no more than arguments
none_left : (formals : List WrittenShape) (n : ℕ) → leb (length formals) n ≡ all_fit [] (map shape_written (drop n formals))
none_left [] zero = le_zero 0
none_left [] (suc n) = le_zero (suc n)
none_left (f ∷ fs) zero = not_le (length fs)
none_left (f ∷ fs) (suc n) = le_suc (length fs) n ∙ none_left fs n

-- the end of a loop over arguments and formals
pub all_passed : (passed : t.Actual → Shape) (xs : List Actual) (formals : List WrittenShape) (i : ℕ) → i ≤ length xs → length xs ≤ i
    → leb (length formals) (length xs) ≡ all_fit (map passed (map actual_tree (drop i xs))) (map shape_written (drop i formals))
all_passed passed xs formals i a b =
    let same : i ≡ length xs = omega (arith, a, b) in
    rw same (none_left formals (length xs) ∙ sym (at_drop_all (λ l. all_fit (map passed (map actual_tree l)) (map shape_written (drop (length xs) formals))) xs (length xs) (omega arith)))
