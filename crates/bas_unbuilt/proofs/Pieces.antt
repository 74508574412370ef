-- What is built is so in all its pieces.
use Rattle.std.proofs.Common.{◌≡◌, ℕ, suc, ◌+◌, ◌<◌, ◌≤◌, ◌==◌, Bool, true, false, ◌&&◌, List, [], ◌∷◌, length, refl, sym, ap, ◌∙◌, arith, add-one, drop, drop-cons, get_or}
use Rattle.std.proofs.Math.Dec.{eqb-suc-zero}
use Rattle.bas_ast.specs.Tree as t
use Rattle.bas_ast.specs.ExpressionTree.{actuals_tree, exprs_tree, args_tree, target_tree}
use Rattle.bas_ast.specs.declared.expression.Actual.{Actual}
use Rattle.bas_ast.specs.declared.expression.Args.{Args, out-Args}
use Rattle.bas_ast.specs.declared.expression.Expr.{Expr}
use Rattle.bas_ast.specs.declared.expression.Target.{Target, out-Target}
use Rattle.bas_ast.proofs.ExpressionTrees.{args_out, target_out}
use Rattle.bas_mean.specs.Built.{is_built_name, is_numeric_name, are_built_targets}

pub and_then : (a b x y : Bool) → a ≡ x → a ≡ true → b ≡ y → b ≡ (x && y)
and_then a b x y p t q = q ∙ ap (λ z. z && y) (sym t ∙ p)

pub and_else : (a x y : Bool) → a ≡ x → a ≡ false → a ≡ (x && y)
and_else a x y p f = f ∙ ap (λ z. z && y) (sym f ∙ p)

-- what is left at a turn of a loop
pub turn : {A : Type 0} → (xs : List A) (i : ℕ) (x : A) → i < length xs → x ≡ get_or xs i x → drop i xs ≡ x ∷ drop (i + 1) xs
turn xs i x h e = rw (add-one, drop-cons xs i x, h) (ap (λ y. y ∷ drop (suc i) xs) (sym e))

no_arguments : (name : List ℕ) (xs : List Actual) → (length xs == 0) ≡ true → is_numeric_name name ≡ is_built_name name (actuals_tree xs)
no_arguments name [] e = refl
no_arguments name (x ∷ xs) e = let bad : false ≡ true = sym (eqb-suc-zero (length xs)) ∙ e in absurd cc

some_arguments : (name : List ℕ) (xs : List Actual) → (length xs == 0) ≡ false → false ≡ is_built_name name (actuals_tree xs)
some_arguments name [] e = let bad : true ≡ false = e in absurd cc
some_arguments name (x ∷ xs) e = refl

pub name_alone : (name : List ℕ) (args : Args) (xs : List Actual) (b n : Bool) → xs ≡ (out-Args args).actuals → b ≡ (length xs == 0) → b ≡ true → n ≡ is_numeric_name name → n ≡ is_built_name name (args_tree args)
name_alone name args xs b n g p t q = q ∙ no_arguments name xs (sym p ∙ t) ∙ ap (λ l. is_built_name name (actuals_tree l)) g ∙ ap (is_built_name name) (sym (args_out args))

pub name_called : (name : List ℕ) (args : Args) (xs : List Actual) (b : Bool) → xs ≡ (out-Args args).actuals → b ≡ (length xs == 0) → b ≡ false → b ≡ is_built_name name (args_tree args)
name_called name args xs b g p f = f ∙ some_arguments name xs (sym p ∙ f) ∙ ap (λ l. is_built_name name (actuals_tree l)) g ∙ ap (is_built_name name) (sym (args_out args))

no_subscripts : (name : List ℕ) (xs : List Expr) → (length xs == 0) ≡ true → is_numeric_name name ≡ are_built_targets (t.Variable name (exprs_tree xs) ∷ [])
no_subscripts name [] e = refl
no_subscripts name (x ∷ xs) e = let bad : false ≡ true = sym (eqb-suc-zero (length xs)) ∙ e in absurd cc

some_subscripts : (name : List ℕ) (xs : List Expr) → (length xs == 0) ≡ false → false ≡ are_built_targets (t.Variable name (exprs_tree xs) ∷ [])
some_subscripts name [] e = let bad : true ≡ false = e in absurd cc
some_subscripts name (x ∷ xs) e = refl

pub target_alone : (x : Target) (xs : List Expr) (b n : Bool) → xs ≡ (out-Target x).subscripts → b ≡ (length xs == 0) → b ≡ true → n ≡ is_numeric_name (out-Target x).name → n ≡ are_built_targets (target_tree x ∷ [])
target_alone x xs b n g p h q = q ∙ no_subscripts (out-Target x).name xs (sym p ∙ h) ∙ ap (λ l. are_built_targets (t.Variable (out-Target x).name (exprs_tree l) ∷ [])) g ∙ ap (λ y. are_built_targets (y ∷ [])) (sym (target_out x))

pub target_element : (x : Target) (xs : List Expr) (b : Bool) → xs ≡ (out-Target x).subscripts → b ≡ (length xs == 0) → b ≡ false → b ≡ are_built_targets (target_tree x ∷ [])
target_element x xs b g p f = f ∙ some_subscripts (out-Target x).name xs (sym p ∙ f) ∙ ap (λ l. are_built_targets (t.Variable (out-Target x).name (exprs_tree l) ∷ [])) g ∙ ap (λ y. are_built_targets (y ∷ [])) (sym (target_out x))

-- a list of one
pub alone : {A : Type 0} → (xs : List A) (x : A) → 1 ≤ length xs → length xs < 2 → x ≡ get_or xs 0 x → xs ≡ x ∷ []
alone [] x a b e = absurd (omega arith)
alone (y ∷ []) x a b e = ap (λ z. z ∷ []) (sym e)
alone (y ∷ z ∷ zs) x a b e = absurd (omega arith)
