-- An argument by its form.
use Rattle.std.proofs.Common.{◌≡◌, true, false, List, [], ◌∷◌, map, refl}
use Rattle.bas_ast.specs.declared.expression.Expr.{Expr}
use Rattle.bas_ast.specs.declared.expression.Actual.{Actual, out-Actual, the_lemmas}
use Rattle.bas_ast.specs.declared.expression.Actual as actual
use Rattle.bas_ast.specs.declared.expression.Actual.TheOpen as layer
use Rattle.bas_expr.specs.Reading.{is_plain, expr_in, are_plain}

pub plain_expr : (x : Expr) → is_plain (actual.Expr x) ≡ true
unfolding is_plain
plain_expr x = let e : out-Actual (actual.Expr x) ≡ layer.Expr x = search the_lemmas in rw e refl

pub plain_chan : (x : Expr) → is_plain (actual.Chan x) ≡ false
unfolding is_plain
plain_chan x = let e : out-Actual (actual.Chan x) ≡ layer.Chan x = search the_lemmas in rw e refl

pub in_expr : (x : Expr) → expr_in (actual.Expr x) ≡ x
unfolding expr_in
in_expr x = let e : out-Actual (actual.Expr x) ≡ layer.Expr x = search the_lemmas in rw e refl

pub in_chan : (x : Expr) → expr_in (actual.Chan x) ≡ x
unfolding expr_in
in_chan x = let e : out-Actual (actual.Chan x) ≡ layer.Chan x = search the_lemmas in rw e refl

pub ruleset actual_laws = (plain_expr, plain_chan, in_expr, in_chan)

-- subscripts as arguments
pub plain_all : (xs : List Expr) → are_plain (map actual.Expr xs) ≡ true
plain_all [] = refl
plain_all (x ∷ xs) = rw (plain_expr x, plain_all xs) refl

pub in_all : (xs : List Expr) → map expr_in (map actual.Expr xs) ≡ xs
in_all [] = refl
in_all (x ∷ xs) = rw (in_expr x, in_all xs) refl
