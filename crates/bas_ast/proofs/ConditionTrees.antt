-- The equations of the plain trees of conditions.
use Rattle.std.proofs.Common.{◌≡◌, List, [], ◌∷◌, map, refl, ap, sym, ◌∙◌}
use Rattle.bas_ast.specs.Tree as t
use Rattle.bas_ast.specs.ExpressionTree.{expr_tree}
use Rattle.bas_ast.specs.ConditionTree.{rel_tree, test_tree, cond_tree, conj_tree, conjs_tree, tests_tree}
use Rattle.bas_ast.specs.declared.expression.Expr.{Expr}
use Rattle.bas_ast.specs.declared.condition.Rel.{Rel}
use Rattle.bas_ast.specs.declared.condition.Test.{Test}
use Rattle.bas_ast.specs.declared.condition.Cond.{Cond, Cond-F, roll-Cond, out-Cond}
use Rattle.bas_ast.specs.declared.condition.Conj.{Conj, Conj-F, roll-Conj, out-Conj}
use Rattle.bas_ast.specs.declared.condition.Test as test_form
use Rattle.bas_ast.specs.ConditionTree.{conjs_of, tests_of, test_of, cond_of, conj_of}
use Rattle.bas_ast.specs.declared.condition.Test.{fold-roll-Test}
use Rattle.bas_ast.specs.declared.condition.Cond.{fold-roll-Cond, fold_out-Cond}
use Rattle.bas_ast.specs.declared.condition.Conj.{fold-roll-Conj, fold_out-Conj}
use Rattle.bas_ast.specs.declared.condition.Test.TheOpen as layer
use Rattle.bas_ast.specs.declared.condition.Test.TheVariants as test_rolls
use Rattle.bas_ast.specs.ConditionEquations.{ConditionEquations}

conjs_rows : (xs : List Conj) → conjs_of (map conj_tree xs) ≡ conjs_tree xs
conjs_rows [] = refl
conjs_rows (x ∷ xs) = ap (t.MoreConjs (conj_tree x)) (conjs_rows xs)

tests_rows : (xs : List Test) → tests_of (map test_tree xs) ≡ tests_tree xs
tests_rows [] = refl
tests_rows (x ∷ xs) = ap (t.MoreTests (test_tree x)) (tests_rows xs)

pub test_not : (x : Test) → test_tree (test_form.Not x) ≡ t.Not (test_tree x)
unfolding test_tree cond_tree conj_tree
test_not x = ap test_tree (sym (test_rolls.rolls-Not x)) ∙ fold-roll-Test t.Test t.Cond t.Conj test_of cond_of conj_of (layer.Not x)

pub test_group : (x : Cond) → test_tree (test_form.Group x) ≡ t.CondGroup (cond_tree x)
unfolding test_tree cond_tree conj_tree
test_group x = ap test_tree (sym (test_rolls.rolls-Group x)) ∙ fold-roll-Test t.Test t.Cond t.Conj test_of cond_of conj_of (layer.Group x)

pub test_compare : (left : Expr) (op : Rel) (right : Expr) → test_tree (test_form.Compare left op right) ≡ t.Compare (expr_tree left) (rel_tree op) (expr_tree right)
unfolding test_tree cond_tree conj_tree
test_compare left op right = ap test_tree (sym (test_rolls.rolls-Compare left op right)) ∙ fold-roll-Test t.Test t.Cond t.Conj test_of cond_of conj_of (layer.Compare left op right)

pub cond_roll : (x : Cond-F Test Cond Conj) → cond_tree (roll-Cond x) ≡ t.AnyOf (conj_tree x.first) (conjs_tree x.rest)
unfolding test_tree cond_tree conj_tree
cond_roll x = fold-roll-Cond t.Test t.Cond t.Conj test_of cond_of conj_of x ∙ ap (t.AnyOf (conj_tree x.first)) (conjs_rows x.rest)

pub cond_out : (x : Cond) → cond_tree x ≡ t.AnyOf (conj_tree (out-Cond x).first) (conjs_tree (out-Cond x).rest)
unfolding test_tree cond_tree conj_tree
cond_out x = fold_out-Cond t.Test t.Cond t.Conj test_of cond_of conj_of x ∙ ap (t.AnyOf (conj_tree (out-Cond x).first)) (conjs_rows (out-Cond x).rest)

pub conj_roll : (x : Conj-F Test Cond Conj) → conj_tree (roll-Conj x) ≡ t.AllOf (test_tree x.first) (tests_tree x.rest)
unfolding test_tree cond_tree conj_tree
conj_roll x = fold-roll-Conj t.Test t.Cond t.Conj test_of cond_of conj_of x ∙ ap (t.AllOf (test_tree x.first)) (tests_rows x.rest)

pub conj_out : (x : Conj) → conj_tree x ≡ t.AllOf (test_tree (out-Conj x).first) (tests_tree (out-Conj x).rest)
unfolding test_tree cond_tree conj_tree
conj_out x = fold_out-Conj t.Test t.Cond t.Conj test_of cond_of conj_of x ∙ ap (t.AllOf (test_tree (out-Conj x).first)) (tests_rows (out-Conj x).rest)

pub ruleset condition_trees = (test_not, test_group, test_compare, cond_roll, cond_out, conj_roll, conj_out)

pub condition_equations : ConditionEquations
condition_equations = record { test_not = test_not; test_group = test_group; test_compare = test_compare; cond_roll = cond_roll; cond_out = cond_out; conj_roll = conj_roll; conj_out = conj_out }
