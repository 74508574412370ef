-- The equations of the plain trees of conditions.
use Rattle.std.specs.Prelude.{◌≡◌}
use Rattle.bas_ast.specs.Tree as t
use Rattle.bas_ast.specs.ExpressionTree.{expr_tree}
use Rattle.bas_ast.specs.ConditionTree.{rel_tree, test_tree, cond_tree, conj_tree, conjs_tree, tests_tree}
use Rattle.bas_ast.specs.declared.expression.Expr.{Expr}
use Rattle.bas_ast.specs.declared.condition.Rel.{Rel}
use Rattle.bas_ast.specs.declared.condition.Test.{Test}
use Rattle.bas_ast.specs.declared.condition.Cond.{Cond, Cond-F, roll-Cond, out-Cond}
use Rattle.bas_ast.specs.declared.condition.Conj.{Conj, Conj-F, roll-Conj, out-Conj}
use Rattle.bas_ast.specs.declared.condition.Test as test_form

-- a form's plain tree has the plain trees of its parts; a struct is told as it is made and as it is opened
pub record ConditionEquations : Type 0 where
  pub test_not : (x : Test) → test_tree (test_form.Not x) ≡ t.Not (test_tree x)
  pub test_group : (x : Cond) → test_tree (test_form.Group x) ≡ t.CondGroup (cond_tree x)
  pub test_compare : (left : Expr) (op : Rel) (right : Expr) → test_tree (test_form.Compare left op right) ≡ t.Compare (expr_tree left) (rel_tree op) (expr_tree right)
  pub cond_roll : (x : Cond-F Test Cond Conj) → cond_tree (roll-Cond x) ≡ t.AnyOf (conj_tree x.first) (conjs_tree x.rest)
  pub cond_out : (x : Cond) → cond_tree x ≡ t.AnyOf (conj_tree (out-Cond x).first) (conjs_tree (out-Cond x).rest)
  pub conj_roll : (x : Conj-F Test Cond Conj) → conj_tree (roll-Conj x) ≡ t.AllOf (test_tree x.first) (tests_tree x.rest)
  pub conj_out : (x : Conj) → conj_tree x ≡ t.AllOf (test_tree (out-Conj x).first) (tests_tree (out-Conj x).rest)
