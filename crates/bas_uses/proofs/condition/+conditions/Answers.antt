-- Each layer uses the names of its parts.
use Rattle.std.proofs.Common.{refl}
use Rattle.std.proofs.lemmas.Result.{on_ok_weaker}
use Rattle.bas_ast.specs.ConditionTree.{conj_tree, test_tree, conjs_tree, tests_tree}
use Rattle.bas_ast.specs.ExpressionTree.{expr_tree}
use Rattle.bas_ast.proofs.ConditionTrees.{test_not, test_group, test_compare}
use Rattle.bas_scope.specs.Nodes.{conj_nodes, conjs_nodes, test_nodes, tests_nodes}
use Rattle.bas_uses.proofs.Appending.{names_turn, names_end}
use Rattle.bas_uses.proofs.Conditions.{cond_uses, conj_uses, compare_uses}
use Rattle.bas_uses.proofs.condition.+conditions.Goals as goal

pub push_cond-returns : goal.push_cond-returns
push_cond-returns t c =
    on_ok_weaker c.push_conjs.result
    (cond_uses c.args.cond.now c.as_slice.result.now c.args.names.now.items c.push_conj.new.names.items c.push_conjs.new.names.items
    c.as_slice.ensures c.in_ok-push_conj.ensures)
    c.push_conjs.ensures

pub push_conj-returns : goal.push_conj-returns
push_conj-returns t c =
    on_ok_weaker c.push_tests.result
    (conj_uses c.args.conj.now c.as_slice.result.now c.args.names.now.items c.push_test.new.names.items c.push_tests.new.names.items
    c.as_slice.ensures c.in_ok-push_test.ensures)
    c.push_tests.ensures

pub push_test-returns-in-Not : goal.push_test-returns-in-Not
push_test-returns-in-Not t c = rw (c.in-Not.is, test_not, ← c.get.ensures) c.push_test.ensures

pub push_test-returns-in-Group : goal.push_test-returns-in-Group
push_test-returns-in-Group t c = rw (c.in-Group.is, test_group, ← c.get-in-Group.ensures) c.push_cond.ensures

pub push_test-returns-in_ok-push_expr-in-Compare : goal.push_test-returns-in_ok-push_expr-in-Compare
push_test-returns-in_ok-push_expr-in-Compare t c =
    rw (c.in-Compare.is, test_compare) (on_ok_weaker c.push_expr-in-Compare.result
    (compare_uses (expr_tree c.in-Compare.left) _ (expr_tree c.in-Compare.right) c.args.names.now.items c.push_expr.new.names.items
    c.push_expr-in-Compare.new.names.items c.in_ok-push_expr-in-Compare.ensures)
    c.push_expr-in-Compare.ensures)

pub push_conjs-loop-next-preserved : goal.push_conjs-loop-next-preserved
push_conjs-loop-next-preserved t c =
    names_turn (λ x. conj_nodes (conj_tree x)) (λ xs. conjs_nodes (conjs_tree xs)) (λ x xs. refl) c.args.rest.now c.loop-next.next-index
    c.next-item.result c.loop-next.names.items c.push_conj.new.names.items _ c.loop-next-test.true c.next-item.is c.in_ok-push_conj.ensures c.loop-next.invariant

pub push_conjs-returns : goal.push_conjs-returns
push_conjs-returns t c = names_end (λ xs. conjs_nodes (conjs_tree xs)) refl c.args.rest.now c.loop-next.next-index c.loop-next.names.items _ c.loop-next-test.false c.loop-next.invariant

pub push_tests-loop-next-preserved : goal.push_tests-loop-next-preserved
push_tests-loop-next-preserved t c =
    names_turn (λ x. test_nodes (test_tree x)) (λ xs. tests_nodes (tests_tree xs)) (λ x xs. refl) c.args.rest.now c.loop-next.next-index
    c.next-item.result c.loop-next.names.items c.push_test.new.names.items _ c.loop-next-test.true c.next-item.is c.in_ok-push_test.ensures c.loop-next.invariant

pub push_tests-returns : goal.push_tests-returns
push_tests-returns t c = names_end (λ xs. tests_nodes (tests_tree xs)) refl c.args.rest.now c.loop-next.next-index c.loop-next.names.items _ c.loop-next-test.false c.loop-next.invariant
