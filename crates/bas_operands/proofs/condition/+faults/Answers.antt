-- Each layer has the least fault of its parts.
use Rattle.std.proofs.Common.{refl, ◌∙◌, arith}
use Rattle.bas_ast.specs.ConditionTree.{conj_tree, test_tree, conjs_tree, tests_tree}
use Rattle.bas_ast.proofs.ConditionTrees.{test_not, test_group}
use Rattle.bas_scope.specs.Nodes.{conjs_nodes, conj_nodes, tests_nodes, test_nodes}
use Rattle.bas_names.specs.Names.{senses_in}
use Rattle.bas_operands.proofs.Rows.{fault_turn, fault_end}
use Rattle.bas_operands.proofs.WalkConditions.{cond_is, conj_is, compare_is}
use Rattle.bas_operands.proofs.condition.+faults.Goals as goal

pub cond_fault-returns : goal.cond_fault-returns
cond_fault-returns t c =
    c.least.ensures
    ∙ cond_is (senses_in c.args.names.now) c.args.cond.now c.as_slice.result.now c.conj_fault-first.result c.conjs_fault.result c.as_slice.ensures
    c.conj_fault-first.ensures c.conjs_fault.ensures

pub conj_fault-returns : goal.conj_fault-returns
conj_fault-returns t c =
    c.least.ensures
    ∙ conj_is (senses_in c.args.names.now) c.args.conj.now c.as_slice.result.now c.test_fault-first.result c.tests_fault.result c.as_slice.ensures
    c.test_fault-first.ensures c.tests_fault.ensures

pub test_fault-returns-in-Not : goal.test_fault-returns-in-Not
test_fault-returns-in-Not t c = rw (c.in-Not.is, test_not, ← c.get.ensures) c.test_fault.ensures

pub test_fault-returns-in-Group : goal.test_fault-returns-in-Group
test_fault-returns-in-Group t c = rw (c.in-Group.is, test_group, ← c.get-in-Group.ensures) c.cond_fault.ensures

pub test_fault-returns-in-Compare : goal.test_fault-returns-in-Compare
test_fault-returns-in-Compare t c =
    c.least_of_three.ensures
    ∙ compare_is (senses_in c.args.names.now) c.args.test.now _ _ _ c.own_test_fault-own.result c.expr_fault-before.result c.expr_fault.result
    c.in-Compare.is (c.own_test_fault-own.ensures (senses_in c.args.names.now)) c.expr_fault-before.ensures c.expr_fault.ensures

pub conjs_fault-loop-next-preserved : goal.conjs_fault-loop-next-preserved
conjs_fault-loop-next-preserved t c =
    fault_turn (senses_in c.args.names.now) (λ x. conj_nodes (conj_tree x)) (λ xs. conjs_nodes (conjs_tree xs)) (λ x xs. refl) c.args.rest.now c.loop-next.next-index
    c.next-item.result c.loop-next.found c.conj_fault.result c.least-found.result c.loop-next-test.true c.next-item.is c.conj_fault.ensures
    c.least-found.ensures c.loop-next.invariant

pub conjs_fault-returns : goal.conjs_fault-returns
conjs_fault-returns t c =
    fault_end (senses_in c.args.names.now) (λ xs. conjs_nodes (conjs_tree xs)) refl c.args.rest.now c.loop-next.next-index c.loop-next.found (omega arith)
    c.loop-next.invariant

pub tests_fault-loop-next-preserved : goal.tests_fault-loop-next-preserved
tests_fault-loop-next-preserved t c =
    fault_turn (senses_in c.args.names.now) (λ x. test_nodes (test_tree x)) (λ xs. tests_nodes (tests_tree xs)) (λ x xs. refl) c.args.rest.now c.loop-next.next-index
    c.next-item.result c.loop-next.found c.test_fault.result c.least-found.result c.loop-next-test.true c.next-item.is c.test_fault.ensures
    c.least-found.ensures c.loop-next.invariant

pub tests_fault-returns : goal.tests_fault-returns
tests_fault-returns t c =
    fault_end (senses_in c.args.names.now) (λ xs. tests_nodes (tests_tree xs)) refl c.args.rest.now c.loop-next.next-index c.loop-next.found (omega arith)
    c.loop-next.invariant
