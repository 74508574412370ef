-- Each part of a condition gets its slots behind the parts before it.
use Rattle.std.proofs.Common.{sym, ap, ◌∙◌, refl, drop}
use Rattle.std.proofs.lemmas.List.{drop_all}
use Rattle.std.proofs.lemmas.Result.{err_from_is_err_and}
use Rattle.bas_ast.proofs.ConditionTrees.{test_not, test_group, test_compare}
use Rattle.bas_carry.specs.Slots.{in_conjs, in_tests, in_test}
use Rattle.bas_ast.specs.ConditionTree.{test_tree, conjs_tree, tests_tree}
use Rattle.bas_genexpr.proofs.Pieces.{turn}
use Rattle.bas_genexpr.proofs.NumberLemmas.{refused_first, numbers_both, numbers_turn, refused_turn, numbers_end}
use Rattle.bas_genexpr.proofs.TextVariables.{cond_parts, conj_parts, conjs_left, tests_left}
use Rattle.bas_genexpr.proofs.names.+conditions.Goals as goal

pub number_condition-returns-in_err-number_conj : goal.number_condition-returns-in_err-number_conj
number_condition-returns-in_err-number_conj t c =
    let p = err_from_is_err_and c.from_residual.result c.from_residual.ensures.1 in
    rw (p.1, p.2) (refused_first _ c.args.slots.now _ _ _ (cond_parts c.args.c.now _ refl) c.in_err-number_conj.ensures)

pub number_condition-returns : goal.number_condition-returns
number_condition-returns t c = numbers_both c.number_conjs.result c.args.slots.now c.number_conj.new.slots c.number_conjs.new.slots _ _ _ (cond_parts c.args.c.now c.as_slice.result.now c.as_slice.ensures) c.in_ok-number_conj.ensures c.number_conjs.ensures

pub number_conj-returns-in_err-number_test : goal.number_conj-returns-in_err-number_test
number_conj-returns-in_err-number_test t c =
    let p = err_from_is_err_and c.from_residual.result c.from_residual.ensures.1 in
    rw (p.1, p.2) (refused_first _ c.args.slots.now _ _ _ (conj_parts c.args.conj.now _ refl) c.in_err-number_test.ensures)

pub number_conj-returns : goal.number_conj-returns
number_conj-returns t c = numbers_both c.number_tests.result c.args.slots.now c.number_test.new.slots c.number_tests.new.slots _ _ _ (conj_parts c.args.conj.now c.as_slice.result.now c.as_slice.ensures) c.in_ok-number_test.ensures c.number_tests.ensures

pub number_conjs-returns-in_err-number_conj : goal.number_conjs-returns-in_err-number_conj
number_conjs-returns-in_err-number_conj t c =
    let p = err_from_is_err_and c.from_residual.result c.from_residual.ensures.1 in
    rw (p.1, p.2) (refused_turn _ c.loop-next.slots _ _ _ _ (conjs_left (drop c.loop-next.next-index c.args.rest.now) _ c.next-item.result (turn c.args.rest.now c.loop-next.next-index c.next-item.result c.loop-next-test.true c.next-item.is)) c.loop-next.invariant c.in_err-number_conj.ensures)

pub number_conjs-loop-next-preserved : goal.number_conjs-loop-next-preserved
number_conjs-loop-next-preserved t c = numbers_turn c.loop-next.slots c.number_conj.new.slots _ _ _ _ (conjs_left (drop c.loop-next.next-index c.args.rest.now) _ c.next-item.result (turn c.args.rest.now c.loop-next.next-index c.next-item.result c.loop-next-test.true c.next-item.is)) c.in_ok-number_conj.ensures c.loop-next.invariant

pub number_conjs-returns : goal.number_conjs-returns
number_conjs-returns t c = numbers_end c.loop-next.slots _ _ (ap (λ l. in_conjs (conjs_tree l)) (drop_all c.loop-next.next-index c.args.rest.now c.loop-next-test.false)) c.loop-next.invariant

pub number_tests-returns-in_err-number_test : goal.number_tests-returns-in_err-number_test
number_tests-returns-in_err-number_test t c =
    let p = err_from_is_err_and c.from_residual.result c.from_residual.ensures.1 in
    rw (p.1, p.2) (refused_turn _ c.loop-next.slots _ _ _ _ (tests_left (drop c.loop-next.next-index c.args.rest.now) _ c.next-item.result (turn c.args.rest.now c.loop-next.next-index c.next-item.result c.loop-next-test.true c.next-item.is)) c.loop-next.invariant c.in_err-number_test.ensures)

pub number_tests-loop-next-preserved : goal.number_tests-loop-next-preserved
number_tests-loop-next-preserved t c = numbers_turn c.loop-next.slots c.number_test.new.slots _ _ _ _ (tests_left (drop c.loop-next.next-index c.args.rest.now) _ c.next-item.result (turn c.args.rest.now c.loop-next.next-index c.next-item.result c.loop-next-test.true c.next-item.is)) c.in_ok-number_test.ensures c.loop-next.invariant

pub number_tests-returns : goal.number_tests-returns
number_tests-returns t c = numbers_end c.loop-next.slots _ _ (ap (λ l. in_tests (tests_tree l)) (drop_all c.loop-next.next-index c.args.rest.now c.loop-next-test.false)) c.loop-next.invariant

pub number_test-returns-in-Not : goal.number_test-returns-in-Not
number_test-returns-in-Not t c = rw (c.in-Not.is, test_not, ← c.get.ensures) c.number_test.ensures

pub number_test-returns-in-Group : goal.number_test-returns-in-Group
number_test-returns-in-Group t c = rw (c.in-Group.is, test_group, ← c.get-in-Group.ensures) c.number_condition.ensures

pub number_test-returns-in_err-number_expression-in-Compare : goal.number_test-returns-in_err-number_expression-in-Compare
number_test-returns-in_err-number_expression-in-Compare t c =
    let p = err_from_is_err_and c.from_residual.result c.from_residual.ensures.1 in
    rw (p.1, p.2) (refused_first _ c.args.slots.now _ _ _ (ap in_test (sym (ap test_tree c.in-Compare.is ∙ test_compare _ _ _))) c.in_err-number_expression-in-Compare.ensures)

pub number_test-returns-in_ok-number_expression-in-Compare : goal.number_test-returns-in_ok-number_expression-in-Compare
number_test-returns-in_ok-number_expression-in-Compare t c = numbers_both c.number_expression-in-Compare.result c.args.slots.now c.number_expression.new.slots c.number_expression-in-Compare.new.slots _ _ _ (ap in_test (sym (ap test_tree c.in-Compare.is ∙ test_compare _ _ _))) c.in_ok-number_expression-in-Compare.ensures c.number_expression-in-Compare.ensures
