-- Each part appends its code, and takes its sizes off.
use Rattle.std.proofs.Common.{arith, refl}
use Rattle.std.proofs.lemmas.Result.{on_ok_weaker}
use Rattle.bas_ast.specs.ConditionTree.{rel_tree}
use Rattle.bas_ast.proofs.ConditionTrees.{test_not, test_group, test_compare}
use Rattle.bas_genexpr.specs.Numbering.{variables}
use Rattle.bas_genexpr.proofs.Pieces.{turn}
use Rattle.bas_genexpr.proofs.Jumping.{cond_follows, conj_follows, conjs_turn, tests_turn, not_jumps, group_jumps, compare_follows}
use Rattle.bas_genexpr.proofs.condition.+jumps.Goals as goal

pub put_cond-returns : goal.put_cond-returns
put_cond-returns t c =
    on_ok_weaker c.put_conjs.result
    (cond_follows (variables c.args.slots.now) c.args.aim.wanted c.args.aim.to c.args.c.now c.as_slice-rest.result.now c.args.sizes.now c.next.new.self c.put_conj.new.sizes c.put_conjs.new.sizes c.next.result c.end_of-end.result c.address-inner.result c.pick-first.result.to c.is_empty.result c.pick-first.result.wanted c.args.code.now c.put_conj.new.code c.put_conjs.new.code c.as_slice-rest.ensures c.next.ensures c.end_of-end.ensures c.address-inner.ensures c.is_empty.ensures c.pick-first.ensures.wanted c.pick-first.ensures.to c.in_ok-put_conj.ensures)
    c.put_conjs.ensures

pub put_conj-returns : goal.put_conj-returns
put_conj-returns t c =
    on_ok_weaker c.put_tests.result
    (conj_follows (variables c.args.slots.now) c.args.aim.wanted c.args.aim.to c.args.conj.now c.as_slice-rest.result.now c.args.sizes.now c.next.new.self c.put_test.new.sizes c.put_tests.new.sizes c.next.result c.end_of-end.result c.address-inner.result c.pick-first.result.to c.is_empty.result c.pick-first.result.wanted c.args.code.now c.put_test.new.code c.put_tests.new.code c.as_slice-rest.ensures c.next.ensures c.end_of-end.ensures c.address-inner.ensures c.is_empty.ensures c.pick-first.ensures.wanted c.pick-first.ensures.to c.in_ok-put_test.ensures)
    c.put_tests.ensures

pub put_conjs-loop-next-preserved : goal.put_conjs-loop-next-preserved
put_conjs-loop-next-preserved t c = record {
  count = omega arith;
  state = conjs_turn (variables c.args.slots.now) c.args.aim.wanted c.args.inner c.args.aim.to c.args.sizes.now c.loop-next.sizes c.put_conj.new.sizes c.args.code.now c.loop-next.code c.put_conj.new.code c.args.rest.now c.loop-next.next-index _ c.next-item.result _ c.pick-outward.result.wanted c.pick-outward.result.to (turn c.args.rest.now c.loop-next.next-index c.next-item.result c.loop-next-test.true c.next-item.is) (omega arith) refl c.pick-outward.ensures.wanted c.pick-outward.ensures.to c.loop-next.invariant.state c.in_ok-put_conj.ensures;
}

pub put_tests-loop-next-preserved : goal.put_tests-loop-next-preserved
put_tests-loop-next-preserved t c = record {
  count = omega arith;
  state = tests_turn (variables c.args.slots.now) c.args.aim.wanted c.args.inner c.args.aim.to c.args.sizes.now c.loop-next.sizes c.put_test.new.sizes c.args.code.now c.loop-next.code c.put_test.new.code c.args.rest.now c.loop-next.next-index _ c.next-item.result _ c.pick-outward.result.wanted c.pick-outward.result.to (turn c.args.rest.now c.loop-next.next-index c.next-item.result c.loop-next-test.true c.next-item.is) (omega arith) refl c.pick-outward.ensures.wanted c.pick-outward.ensures.to c.loop-next.invariant.state c.in_ok-put_test.ensures;
}

pub put_test-returns-in-Not : goal.put_test-returns-in-Not
put_test-returns-in-Not t c =
    rw (c.in-Not.is, test_not, ← not_jumps (variables c.args.slots.now) c.args.aim.wanted _ _ _ _ refl, ← c.get.ensures) c.put_test.ensures

pub put_test-returns-in-Group : goal.put_test-returns-in-Group
put_test-returns-in-Group t c =
    rw (c.in-Group.is, test_group, ← group_jumps (variables c.args.slots.now) c.args.aim.wanted, ← c.get-in-Group.ensures) c.put_cond.ensures

pub put_test-returns-in_ok-push-in-Compare : goal.put_test-returns-in_ok-push-in-Compare
put_test-returns-in_ok-push-in-Compare t c =
    rw (c.in-Compare.is, test_compare)
    (on_ok_weaker c.put_jump.result
    (compare_follows (variables c.args.slots.now) c.args.aim.wanted _ _ (rel_tree c.in-Compare.rel) c.args.aim.to c.args.sizes.now c.args.code.now c.put_expression.new.code c.put_expression-in-Compare.new.code c.push.new.self c.put_jump.new.code c.in_ok-put_expression-in-Compare.ensures c.in_ok-put_expression-in-Compare-2.ensures (rw (← c.relation.ensures) c.in_ok-push-in-Compare.ensures))
    c.put_jump.ensures)
