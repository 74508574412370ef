use Rattle.std.proofs.Common.{◌≡◌, ◌+◌, ◌-◌, length, Some, None, ap, ◌∙◌, sym}
use Rattle.bas_form.proofs.RepetitionLaws.{as_far_on, as_far_ends}
use Rattle.bas_expr.specs.Reading.{expr}
use Rattle.bas_ast.specs.declared.condition.Test as tree
use Rattle.bas_expr.specs.Words.{negation}
use Rattle.bas_expr.specs.Testing.{test, next_test, next_conj, cond}
use Rattle.bas_expr.proofs.LoopLaws.{fewer}
use Rattle.bas_expr.proofs.CondLoops as nexts
use Rattle.bas_expr.proofs.condition.+longest_cond.Goals as goal

pub tests-more-smaller : goal.tests-more-smaller
tests-more-smaller t c =
    let e : next_test c.args.line.now (expr c.args.line.now (c.args.depth + 1)) (cond c.args.line.now c.args.depth) (length c.args.line.now) c.more.at ≡ Some (c.in-Some.next, c.in-Some.after) = sym c.in_ok-next.ensures ∙ c.in-Some.is in
    fewer (nexts.tests c.args.line.now c.args.depth) nexts.two c.more.at _ _ e

pub tests-more-preserved : goal.tests-more-preserved
tests-more-preserved t c =
    let e : next_test c.args.line.now (expr c.args.line.now (c.args.depth + 1)) (cond c.args.line.now c.args.depth) (length c.args.line.now) c.more.at ≡ Some (c.in-Some.next, c.in-Some.after) = sym c.in_ok-next.ensures ∙ c.in-Some.is in
    rw c.in_ok-push.ensures.ok (as_far_on (nexts.tests c.args.line.now c.args.depth) nexts.two _ c.more.at c.more.more _ _ c.more.invariant e)

pub tests-returns : goal.tests-returns
tests-returns t c =
    let e : next_test c.args.line.now (expr c.args.line.now (c.args.depth + 1)) (cond c.args.line.now c.args.depth) (length c.args.line.now) c.more.at ≡ None = sym c.in_ok-next.ensures ∙ c.in_default.is in
    sym (as_far_ends (nexts.tests c.args.line.now c.args.depth) nexts.two _ c.more.at c.more.more c.more.invariant e)

pub conjs-more-smaller : goal.conjs-more-smaller
conjs-more-smaller t c =
    let e : next_conj c.args.line.now (expr c.args.line.now (c.args.depth + 1)) (cond c.args.line.now c.args.depth) (length c.args.line.now) c.more.at ≡ Some (c.in-Some.next, c.in-Some.after) = sym c.in_ok-next.ensures ∙ c.in-Some.is in
    fewer (nexts.conjs c.args.line.now c.args.depth) nexts.two_and_none c.more.at _ _ e

pub conjs-more-preserved : goal.conjs-more-preserved
conjs-more-preserved t c =
    let e : next_conj c.args.line.now (expr c.args.line.now (c.args.depth + 1)) (cond c.args.line.now c.args.depth) (length c.args.line.now) c.more.at ≡ Some (c.in-Some.next, c.in-Some.after) = sym c.in_ok-next.ensures ∙ c.in-Some.is in
    rw c.in_ok-push.ensures.ok (as_far_on (nexts.conjs c.args.line.now c.args.depth) nexts.two_and_none _ c.more.at c.more.more _ _ c.more.invariant e)

pub conjs-returns : goal.conjs-returns
conjs-returns t c =
    let e : next_conj c.args.line.now (expr c.args.line.now (c.args.depth + 1)) (cond c.args.line.now c.args.depth) (length c.args.line.now) c.more.at ≡ None = sym c.in_ok-next.ensures ∙ c.in_default.is in
    sym (as_far_ends (nexts.conjs c.args.line.now c.args.depth) nexts.two_and_none _ c.more.at c.more.more c.more.invariant e)

pub longest_cond-returns-then-depth-eq0 : goal.longest_cond-returns-then-depth-eq0
longest_cond-returns-then-depth-eq0 t c = nexts.cond_none c.args.line.now c.args.depth c.args.at c.if-depth-eq0.true

pub longest_cond-returns : goal.longest_cond-returns
longest_cond-returns t c = rw (← nexts.cond_of_level c.args.line.now c.args.depth c.args.at c.if-depth-eq0.false) c.alternative.ensures

pub test-returns-then-nots-eq0 : goal.test-returns-then-nots-eq0
test-returns-then-nots-eq0 t c = nexts.test_none c.args.line.now _ _ c.args.nots c.args.at c.if-nots-eq0.true

pub test-returns-in_ok-new-in-Some-2 : goal.test-returns-in_ok-new-in-Some-2
test-returns-in_ok-new-in-Some-2 t c =
    let n : negation c.args.line.now c.args.at ≡ Some c.in-Some.field-0 = sym c.negation.ensures.value ∙ c.in-Some.is in
    let o : Some (c.in-Some-2.inner, c.in-Some-2.after) ≡ test c.args.line.now (expr c.args.line.now (c.args.depth + 1)) (cond c.args.line.now c.args.depth) (c.args.nots - 1) (c.args.at + 1) = sym c.in-Some-2.is ∙ c.in_ok-inner-in-Some.ensures in
    ap (λ x. Some (tree.Not x, c.in-Some-2.after)) c.in_ok-new-in-Some-2.ensures ∙ nexts.test_not c.args.line.now (expr c.args.line.now (c.args.depth + 1)) (cond c.args.line.now c.args.depth) c.args.nots c.args.at _ _ c.if-nots-eq0.false n o

pub test-returns-in-None-2 : goal.test-returns-in-None-2
test-returns-in-None-2 t c =
    let n : negation c.args.line.now c.args.at ≡ Some c.in-Some.field-0 = sym c.negation.ensures.value ∙ c.in-Some.is in
    let o : None ≡ test c.args.line.now (expr c.args.line.now (c.args.depth + 1)) (cond c.args.line.now c.args.depth) (c.args.nots - 1) (c.args.at + 1) = sym c.in-None-2.is ∙ c.in_ok-inner-in-Some.ensures in
    nexts.test_not c.args.line.now (expr c.args.line.now (c.args.depth + 1)) (cond c.args.line.now c.args.depth) c.args.nots c.args.at _ _ c.if-nots-eq0.false n o

pub test-returns-in-Some-3 : goal.test-returns-in-Some-3
test-returns-in-Some-3 t c =
    let n : negation c.args.line.now c.args.at ≡ None = sym c.negation.ensures.value ∙ c.in-None.is in
    nexts.test_found c.args.line.now (expr c.args.line.now (c.args.depth + 1)) (cond c.args.line.now c.args.depth) c.args.nots c.args.at _ c.if-nots-eq0.false n (sym c.in_ok-found-in-None.ensures ∙ c.in-Some-3.is)

pub test-returns-in-None-3 : goal.test-returns-in-None-3
test-returns-in-None-3 t c =
    let n : negation c.args.line.now c.args.at ≡ None = sym c.negation.ensures.value ∙ c.in-None.is in
    rw (← nexts.test_group c.args.line.now (expr c.args.line.now (c.args.depth + 1)) (cond c.args.line.now c.args.depth) c.args.nots c.args.at c.if-nots-eq0.false n (sym c.in_ok-found-in-None.ensures ∙ c.in-None-3.is)) c.group.ensures
