use Rattle.std.proofs.Common.{◌≡◌, Some, None, ◌∙◌, sym}
use Rattle.bas_form.proofs.RepetitionLaws.{as_far_on, as_far_ends}
use Rattle.bas_expr.specs.Reading.{next_actual, next_primary, next_factor, next_term, expr}
use Rattle.bas_expr.proofs.LoopLaws.{fewer, listed_on, listed_end, deeper}
use Rattle.bas_expr.proofs.NextLaws as nexts
use Rattle.bas_expr.proofs.expression.+longest_expr.Goals as goal

pub longest_expr-returns : goal.longest_expr-returns
unfolding expr
longest_expr-returns t c = rw (deeper (λ n. expr c.args.line.now n c.args.at) c.args.depth c.if-depth-eq0.false) c.sum.ensures

pub exponents-more-smaller : goal.exponents-more-smaller
exponents-more-smaller t c =
    let e : next_primary c.args.line.now (expr c.args.line.now c.args.depth) c.more.at ≡ Some (c.in-Some.next, c.in-Some.after) = sym c.in_ok-next.ensures ∙ c.in-Some.is in
    fewer (nexts.primaries c.args.line.now c.args.depth) nexts.two c.more.at _ _ e

pub exponents-more-preserved : goal.exponents-more-preserved
exponents-more-preserved t c =
    let e : next_primary c.args.line.now (expr c.args.line.now c.args.depth) c.more.at ≡ Some (c.in-Some.next, c.in-Some.after) = sym c.in_ok-next.ensures ∙ c.in-Some.is in
    rw c.in_ok-push.ensures.ok (as_far_on (nexts.primaries c.args.line.now c.args.depth) nexts.two _ c.more.at c.more.more _ _ c.more.invariant e)

pub exponents-returns : goal.exponents-returns
exponents-returns t c =
    let e : next_primary c.args.line.now (expr c.args.line.now c.args.depth) c.more.at ≡ None = sym c.in_ok-next.ensures ∙ c.in_default.is in
    sym (as_far_ends (nexts.primaries c.args.line.now c.args.depth) nexts.two _ c.more.at c.more.more c.more.invariant e)

pub factors-more-smaller : goal.factors-more-smaller
factors-more-smaller t c =
    let e : next_factor c.args.line.now (expr c.args.line.now c.args.depth) c.more.at ≡ Some (c.in-Some.next, c.in-Some.after) = sym c.in_ok-next.ensures ∙ c.in-Some.is in
    fewer (nexts.factors c.args.line.now c.args.depth) nexts.two_and_none c.more.at _ _ e

pub factors-more-preserved : goal.factors-more-preserved
factors-more-preserved t c =
    let e : next_factor c.args.line.now (expr c.args.line.now c.args.depth) c.more.at ≡ Some (c.in-Some.next, c.in-Some.after) = sym c.in_ok-next.ensures ∙ c.in-Some.is in
    rw c.in_ok-push.ensures.ok (as_far_on (nexts.factors c.args.line.now c.args.depth) nexts.two_and_none _ c.more.at c.more.more _ _ c.more.invariant e)

pub factors-returns : goal.factors-returns
factors-returns t c =
    let e : next_factor c.args.line.now (expr c.args.line.now c.args.depth) c.more.at ≡ None = sym c.in_ok-next.ensures ∙ c.in_default.is in
    sym (as_far_ends (nexts.factors c.args.line.now c.args.depth) nexts.two_and_none _ c.more.at c.more.more c.more.invariant e)

pub terms-more-smaller : goal.terms-more-smaller
terms-more-smaller t c =
    let e : next_term c.args.line.now (expr c.args.line.now c.args.depth) c.more.at ≡ Some (c.in-Some.next, c.in-Some.after) = sym c.in_ok-next.ensures ∙ c.in-Some.is in
    fewer (nexts.terms c.args.line.now c.args.depth) nexts.two_and_none_more c.more.at _ _ e

pub terms-more-preserved : goal.terms-more-preserved
terms-more-preserved t c =
    let e : next_term c.args.line.now (expr c.args.line.now c.args.depth) c.more.at ≡ Some (c.in-Some.next, c.in-Some.after) = sym c.in_ok-next.ensures ∙ c.in-Some.is in
    rw c.in_ok-push.ensures.ok (as_far_on (nexts.terms c.args.line.now c.args.depth) nexts.two_and_none_more _ c.more.at c.more.more _ _ c.more.invariant e)

pub terms-returns : goal.terms-returns
terms-returns t c =
    let e : next_term c.args.line.now (expr c.args.line.now c.args.depth) c.more.at ≡ None = sym c.in_ok-next.ensures ∙ c.in_default.is in
    sym (as_far_ends (nexts.terms c.args.line.now c.args.depth) nexts.two_and_none_more _ c.more.at c.more.more c.more.invariant e)

pub more_actuals-more-smaller : goal.more_actuals-more-smaller
more_actuals-more-smaller t c =
    let e : next_actual c.args.line.now (expr c.args.line.now c.args.depth) c.more.at ≡ Some (c.in-Some.next, c.in-Some.after) = sym c.in_ok-next.ensures ∙ c.in-Some.is in
    fewer (nexts.actuals c.args.line.now c.args.depth) nexts.two c.more.at _ _ e

pub more_actuals-more-preserved : goal.more_actuals-more-preserved
more_actuals-more-preserved t c =
    let e : next_actual c.args.line.now (expr c.args.line.now c.args.depth) c.more.at ≡ Some (c.in-Some.next, c.in-Some.after) = sym c.in_ok-next.ensures ∙ c.in-Some.is in
    rw c.in_ok-push-2.ensures.items (listed_on (nexts.actuals c.args.line.now c.args.depth) nexts.two c.args.first c.args.at c.more.at c.more.all.items _ _ c.more.invariant e)

pub more_actuals-returns : goal.more_actuals-returns
more_actuals-returns t c =
    let e : next_actual c.args.line.now (expr c.args.line.now c.args.depth) c.more.at ≡ None = sym c.in_ok-next.ensures ∙ c.in_default.is in
    listed_end (nexts.actuals c.args.line.now c.args.depth) nexts.two c.args.first c.args.at c.more.at c.more.all.items c.more.invariant e
