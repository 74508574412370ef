use Rattle.std.proofs.Common.{◌≡◌, Some, None, sym, ◌∙◌}
use Rattle.bas_form.proofs.RepetitionLaws.{as_far_on, as_far_ends}
use Rattle.bas_expr.proofs.LoopLaws.{fewer}
use Rattle.bas_list.specs.Reading.{next_item}
use Rattle.bas_list.proofs.PrintLaws.{next_item_longest, one_and_none}
use Rattle.bas_list.proofs.print_item.more_items.Goals as goal

pub more-smaller : goal.more-smaller
more-smaller c =
    let e : next_item c.args.line.now c.more.at ≡ Some (c.in-Some.next, c.in-Some.after) = sym c.in_ok-next.ensures ∙ c.in-Some.is in
    fewer (next_item_longest c.args.line.now) one_and_none c.more.at _ _ e

pub more-preserved : goal.more-preserved
more-preserved c =
    let e : next_item c.args.line.now c.more.at ≡ Some (c.in-Some.next, c.in-Some.after) = sym c.in_ok-next.ensures ∙ c.in-Some.is in
    rw c.in_ok-push.ensures.items (as_far_on (next_item_longest c.args.line.now) one_and_none c.args.at c.more.at c.more.all.items _ _ c.more.invariant e)

pub returns : goal.returns
returns c =
    let e : next_item c.args.line.now c.more.at ≡ None = sym c.in_ok-next.ensures ∙ c.in_default.is in
    sym (as_far_ends (next_item_longest c.args.line.now) one_and_none c.args.at c.more.at c.more.all.items c.more.invariant e)
