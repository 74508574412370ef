use Rattle.std.proofs.Common.{◌≡◌, Some, None, sym, ◌∙◌}
use Rattle.bas_form.proofs.RepetitionLaws.{as_far_on, as_far_ends}
use Rattle.bas_expr.proofs.LoopLaws.{fewer}
use Rattle.bas_record.specs.Reading.{next_attr}
use Rattle.bas_record.proofs.ChannelLaws.{next_attr_longest, two}
use Rattle.bas_record.proofs.attribute.more_attributes.Goals as goal

pub more-smaller : goal.more-smaller
more-smaller c =
    let e : next_attr c.args.line.now c.more.at ≡ Some (c.in-Some.next, c.in-Some.after) = sym c.next_attribute.ensures ∙ c.in-Some.is in
    fewer (next_attr_longest c.args.line.now) two c.more.at _ _ e

pub more-preserved : goal.more-preserved
more-preserved c =
    let e : next_attr c.args.line.now c.more.at ≡ Some (c.in-Some.next, c.in-Some.after) = sym c.next_attribute.ensures ∙ c.in-Some.is in
    rw c.in_ok-push.ensures.items (as_far_on (next_attr_longest c.args.line.now) two c.args.at c.more.at c.more.all.items _ _ c.more.invariant e)

pub returns : goal.returns
returns c =
    let e : next_attr c.args.line.now c.more.at ≡ None = sym c.next_attribute.ensures ∙ c.in_default.is in
    sym (as_far_ends (next_attr_longest c.args.line.now) two c.args.at c.more.at c.more.all.items c.more.invariant e)
