use Rattle.std.proofs.Common.{◌≡◌, Some, None, sym, ◌∙◌}
use Rattle.bas_expr.proofs.LoopLaws.{fewer, listed_on, listed_end}
use Rattle.bas_statement.specs.Reading.{next_argument}
use Rattle.bas_statement.proofs.StatementLaws.{next_argument_longest, two}
use Rattle.bas_statement.proofs.call.more_arguments.Goals as goal

pub more-smaller : goal.more-smaller
more-smaller c =
    let e : next_argument c.args.line.now c.more.at ≡ Some (c.in-Some.next, c.in-Some.after) = sym c.in_ok-next.ensures ∙ c.in-Some.is in
    fewer (next_argument_longest c.args.line.now) two c.more.at _ _ e

pub more-preserved : goal.more-preserved
more-preserved c =
    let e : next_argument c.args.line.now c.more.at ≡ Some (c.in-Some.next, c.in-Some.after) = sym c.in_ok-next.ensures ∙ c.in-Some.is in
    rw c.in_ok-push-2.ensures.items (listed_on (next_argument_longest c.args.line.now) two c.args.first c.args.at c.more.at c.more.all.items _ _ c.more.invariant e)

pub returns : goal.returns
returns c =
    let e : next_argument c.args.line.now c.more.at ≡ None = sym c.in_ok-next.ensures ∙ c.in_default.is in
    listed_end (next_argument_longest c.args.line.now) two c.args.first c.args.at c.more.at c.more.all.items c.more.invariant e
