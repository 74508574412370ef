use Rattle.std.proofs.Common.{◌≡◌, Some, None, sym, ◌∙◌}
use Rattle.bas_expr.proofs.LoopLaws.{fewer, listed_on, listed_end}
use Rattle.bas_declaration.proofs.DeclLaws.{two}
use Rattle.bas_line.specs.Reading.{next_number}
use Rattle.bas_line.proofs.SimpleLaws.{next_number_longest}
use Rattle.bas_line.proofs.jump.more_numbers.Goals as goal

pub more-smaller : goal.more-smaller
more-smaller c =
    let e : next_number c.args.line.now c.more.at ≡ Some c.in-Some.found = sym c.next_number.ensures ∙ c.in-Some.is in
    fewer (next_number_longest c.args.line.now) two c.more.at c.in-Some.found.0 c.in-Some.found.1 e

pub more-preserved : goal.more-preserved
more-preserved c =
    let e : next_number c.args.line.now c.more.at ≡ Some c.in-Some.found = sym c.next_number.ensures ∙ c.in-Some.is in
    rw c.in_ok-push-2.ensures.items (listed_on (next_number_longest c.args.line.now) two c.args.first c.args.at c.more.at c.more.all.items c.in-Some.found.0 c.in-Some.found.1 c.more.invariant e)

pub returns : goal.returns
returns c =
    let e : next_number c.args.line.now c.more.at ≡ None = sym c.next_number.ensures ∙ c.in_default.is in
    listed_end (next_number_longest c.args.line.now) two c.args.first c.args.at c.more.at c.more.all.items c.more.invariant e
