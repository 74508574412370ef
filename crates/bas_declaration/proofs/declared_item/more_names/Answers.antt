use Rattle.std.proofs.Common.{◌≡◌, Some, None, sym, ◌∙◌}
use Rattle.bas_expr.proofs.LoopLaws.{fewer, listed_on, listed_end}
use Rattle.bas_declaration.specs.Declaring.{next_name}
use Rattle.bas_declaration.proofs.DeclLaws.{next_name_longest, two}
use Rattle.bas_declaration.proofs.declared_item.more_names.Goals as goal

pub more-smaller : goal.more-smaller
more-smaller c =
    let e : next_name c.args.line.now c.more.at ≡ Some c.in-Some.found = sym c.next_name.ensures ∙ c.in-Some.is in
    fewer (next_name_longest c.args.line.now) two c.more.at c.in-Some.found.0 c.in-Some.found.1 e

pub more-preserved : goal.more-preserved
more-preserved c =
    let e : next_name c.args.line.now c.more.at ≡ Some c.in-Some.found = sym c.next_name.ensures ∙ c.in-Some.is in
    rw c.in_ok-push-2.ensures.items (listed_on (next_name_longest c.args.line.now) two c.args.first c.args.at c.more.at c.more.all.items c.in-Some.found.0 c.in-Some.found.1 c.more.invariant e)

pub returns : goal.returns
returns c =
    let e : next_name c.args.line.now c.more.at ≡ None = sym c.next_name.ensures ∙ c.in_default.is in
    listed_end (next_name_longest c.args.line.now) two c.args.first c.args.at c.more.at c.more.all.items c.more.invariant e
