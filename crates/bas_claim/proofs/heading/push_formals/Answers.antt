use Rattle.std.proofs.Common.{◌++◌, ap, ◌∙◌}
use Rattle.std.specs.Option.{option_to_list}
use Rattle.bas_claim.proofs.Formals.{one_more}
use Rattle.bas_claim.proofs.heading.push_formals.Goals as goal

pub loop-formal-preserved : goal.loop-formal-preserved
loop-formal-preserved c =
    one_more c.args.names.now.items c.loop-formal.names.items c.push_name.new.names.items c.args.formals.now c.loop-formal.formal-index c.formal-item.result
    c.loop-formal-test.true c.formal-item.is c.loop-formal.invariant
    (c.in_ok-push_name.ensures ∙ ap (λ o. c.loop-formal.names.items ++ option_to_list o) c.name_of.ensures)
