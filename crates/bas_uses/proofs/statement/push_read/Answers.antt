-- The names of three parts in their order.
use Rattle.bas_uses.proofs.Appending.{three_parts}
use Rattle.bas_uses.proofs.statement.push_read.Goals as goal

pub returns : goal.returns
returns c =
    three_parts c.push_targets.result c.args.names.now.items c.push_chan.new.names.items c.push_given_setter.new.names.items c.push_targets.new.names.items _ _ _
    c.in_ok-push_chan.ensures c.in_ok-push_given_setter.ensures c.push_targets.ensures
