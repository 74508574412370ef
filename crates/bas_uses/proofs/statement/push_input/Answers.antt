-- What the first part uses stands first.
use Rattle.bas_uses.proofs.Appending.{two_parts}
use Rattle.bas_uses.proofs.statement.push_input.Goals as goal

pub returns : goal.returns
returns c =
    two_parts c.push_targets.result c.args.names.now.items c.push_given.new.names.items c.push_targets.new.names.items _ _ c.in_ok-push_given.ensures c.push_targets.ensures
