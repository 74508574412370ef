-- What the first part uses stands first.
use Rattle.bas_uses.proofs.Appending.{two_parts}
use Rattle.bas_uses.proofs.statement.push_print_using.Goals as goal

pub returns : goal.returns
returns c =
    two_parts c.push_formatted.result c.args.names.now.items c.push_given_chan.new.names.items c.push_formatted.new.names.items _ _ c.in_ok-push_given_chan.ensures c.push_formatted.ensures
