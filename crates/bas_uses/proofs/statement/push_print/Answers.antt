-- What the first part uses stands first.
use Rattle.bas_uses.proofs.Appending.{two_parts}
use Rattle.bas_uses.proofs.statement.push_print.Goals as goal

pub returns : goal.returns
returns c =
    two_parts c.push_given_plist.result c.args.names.now.items c.push_chan.new.names.items c.push_given_plist.new.names.items _ _ c.in_ok-push_chan.ensures c.push_given_plist.ensures
