-- The first item, and those behind it.
use Rattle.bas_uses.proofs.Appending.{two_parts}
use Rattle.bas_uses.proofs.printed.push_plist.Goals as goal

pub returns : goal.returns
returns c =
    two_parts c.push_items.result c.args.names.now.items c.push_item.new.names.items c.push_items.new.names.items _ _
    c.in_ok-push_item.ensures (rw (← c.items.ensures) c.push_items.ensures)
