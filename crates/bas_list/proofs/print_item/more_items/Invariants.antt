use Rattle.std.proofs.Common.{◌-◌, length}
use Rattle.bas_form.specs.Reader.{IsAsFar}
use Rattle.bas_list.specs.Reading.{next_item}
use Rattle.bas_list.proofs.print_item.more_items.Given as goal

abbrev pub invariant-more : goal.invariant-more
invariant-more l = IsAsFar (next_item l.line) (length l.line) l.fn.at l.all.items l.at

abbrev pub decreases-more : goal.decreases-more
decreases-more l = length l.line - l.at
