use Rattle.std.proofs.Common.{◌-◌, length}
use Rattle.bas_form.specs.Reader.{IsAsFar}
use Rattle.bas_record.specs.Recording.{next_formatted}
use Rattle.bas_record.proofs.print.more_formatted.Given as goal

abbrev pub invariant-more : goal.invariant-more
invariant-more l = IsAsFar (next_formatted l.line) (length l.line) l.fn.at l.all.items l.at

abbrev pub decreases-more : goal.decreases-more
decreases-more l = length l.line - l.at
