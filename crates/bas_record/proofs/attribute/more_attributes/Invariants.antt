use Rattle.std.proofs.Common.{◌-◌, length}
use Rattle.bas_form.specs.Reader.{IsAsFar}
use Rattle.bas_record.specs.Reading.{next_attr}
use Rattle.bas_record.proofs.attribute.more_attributes.Given as goal

abbrev pub invariant-more : goal.invariant-more
invariant-more l = IsAsFar (next_attr l.line) (length l.line) l.fn.at l.all.items l.at

abbrev pub decreases-more : goal.decreases-more
decreases-more l = length l.line - l.at
