use Rattle.std.proofs.Common.{◌-◌, length}
use Rattle.bas_expr.proofs.LoopLaws.{HasListed}
use Rattle.bas_line.specs.Reading.{next_number}
use Rattle.bas_line.proofs.jump.more_numbers.Given as goal

abbrev pub invariant-more : goal.invariant-more
invariant-more l = HasListed (next_number l.line) (length l.line) l.fn.first l.fn.at l.all.items l.at

abbrev pub decreases-more : goal.decreases-more
decreases-more l = length l.line - l.at
