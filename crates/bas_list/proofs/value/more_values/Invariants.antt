use Rattle.std.proofs.Common.{◌-◌, length}
use Rattle.bas_expr.proofs.LoopLaws.{HasListed}
use Rattle.bas_list.specs.Reading.{next_value}
use Rattle.bas_list.proofs.value.more_values.Given as goal

abbrev pub invariant-more : goal.invariant-more
invariant-more l = HasListed (next_value l.line l.depth) (length l.line) l.fn.first l.fn.at l.all.items l.at

abbrev pub decreases-more : goal.decreases-more
decreases-more l = length l.line - l.at
