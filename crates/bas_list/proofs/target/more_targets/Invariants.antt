use Rattle.std.proofs.Common.{◌-◌, length}
use Rattle.bas_expr.proofs.LoopLaws.{HasListed}
use Rattle.bas_list.specs.Reading.{next_target}
use Rattle.bas_list.proofs.target.more_targets.Given as goal

abbrev pub invariant-more : goal.invariant-more
invariant-more l = HasListed (next_target l.line) (length l.line) l.fn.first l.fn.at l.all.items l.at

abbrev pub decreases-more : goal.decreases-more
decreases-more l = length l.line - l.at
