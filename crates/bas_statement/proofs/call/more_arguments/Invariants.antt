use Rattle.std.proofs.Common.{◌-◌, length}
use Rattle.bas_expr.proofs.LoopLaws.{HasListed}
use Rattle.bas_statement.specs.Reading.{next_argument}
use Rattle.bas_statement.proofs.call.more_arguments.Given as goal

abbrev pub invariant-more : goal.invariant-more
invariant-more l = HasListed (next_argument l.line) (length l.line) l.fn.first l.fn.at l.all.items l.at

abbrev pub decreases-more : goal.decreases-more
decreases-more l = length l.line - l.at
