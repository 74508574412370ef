use Rattle.std.proofs.Common.{◌-◌, length}
use Rattle.bas_expr.proofs.LoopLaws.{HasListed}
use Rattle.bas_declaration.specs.Reading.{next_case}
use Rattle.bas_declaration.proofs.case.more_cases.Given as goal

abbrev pub invariant-more : goal.invariant-more
invariant-more l = HasListed (next_case l.line) (length l.line) l.fn.first l.fn.at l.all.items l.at

abbrev pub decreases-more : goal.decreases-more
decreases-more l = length l.line - l.at
