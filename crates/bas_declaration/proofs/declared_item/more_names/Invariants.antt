use Rattle.std.proofs.Common.{◌-◌, length}
use Rattle.bas_expr.proofs.LoopLaws.{HasListed}
use Rattle.bas_declaration.specs.Declaring.{next_name}
use Rattle.bas_declaration.proofs.declared_item.more_names.Given as goal

abbrev pub invariant-more : goal.invariant-more
invariant-more l = HasListed (next_name l.line) (length l.line) l.fn.first l.fn.at l.all.items l.at

abbrev pub decreases-more : goal.decreases-more
decreases-more l = length l.line - l.at
