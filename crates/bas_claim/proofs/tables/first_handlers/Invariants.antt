-- The first lines among those that are taken.
use Rattle.std.proofs.Common.{take}
use Rattle.bas_names.specs.Lent.{line_trees}
use Rattle.bas_rules.specs.Naming.{handler_name}
use Rattle.bas_claim.specs.First.{AreFirst}
use Rattle.bas_claim.proofs.tables.first_handlers.Given as goal

abbrev pub invariant-loop-line : goal.invariant-loop-line
invariant-loop-line l = AreFirst l.first handler_name (line_trees (take l.line-index l.lines))
