use Rattle.std.proofs.Common.{length}
use Rattle.bas_cell.proofs.bounds.+elements.Given as goal

abbrev pub decreases-elements : goal.decreases-elements
decreases-elements l = length l.bounds.now
