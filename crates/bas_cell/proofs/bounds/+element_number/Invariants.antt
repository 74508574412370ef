use Rattle.std.proofs.Common.{length}
use Rattle.bas_cell.proofs.bounds.+element_number.Given as goal

abbrev pub decreases-element_number : goal.decreases-element_number
decreases-element_number l = length l.bounds.now
