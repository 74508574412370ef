use Rattle.std.proofs.Common.{rules}
use Rattle.bas_cell.proofs.Fresh.{zero_low}
use Rattle.bas_cell.proofs.values.zero.Goals as goal

pub unwrap-requires : goal.unwrap-requires
unwrap-requires c = rw (c.of_parts.ensures, zero_low) (search rules)
