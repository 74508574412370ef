use Rattle.std.proofs.Common.{◌≡◌, [], replicate}
use Rattle.bas_cell.proofs.values.empty_strings.Given as goal

abbrev pub invariant-loop : goal.invariant-loop
invariant-loop l = l.made.items ≡ replicate l.counter []
