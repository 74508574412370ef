use Rattle.std.proofs.Common.{◌≡◌, ◌+◌, ◌-◌, ◌≤◌, length}
use Rattle.bas_declaration.specs.Reading.{row}
use Rattle.bas_declaration.proofs.formal.count_commas.Given as goal

abbrev pub invariant-more : goal.invariant-more
invariant-more l = (length (row l.line l.fn.at).0 ≡ l.count + length (row l.line l.at).0) × ((row l.line l.fn.at).1 ≡ (row l.line l.at).1) × (l.count ≤ l.at) × (l.at ≤ 4096)

abbrev pub decreases-more : goal.decreases-more
decreases-more l = length l.line - l.at
