use Rattle.std.proofs.Common.{◌≡◌, ◌-◌, ◌++◌, length, drop}
use Rattle.bas_expr.specs.Words.{inside_quotes}
use Rattle.bas_expr.proofs.word.inside_quotes.Given as goal

abbrev pub invariant-bytes : goal.invariant-bytes
invariant-bytes l = l.bytes.items ++ inside_quotes (drop l.at l.text) ≡ inside_quotes (drop l.fn.from l.text)

abbrev pub decreases-bytes : goal.decreases-bytes
decreases-bytes l = length l.text - l.at
