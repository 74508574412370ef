use Rattle.std.proofs.Common.{◌≡◌, ◌++◌, length}
use Rattle.bas_source.specs.Lines.{joined, joined_from, onto_line}
use Rattle.bas_source.proofs.join.joined.Given as goal

-- the logical lines so far and those that begin with what is open are all of them
abbrev pub invariant-loop-next : goal.invariant-loop-next
invariant-loop-next l = l.done.items ++ onto_line l.front.items (joined_from l.before l.line l.rest) ≡ joined l.lines

abbrev pub decreases-loop-next : goal.decreases-loop-next
decreases-loop-next l = length l.rest
