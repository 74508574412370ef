use Rattle.std.proofs.Common.{◌≡◌, ◌++◌, length}
use Rattle.bas_source.specs.Lines.{plain_text}
use Rattle.bas_source.proofs.lines.plain_text.Given as goal

-- the text so far and that of the rest are the whole text
abbrev pub invariant-loop-first : goal.invariant-loop-first
invariant-loop-first l = l.text.items ++ plain_text l.rest ≡ plain_text l.file

abbrev pub decreases-loop-first : goal.decreases-loop-first
decreases-loop-first l = length l.rest
