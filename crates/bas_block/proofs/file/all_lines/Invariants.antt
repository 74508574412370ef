use Rattle.std.proofs.Common.{◌≡◌, ◌+◌, ◌≤◌, length}
use Rattle.bas_block.specs.Files.{lines_of, onto_all}
use Rattle.bas_block.proofs.file.all_lines.Given as goal

-- the lines so far and those of the rest are all of them; as numbers rise, no count passes them
abbrev pub invariant-loop-text : goal.invariant-loop-text
invariant-loop-text l = record {
  lines : onto_all l.lines.items (lines_of l.count l.last l.rest) ≡ lines_of 1 0 l.texts;
  counted : l.count ≤ l.last + 1;
  small : l.last ≤ 99999;
}

abbrev pub decreases-loop-text : goal.decreases-loop-text
decreases-loop-text l = length l.rest
