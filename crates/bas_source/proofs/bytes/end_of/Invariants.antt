use Rattle.std.proofs.Common.{◌≡◌, ◌+◌, ◌≤◌, length, take}
use Rattle.std.specs.List.{suffix_len}
use Rattle.bas_source.specs.Lines.{is_space}
use Rattle.bas_source.proofs.bytes.end_of.Given as goal

-- what is cut off so far, and what is still to be cut off, are all the spaces at the end
abbrev pub invariant-loop-end : goal.invariant-loop-end
invariant-loop-end l = record {
  within : l.end ≤ length l.line;
  spaces : l.end + suffix_len is_space l.line ≡ length l.line + suffix_len is_space (take l.end l.line);
}

abbrev pub decreases-loop-end : goal.decreases-loop-end
decreases-loop-end l = l.end
