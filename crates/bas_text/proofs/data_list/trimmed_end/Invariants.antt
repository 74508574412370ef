use Rattle.std.proofs.Common.{◌≡◌, ◌≤◌, ◌-◌, map}
use Rattle.bas_text.specs.Trim.{as_space, trim_right, between}
use Rattle.bas_text.proofs.data_list.trimmed_end.Given as goal

abbrev pub invariant-loop-end : goal.invariant-loop-end
invariant-loop-end l =
    record {
      low : l.from ≤ l.end;
      high : l.end ≤ l.to;
      same : trim_right (map as_space (between l.text l.from l.to)) ≡ trim_right (map as_space (between l.text l.from l.end));
    }

abbrev pub decreases-loop-end : goal.decreases-loop-end
decreases-loop-end l = l.end - l.from
