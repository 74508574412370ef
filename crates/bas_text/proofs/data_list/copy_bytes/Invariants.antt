use Rattle.std.proofs.Common.{◌≡◌, ◌++◌, map}
use Rattle.bas_text.specs.Trim.{as_space, between}
use Rattle.bas_text.proofs.data_list.copy_bytes.Given as goal

abbrev pub invariant-loop-at : goal.invariant-loop-at
invariant-loop-at l = l.out.items ≡ l.initial.out.items ++ map as_space (between l.text l.from l.at)
