use Rattle.std.proofs.Common.{◌≡◌, drop}
use Rattle.bas_code.specs.Guards.{entry_at}
use Rattle.bas_vm.proofs.stop.entry_at.Given as goal

-- the entries that are left decide
abbrev pub invariant-loop-entry : goal.invariant-loop-entry
invariant-loop-entry l = entry_at (drop l.entry-index l.lines) l.pc ≡ entry_at l.lines l.pc
