use Rattle.std.proofs.Common.{◌≡◌, length}
use Rattle.bas_vm.proofs.Taking.{Sending}
use Rattle.bas_vm.proofs.write.write_all.Given as goal

abbrev pub invariant-loop-rest : goal.invariant-loop-rest
invariant-loop-rest g l = Sending (g.O.Sink.taken l.initial.out) (g.O.Sink.taken l.out) l.bytes l.rest × (g.O.Sink.faults l.out ≡ g.O.Sink.faults l.initial.out)

abbrev pub decreases-loop-rest : goal.decreases-loop-rest
decreases-loop-rest g l = length l.rest
