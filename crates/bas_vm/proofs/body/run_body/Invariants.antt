use Rattle.std.proofs.Common.{◌≡◌}
use Rattle.bas_vm.proofs.Bodies.{Running}
use Rattle.bas_vm.proofs.Measure.{measure}
use Rattle.bas_vm.proofs.body.run_body.Given as goal

abbrev pub invariant-loop-pc : goal.invariant-loop-pc
invariant-loop-pc g l =
    Running l.proc l.initial.held l.held l.pc (g.O.Sink.taken l.initial.out) (g.O.Sink.taken l.out) × (g.O.Sink.faults l.out ≡ g.O.Sink.faults l.initial.out)

abbrev pub decreases-loop-pc : goal.decreases-loop-pc
decreases-loop-pc g l = measure l.code l.pc l.held.left
