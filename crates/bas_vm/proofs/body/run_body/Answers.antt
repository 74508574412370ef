use Rattle.std.proofs.Common.{◌∙◌, ◌<◌, refl, sym, subst, length, ◌≤◌}
use Rattle.bas_vm.proofs.Bodies.{Running, Running-next, Running-goes, Running-ends, Running-off, read-at, fit-unguarded, fit-right}
use Rattle.bas_vm.proofs.Measure.{measure, jump-falls}
use Rattle.bas_vm.proofs.body.run_body.Goals as goal

pub loop-pc-preserved-in-Onward : goal.loop-pc-preserved-in-Onward
loop-pc-preserved-in-Onward g c = (
  Running-next c.args.proc.now c.args.held.now c.loop-pc.held c.perform.new.held c.loop-pc.pc c.index-code-pc.result (g.O.Sink.taken c.args.out.now) (g.O.Sink.taken c.loop-pc.out) (g.O.Sink.taken c.perform.new.out)
      c.loop-pc.invariant.0 (read-at c.items-code.result.now c.args.proc.now.code c.loop-pc.pc c.loop-pc.pc c.index-code-pc.result c.items-code.ensures refl c.loop-pc-test.true c.index-code-pc.is) c.in-Onward.ensures.does,
  c.in-Onward.ensures.counted.stands refl ∙ c.loop-pc.invariant.1,
)

pub loop-pc-preserved : goal.loop-pc-preserved
loop-pc-preserved g c = (
  subst (λ pc. Running c.args.proc.now c.args.held.now c.perform.new.held pc (g.O.Sink.taken c.args.out.now) (g.O.Sink.taken c.perform.new.out)) (sym c.from-pc.ensures)
      (Running-goes c.args.proc.now c.args.held.now c.loop-pc.held c.perform.new.held c.loop-pc.pc c.index-code-pc.result (g.O.Sink.taken c.args.out.now) (g.O.Sink.taken c.loop-pc.out) (g.O.Sink.taken c.perform.new.out)
      c.loop-pc.invariant.0 (read-at c.items-code.result.now c.args.proc.now.code c.loop-pc.pc c.loop-pc.pc c.index-code-pc.result c.items-code.ensures refl c.loop-pc-test.true c.index-code-pc.is) c.in-Goes.a c.in-Goes.ensures.does),
  c.in-Goes.ensures.counted.stands refl ∙ c.loop-pc.invariant.1,
)

pub loop-pc-smaller : goal.loop-pc-smaller
loop-pc-smaller g c =
    subst (λ pc. measure c.items-code.result.now pc c.perform.new.held.left < measure c.items-code.result.now c.loop-pc.pc c.loop-pc.held.left) (sym c.from-pc.ensures)
    (jump-falls c.items-code.result.now c.loop-pc.pc c.in-Goes.a c.loop-pc.held.left c.perform.new.held.left c.index-code-pc.result
    (fit-right c.args.proc.now c.items-code.result.now c.items-code.ensures c.requires)
    (read-at c.items-code.result.now c.items-code.result.now c.loop-pc.pc c.loop-pc.pc c.index-code-pc.result refl refl c.loop-pc-test.true c.index-code-pc.is)
    c.loop-pc-test.true c.in-Goes.ensures.falls.0 c.in-Goes.ensures.falls.1)

pub returns-in-Ends-clause-does : goal.returns-in-Ends-clause-does
returns-in-Ends-clause-does g c =
    Running-ends c.args.proc.now c.args.held.now c.loop-pc.held c.perform.new.held c.loop-pc.pc c.index-code-pc.result (g.O.Sink.taken c.args.out.now) (g.O.Sink.taken c.loop-pc.out) (g.O.Sink.taken c.perform.new.out)
    c.loop-pc.invariant.0 (read-at c.items-code.result.now c.args.proc.now.code c.loop-pc.pc c.loop-pc.pc c.index-code-pc.result c.items-code.ensures refl c.loop-pc-test.true c.index-code-pc.is) c.in-Ends.turn (fit-unguarded c.args.proc.now c.requires) c.in-Ends.ensures.does

pub returns-clause-does : goal.returns-clause-does
returns-clause-does g c =
    Running-off c.args.proc.now c.args.held.now c.loop-pc.held c.loop-pc.pc (g.O.Sink.taken c.args.out.now) (g.O.Sink.taken c.loop-pc.out) c.loop-pc.invariant.0
    (subst (λ code. length code ≤ c.loop-pc.pc) c.items-code.ensures c.loop-pc-test.false)
