use Rattle.bas_vm.proofs.Images.{answers}
use Rattle.bas_vm.proofs.top.run.Goals as goal

pub returns-clause-only : goal.returns-clause-only
returns-clause-only g c = λ input e r. answers c.args.image.now c.args.lines (g.O.Sink.taken c.args.out.now) (g.O.Sink.taken c.run_first.new.out) c.run_first.result c.run_first.ensures.does input e r
