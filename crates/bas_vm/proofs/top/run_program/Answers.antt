use Rattle.bas_vm.proofs.Bodies.{program-does}
use Rattle.bas_vm.proofs.top.run_program.Goals as goal

pub returns-in-Ok-clause-does : goal.returns-in-Ok-clause-does
returns-in-Ok-clause-does g c = program-does c.args.proc.now c.args.lines c.in-Ok.held _ _ c.run_body.result c.in-Ok.ensures c.run_body.ensures.does
