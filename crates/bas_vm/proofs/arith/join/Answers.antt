use Rattle.bas_vm.specs.Shown.{stacked}
use Rattle.bas_vm.proofs.Arithmetic.{join-raises}
use Rattle.bas_vm.proofs.arith.join.Goals as goal

pub returns-in-Err-clause-leads : goal.returns-in-Err-clause-leads
returns-in-Err-clause-leads c =
    join-raises c.args.proc.now c.args.pc c.args.i c.requires.operator (stacked c.args.stack.now.items) (stacked c.pop_number.new.stack.items) (stacked c.pop_number-2.new.stack.items)
    c.in-Some-pop_number.x c.in-Some.y c.in-Err.ex c.stop.result c.in-Some.ensures c.in-Some-pop_number.ensures c.in-Err.ensures c.stop.ensures
