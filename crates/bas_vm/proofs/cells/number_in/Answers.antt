use Rattle.bas_vm.proofs.Slots.{number-there, number-nowhere}
use Rattle.bas_vm.proofs.cells.number_in.Goals as goal

pub returns-then-n-cells : goal.returns-then-n-cells
returns-then-n-cells c = number-there c.args.cells.now c.from-n.result c.args.n c.index-cells-n.result c.from-n.ensures c.if-n-cells.true c.index-cells-n.is

pub returns-else-n-cells : goal.returns-else-n-cells
returns-else-n-cells c = number-nowhere c.args.cells.now c.from-n.result c.args.n c.from-n.ensures c.if-n-cells.false
