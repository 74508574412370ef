use Rattle.bas_vm.proofs.Slots.{own-cell, no-own-cell}
use Rattle.bas_vm.proofs.cells.cell_number.Goals as goal

pub returns-then-place-slots : goal.returns-then-place-slots
returns-then-place-slots c = own-cell c.args.place c.args.slots c.in-Own.is c.if-place-slots.true

pub returns-else-place-slots : goal.returns-else-place-slots
returns-else-place-slots c = no-own-cell c.args.place c.args.slots c.in-Own.is c.if-place-slots.false
