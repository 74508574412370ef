use Rattle.std.proofs.Common.{refl}
use Rattle.bas_dec.specs.Text.{text_of}
use Rattle.bas_vm.specs.Rows.{item_bytes, item_column}
use Rattle.bas_vm.specs.Steps.StepOf.{Silent, Printed, Torn}
use Rattle.bas_vm.proofs.Printing.{turn-gives-up, number-lost, number-prints}
use Rattle.bas_vm.proofs.print.print_number.Goals as goal

pub returns-in_default-clause-does : goal.returns-in_default-clause-does
returns-in_default-clause-does g c = Silent _ (number-lost c.args.proc.now c.args.pc c.args.held.now (record c.args.held.now { stack = c.pop_number.new.stack }) c.in_default.ensures) refl

pub returns-in-Ok-clause-does : goal.returns-in-Ok-clause-does
returns-in-Ok-clause-does g c =
    Printed (item_bytes c.args.held.now.column (text_of c.in-Some.x))
    (number-prints c.args.proc.now c.args.pc c.args.held.now (record c.args.held.now { stack = c.pop_number.new.stack; column = c.print_item.new.column }) c.in-Some.x c.in-Some.ensures refl refl c.in-Ok.ensures.column)
    c.in-Ok.ensures.all

pub returns-in-Err-clause-does : goal.returns-in-Err-clause-does
returns-in-Err-clause-does g c =
    Torn c.turn_of.result (turn-gives-up c.turn_of.result c.in-Err.fail c.turn_of.ensures) (item_bytes c.args.held.now.column (text_of c.in-Some.x))
    (record c.args.held.now { stack = c.pop_number.new.stack; column = item_column c.args.held.now.column (text_of c.in-Some.x) })
    (number-prints c.args.proc.now c.args.pc c.args.held.now (record c.args.held.now { stack = c.pop_number.new.stack; column = item_column c.args.held.now.column (text_of c.in-Some.x) }) c.in-Some.x c.in-Some.ensures refl refl refl)
    c.in-Err.ensures.prefix
