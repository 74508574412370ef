use Rattle.std.proofs.Common.{[], ◌∷◌, refl}
use Rattle.bas_vm.specs.Steps.StepOf.{Printed, Torn}
use Rattle.bas_vm.proofs.Printing.{turn-gives-up}
use Rattle.bas_vm.proofs.print.end_line.Goals as goal

pub returns-in-Ok-clause-does : goal.returns-in-Ok-clause-does
returns-in-Ok-clause-does g c = Printed (10 ∷ []) (λ image body input output. refl) c.in-Ok.ensures.all

pub returns-in-Err-clause-does : goal.returns-in-Err-clause-does
returns-in-Err-clause-does g c =
    Torn c.turn_of.result (turn-gives-up c.turn_of.result c.in-Err.fail c.turn_of.ensures) (10 ∷ []) (record c.args.held.now { column = 0 }) (λ image body input output. refl) c.in-Err.ensures.prefix
