use Rattle.std.proofs.Common.{sym, subst, refl}
use Rattle.bas_code.specs.declared.instr.Instr.TheVariants as instr
use Rattle.bas_vm.specs.Steps.{StepOf}
use Rattle.bas_vm.specs.Steps.StepOf.{Silent}
use Rattle.bas_vm.proofs.Printing.{number-nowhere, end-nowhere}
use Rattle.bas_vm.proofs.print.print.Goals as goal

pub returns-else-channel-clause-does : goal.returns-else-channel-clause-does
returns-else-channel-clause-does g c =
    subst (λ i. StepOf c.args.proc.now c.args.pc (instr.Print i) c.args.held.now c.args.held.now (g.O.Sink.taken c.args.out.now) (g.O.Sink.taken c.args.out.now) _) (sym c.in-PrintNum.is)
    (Silent _ (number-nowhere c.args.proc.now c.args.pc c.args.held.now c.args.held.now c.in-PrintNum.channel c.if-channel.false) refl)

pub returns-else-channel-2-clause-does : goal.returns-else-channel-2-clause-does
returns-else-channel-2-clause-does g c =
    subst (λ i. StepOf c.args.proc.now c.args.pc (instr.Print i) c.args.held.now c.args.held.now (g.O.Sink.taken c.args.out.now) (g.O.Sink.taken c.args.out.now) _) (sym c.in-PrintEnd.is)
    (Silent _ (end-nowhere c.args.proc.now c.args.pc c.args.held.now c.args.held.now c.in-PrintEnd.channel c.if-channel-2.false) refl)
