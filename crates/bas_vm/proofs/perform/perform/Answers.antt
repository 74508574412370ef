use Rattle.std.proofs.Common.{refl, sym, ap}
use Rattle.bas_code.specs.declared.instr.Instr.TheVariants as instr
use Rattle.bas_vm.specs.Shown.{stacked, memory_of, world_of}
use Rattle.bas_vm.proofs.Performing.{silent, silent-counts}
use Rattle.bas_vm.proofs.perform.perform.Goals as goal

pub returns-in-Mark-clause-does : goal.returns-in-Mark-clause-does
returns-in-Mark-clause-does g c =
    silent c.args.proc.now c.args.pc c.args.i (instr.Mark c.in-Mark.field-0) c.args.held.now (record c.args.held.now { left = c.mark.new.left }) (g.O.Sink.taken c.args.out.now) c.mark.result c.in-Mark.is
    (λ image body input output. c.mark.ensures.leads image c.args.proc.now c.in-Mark.field-0 body c.args.pc (stacked c.args.held.now.stack.items) (world_of c.args.proc.now.slots input output c.args.held.now) refl)

pub returns-in-Mark-clause-counted : goal.returns-in-Mark-clause-counted
returns-in-Mark-clause-counted g c =
    silent-counts c.args.proc.now c.args.pc (instr.Mark c.in-Mark.field-0) c.args.held.now (record c.args.held.now { left = c.mark.new.left }) c.mark.result (g.O.Sink.faults c.args.out.now)
    (λ image body input output. c.mark.ensures.leads image c.args.proc.now c.in-Mark.field-0 body c.args.pc (stacked c.args.held.now.stack.items) (world_of c.args.proc.now.slots input output c.args.held.now) refl)

pub returns-in-Jump-clause-does : goal.returns-in-Jump-clause-does
returns-in-Jump-clause-does g c =
    silent c.args.proc.now c.args.pc c.args.i (instr.Jump c.in-Jump.i) c.args.held.now (record c.args.held.now { stack = c.jump.new.stack }) (g.O.Sink.taken c.args.out.now) c.jump.result c.in-Jump.is
    (λ image body input output. c.jump.ensures.leads image c.args.proc.now body c.args.pc (world_of c.args.proc.now.slots input output c.args.held.now))

pub returns-in-Jump-clause-counted : goal.returns-in-Jump-clause-counted
returns-in-Jump-clause-counted g c =
    silent-counts c.args.proc.now c.args.pc (instr.Jump c.in-Jump.i) c.args.held.now (record c.args.held.now { stack = c.jump.new.stack }) c.jump.result (g.O.Sink.faults c.args.out.now)
    (λ image body input output. c.jump.ensures.leads image c.args.proc.now body c.args.pc (world_of c.args.proc.now.slots input output c.args.held.now))

pub returns-in-Run-clause-does : goal.returns-in-Run-clause-does
returns-in-Run-clause-does g c =
    silent c.args.proc.now c.args.pc c.args.i (instr.Run c.in-Run.i) c.args.held.now c.args.held.now (g.O.Sink.taken c.args.out.now) c.finish.result c.in-Run.is
    (λ image body input output. c.finish.ensures.leads (stacked c.args.held.now.stack.items) image c.args.proc.now body c.args.pc (world_of c.args.proc.now.slots input output c.args.held.now))

pub returns-in-Run-clause-counted : goal.returns-in-Run-clause-counted
returns-in-Run-clause-counted g c =
    silent-counts c.args.proc.now c.args.pc (instr.Run c.in-Run.i) c.args.held.now c.args.held.now c.finish.result (g.O.Sink.faults c.args.out.now)
    (λ image body input output. c.finish.ensures.leads (stacked c.args.held.now.stack.items) image c.args.proc.now body c.args.pc (world_of c.args.proc.now.slots input output c.args.held.now))

pub returns-in-Push-clause-does : goal.returns-in-Push-clause-does
returns-in-Push-clause-does g c =
    silent c.args.proc.now c.args.pc c.args.i (instr.Push c.in-Push.i) c.args.held.now (record c.args.held.now { stack = c.push.new.stack }) (g.O.Sink.taken c.args.out.now) c.push.result c.in-Push.is
    (λ image body input output. c.push.ensures.leads image c.args.proc.now body c.args.pc (world_of c.args.proc.now.slots input output c.args.held.now) (ap (λ cells. memory_of c.args.proc.now.slots cells) (sym c.as_slice.ensures.value)))

pub returns-in-Push-clause-counted : goal.returns-in-Push-clause-counted
returns-in-Push-clause-counted g c =
    silent-counts c.args.proc.now c.args.pc (instr.Push c.in-Push.i) c.args.held.now (record c.args.held.now { stack = c.push.new.stack }) c.push.result (g.O.Sink.faults c.args.out.now)
    (λ image body input output. c.push.ensures.leads image c.args.proc.now body c.args.pc (world_of c.args.proc.now.slots input output c.args.held.now) (ap (λ cells. memory_of c.args.proc.now.slots cells) (sym c.as_slice.ensures.value)))

pub returns-in-Store-clause-does : goal.returns-in-Store-clause-does
returns-in-Store-clause-does g c =
    silent c.args.proc.now c.args.pc c.args.i (instr.Store c.in-Store.i) c.args.held.now (record c.args.held.now { cells = c.store.new.cells; stack = c.store.new.stack }) (g.O.Sink.taken c.args.out.now) c.store.result c.in-Store.is
    (λ image body input output. c.store.ensures.leads c.args.proc.now.slots image c.args.proc.now body c.args.pc (world_of c.args.proc.now.slots input output c.args.held.now) refl)

pub returns-in-Store-clause-counted : goal.returns-in-Store-clause-counted
returns-in-Store-clause-counted g c =
    silent-counts c.args.proc.now c.args.pc (instr.Store c.in-Store.i) c.args.held.now (record c.args.held.now { cells = c.store.new.cells; stack = c.store.new.stack }) c.store.result (g.O.Sink.faults c.args.out.now)
    (λ image body input output. c.store.ensures.leads c.args.proc.now.slots image c.args.proc.now body c.args.pc (world_of c.args.proc.now.slots input output c.args.held.now) refl)

pub returns-in-Arith-clause-does : goal.returns-in-Arith-clause-does
returns-in-Arith-clause-does g c =
    silent c.args.proc.now c.args.pc c.args.i (instr.Arith c.in-Arith.i) c.args.held.now (record c.args.held.now { stack = c.arith.new.stack }) (g.O.Sink.taken c.args.out.now) c.arith.result c.in-Arith.is
    (λ image body input output. c.arith.ensures.leads image body (world_of c.args.proc.now.slots input output c.args.held.now))

pub returns-in-Arith-clause-counted : goal.returns-in-Arith-clause-counted
returns-in-Arith-clause-counted g c =
    silent-counts c.args.proc.now c.args.pc (instr.Arith c.in-Arith.i) c.args.held.now (record c.args.held.now { stack = c.arith.new.stack }) c.arith.result (g.O.Sink.faults c.args.out.now)
    (λ image body input output. c.arith.ensures.leads image body (world_of c.args.proc.now.slots input output c.args.held.now))

pub returns-in-Compare-clause-does : goal.returns-in-Compare-clause-does
returns-in-Compare-clause-does g c =
    silent c.args.proc.now c.args.pc c.args.i (instr.Compare c.in-Compare.i) c.args.held.now (record c.args.held.now { stack = c.compare.new.stack }) (g.O.Sink.taken c.args.out.now) c.compare.result c.in-Compare.is
    (λ image body input output. c.compare.ensures.leads image c.args.proc.now body c.args.pc (world_of c.args.proc.now.slots input output c.args.held.now))

pub returns-in-Compare-clause-counted : goal.returns-in-Compare-clause-counted
returns-in-Compare-clause-counted g c =
    silent-counts c.args.proc.now c.args.pc (instr.Compare c.in-Compare.i) c.args.held.now (record c.args.held.now { stack = c.compare.new.stack }) c.compare.result (g.O.Sink.faults c.args.out.now)
    (λ image body input output. c.compare.ensures.leads image c.args.proc.now body c.args.pc (world_of c.args.proc.now.slots input output c.args.held.now))
