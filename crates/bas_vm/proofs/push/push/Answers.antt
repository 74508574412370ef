use Rattle.std.proofs.Common.{sym, subst}
use Rattle.bas_code.specs.declared.instr.Instr.TheVariants as instr
use Rattle.bas_vm.specs.Shown.{stacked, memory_of}
use Rattle.bas_vm.specs.Rows.{Reads}
use Rattle.bas_vm.proofs.push.push.Goals as goal

pub returns-in-Load-clause-leads : goal.returns-in-Load-clause-leads
returns-in-Load-clause-leads c =
    subst (λ i. Reads (memory_of c.args.slots c.args.cells.now) (instr.Push i) (stacked c.args.stack.now.items) c.load.result (stacked c.load.new.stack.items)) (sym c.in-Load.is) c.load.ensures.leads

pub returns-in-Ref-clause-leads : goal.returns-in-Ref-clause-leads
returns-in-Ref-clause-leads c =
    subst (λ i. Reads (memory_of c.args.slots c.args.cells.now) (instr.Push i) (stacked c.args.stack.now.items) c.refer.result (stacked c.refer.new.stack.items)) (sym c.in-Ref.is) c.refer.ensures.leads
