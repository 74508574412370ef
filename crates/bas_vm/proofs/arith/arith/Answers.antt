use Rattle.std.proofs.Common.{sym, subst}
use Rattle.bas_code.specs.declared.instr.Instr.TheVariants as instr
use Rattle.bas_vm.specs.Shown.{stacked}
use Rattle.bas_vm.specs.Rows.{MovesAt}
use Rattle.bas_vm.proofs.arith.arith.Goals as goal

pub returns-in-Negate-clause-leads : goal.returns-in-Negate-clause-leads
returns-in-Negate-clause-leads c =
    subst (λ i. MovesAt c.args.proc.now c.args.pc (instr.Arith i) (stacked c.args.stack.now.items) c.negate.result (stacked c.negate.new.stack.items)) (sym c.in-Negate.is)
    (λ image body w. c.negate.ensures.leads image c.args.proc.now body c.args.pc w)
