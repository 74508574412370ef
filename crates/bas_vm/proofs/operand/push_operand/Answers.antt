use Rattle.std.proofs.Common.{ap, ◌∙◌}
use Rattle.bas_vm.specs.Shown.{stacked}
use Rattle.bas_vm.proofs.Stacks.{stacked-more}
use Rattle.bas_vm.proofs.operand.push_operand.Goals as goal

pub returns-in-Ok : goal.returns-in-Ok
returns-in-Ok c = ap stacked c.in-Ok.ensures.items ∙ stacked-more c.args.stack.now.items c.args.x
