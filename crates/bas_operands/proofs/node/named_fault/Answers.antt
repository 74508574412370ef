-- All rules on a name with arguments.
use Rattle.std.proofs.Common.{◌∙◌}
use Rattle.bas_scope.specs.Senses.{sense_told}
use Rattle.bas_names.specs.Names.{senses_in}
use Rattle.bas_operands.proofs.NodeFaults.{named_is}
use Rattle.bas_operands.proofs.node.named_fault.Goals as goal

pub returns : goal.returns
returns c =
    c.first_broken.ensures
    ∙ named_is (senses_in c.args.names.now) c.args.name c.args.actuals.now (sense_told c.named-sense.result) c.misuses_args.result c.call_agrees.result
    c.misfits_function.result c.miscounts.result c.are_too_many.result c.takes_none.result c.named-sense.ensures c.misuses_args.ensures
    c.call_agrees.ensures c.misfits_function.ensures c.miscounts.ensures c.are_too_many.ensures c.takes_none.ensures
