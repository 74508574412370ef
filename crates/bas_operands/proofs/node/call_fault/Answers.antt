-- All rules on a CALL.
use Rattle.std.proofs.Common.{◌∙◌}
use Rattle.bas_scope.specs.Senses.{sense_told}
use Rattle.bas_names.specs.Names.{senses_in}
use Rattle.bas_operands.proofs.NodeFaults.{call_is}
use Rattle.bas_operands.proofs.node.call_fault.Goals as goal

pub returns : goal.returns
returns c =
    c.first_broken.ensures
    ∙ call_is (senses_in c.args.names.now) c.args.name c.args.actuals.now (sense_told c.called-sense.result) c.call_agrees.result c.misfits_sub.result
    c.are_too_many.result c.is_function.result c.called-sense.ensures c.call_agrees.ensures c.misfits_sub.ensures c.are_too_many.ensures
    c.is_function.ensures
