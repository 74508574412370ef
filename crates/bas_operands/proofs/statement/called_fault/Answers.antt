-- CALL and its arguments.
use Rattle.std.proofs.Common.{◌∙◌}
use Rattle.bas_names.specs.Names.{senses_in}
use Rattle.bas_operands.proofs.Walk.{call_parts}
use Rattle.bas_operands.proofs.statement.called_fault.Goals as goal

pub returns : goal.returns
returns c =
    c.least.ensures
    ∙ call_parts (senses_in c.args.names.now) c.args.name c.args.args.now c.as_slice-actuals.result.now c.call_fault.result c.actuals_fault.result
    c.as_slice-actuals.ensures c.call_fault.ensures c.actuals_fault.ensures
