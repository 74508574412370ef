-- All rules on a target.
use Rattle.std.proofs.Common.{◌∙◌}
use Rattle.bas_names.specs.Names.{senses_in}
use Rattle.bas_operands.proofs.NodeFaults.{target_is}
use Rattle.bas_operands.proofs.node.own_target_fault.Goals as goal

pub returns : goal.returns
returns c =
    c.set_fault.ensures
    ∙ target_is (senses_in c.args.names.now) c.args.target.now c.as_slice-subscripts.result.now c.target_agrees.result c.as_slice-subscripts.ensures
    c.target_agrees.ensures
