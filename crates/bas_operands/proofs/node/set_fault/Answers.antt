-- All rules on a target, by what its name is.
use Rattle.std.proofs.Common.{◌∙◌}
use Rattle.bas_scope.specs.Senses.{sense_told}
use Rattle.bas_names.specs.Names.{senses_in}
use Rattle.bas_operands.proofs.NodeFaults.{set_is}
use Rattle.bas_operands.proofs.node.set_fault.Goals as goal

pub returns : goal.returns
returns c =
    c.first_broken.ensures
    ∙ set_is (senses_in c.args.names.now) c.args.name c.args.subscripts (sense_told c.named-sense.result) c.misuses_target.result c.args.agrees
    c.is_set_outside.result c.named-sense.ensures c.misuses_target.ensures c.is_set_outside.ensures
