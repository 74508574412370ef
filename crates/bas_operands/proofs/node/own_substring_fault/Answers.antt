-- All rules on a substring.
use Rattle.std.proofs.Common.{◌∙◌}
use Rattle.bas_ast.specs.ExpressionTree.{expr_tree}
use Rattle.bas_scope.specs.Senses.{sense_told}
use Rattle.bas_names.specs.Names.{senses_in}
use Rattle.bas_operands.proofs.NodeFaults.{substring_is}
use Rattle.bas_operands.proofs.node.own_substring_fault.Goals as goal

pub returns : goal.returns
returns c =
    c.first_broken.ensures
    ∙ substring_is (senses_in c.args.names.now) c.args.target.now (expr_tree c.args.first.now) (expr_tree c.args.last.now) (sense_told c.named.result)
    c.substring_agrees.result c.is_function.result c.named.ensures (c.substring_agrees.ensures (senses_in c.args.names.now)) c.is_function.ensures
