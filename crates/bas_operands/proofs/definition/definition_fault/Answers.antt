-- The name that is set, and then the value.
use Rattle.std.proofs.Common.{sym, ◌∙◌}
use Rattle.bas_ast.specs.Tree.{NoExprs, Variable}
use Rattle.bas_ast.specs.ExpressionTree.{expr_tree}
use Rattle.bas_scope.specs.Nodes.{OfTarget, expr_nodes}
use Rattle.bas_names.specs.Names.{senses_in}
use Rattle.bas_operands.specs.Operands.{least}
use Rattle.bas_operands.proofs.Rows.{fault_first}
use Rattle.bas_operands.proofs.definition.definition_fault.Goals as goal

pub returns : goal.returns
returns c =
    c.least.ensures
    ∙ ((λ i. least (c.bare_target_fault.ensures i) (c.expr_fault.ensures i))
    ∙ sym (fault_first (senses_in c.args.names.now) (OfTarget (Variable c.args.name NoExprs)) (expr_nodes (expr_tree c.args.value.now))))
