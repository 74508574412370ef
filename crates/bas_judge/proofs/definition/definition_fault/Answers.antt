-- The lesser of what the one line breaks as a whole and what its operands break.
use Rattle.std.proofs.Common.{sym, ap, ◌∙◌}
use Rattle.bas_ast.specs.ExpressionTree.{expr_tree}
use Rattle.bas_ast.specs.Tree.{Nothing}
use Rattle.bas_scope.specs.Nodes.{item_nodes}
use Rattle.bas_rules.specs.Sites.{site_at}
use Rattle.bas_operands.specs.Operands.{nodes_fault, least}
use Rattle.bas_judge.specs.Definitions.{definition_item, definition_line}
use Rattle.bas_judge.proofs.definition.definition_fault.Goals as goal

pub returns : goal.returns
returns c = λ ground stands.
    let value = expr_tree c.args.value.now in
    let own = c.in_ok-own.ensures ground stands in
    let operands =
    c.definition_fault.ensures
    ∙ ap (λ s. nodes_fault s (item_nodes (definition_item c.args.name value))) stands.names in
    c.least.ensures
    ∙ ((λ i. least (own i) (operands i))
    ∙ sym (c.faults_of_places.ensures.one (site_at ground Nothing (definition_line c.args.line c.args.name value))))
