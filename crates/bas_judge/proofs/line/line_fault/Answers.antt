-- The lesser of what the line breaks as a whole and what its operands break.
use Rattle.std.proofs.Common.{sym, ap, ◌∙◌}
use Rattle.bas_ast.specs.BlockTree.{item_tree, line_tree}
use Rattle.bas_scope.specs.Nodes.{item_nodes}
use Rattle.bas_rules.specs.Sites.{site_at}
use Rattle.bas_operands.specs.Operands.{nodes_fault, least}
use Rattle.bas_judge.proofs.line.line_fault.Goals as goal

pub returns : goal.returns
returns c = λ ground stands.
    let own = c.in_ok-own.ensures ground stands in
    let operands = c.operands_fault.ensures ∙ ap (λ s. nodes_fault s (item_nodes (item_tree c.args.line.now.item))) stands.names in
    c.least.ensures
    ∙ ((λ i. least (own i) (operands i)) ∙ sym (c.faults_of_places.ensures.one (site_at ground (item_tree c.args.opener.now) (line_tree c.args.line.now))))
