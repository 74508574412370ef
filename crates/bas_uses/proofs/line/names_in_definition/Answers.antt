-- The target of the one statement, and then the names of the value.
use Rattle.std.proofs.Common.{[], ◌∷◌, ◌++◌, ap, ◌∙◌}
use Rattle.bas_ast.specs.ExpressionTree.{expr_tree}
use Rattle.bas_scope.specs.Nodes.{expr_nodes}
use Rattle.bas_uses.specs.Uses.{bare_names}
use Rattle.bas_uses.proofs.line.names_in_definition.Goals as goal

pub returns : goal.returns
unfolding bare_names
returns c =
    c.in_ok-push_expr.ensures
    ∙ ap (λ l. l ++ bare_names (expr_nodes (expr_tree c.args.value.now))) (c.in_ok-push.ensures.items ∙ ap (λ l. l ++ c.args.name ∷ []) c.new-names.ensures.items)
