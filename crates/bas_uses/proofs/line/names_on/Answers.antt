-- The variable of a FOR line, and then the names of its nodes.
use Rattle.std.proofs.Common.{◌++◌, ap, ◌∙◌}
use Rattle.bas_ast.specs.BlockTree.{item_tree}
use Rattle.bas_scope.specs.Nodes.{item_nodes}
use Rattle.bas_uses.specs.Uses.{bare_names}
use Rattle.bas_uses.proofs.line.names_on.Goals as goal

pub returns : goal.returns
unfolding bare_names
returns c = c.in_ok-push_nodes.ensures ∙ ap (λ l. l ++ bare_names (item_nodes (item_tree c.args.item.now))) c.in_ok-names.ensures
