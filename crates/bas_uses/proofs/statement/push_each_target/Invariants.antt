-- The names so far, with those of what is left, are those of the whole.
use Rattle.std.proofs.Common.{◌≡◌, ◌++◌, map, drop}
use Rattle.bas_ast.specs.ExpressionTree.{target_tree}
use Rattle.bas_scope.specs.Nodes.{targets_nodes}
use Rattle.bas_uses.specs.Uses.{bare_names}
use Rattle.bas_uses.proofs.statement.push_each_target.Given as goal

abbrev pub invariant-loop-target : goal.invariant-loop-target
invariant-loop-target l = l.names.items ++ bare_names (targets_nodes (map target_tree (drop l.target-index l.targets))) ≡ l.initial.names.items ++ bare_names (targets_nodes (map target_tree l.targets))
