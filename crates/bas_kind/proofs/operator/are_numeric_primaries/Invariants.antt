-- The whole agrees where what is left does.
use Rattle.std.proofs.Common.{◌≡◌, drop}
use Rattle.bas_ast.specs.ExpressionTree.{primaries_tree}
use Rattle.bas_rules.specs.Kinds.{are_numeric_primaries}
use Rattle.bas_kind.proofs.operator.are_numeric_primaries.Given as goal

abbrev pub invariant-loop-primary : goal.invariant-loop-primary
invariant-loop-primary l = are_numeric_primaries (primaries_tree (drop l.primary-index l.primaries)) ≡ are_numeric_primaries (primaries_tree l.primaries)
