-- The whole agrees where what is left does.
use Rattle.std.proofs.Common.{◌≡◌, drop}
use Rattle.bas_ast.specs.ExpressionTree.{factors_tree}
use Rattle.bas_rules.specs.Kinds.{are_numeric_factors}
use Rattle.bas_kind.proofs.operator.are_numeric_factors.Given as goal

abbrev pub invariant-loop-factor : goal.invariant-loop-factor
invariant-loop-factor l = are_numeric_factors (factors_tree (drop l.factor-index l.factors)) ≡ are_numeric_factors (factors_tree l.factors)
