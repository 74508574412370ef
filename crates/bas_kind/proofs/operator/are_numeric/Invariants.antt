-- The whole agrees where what is left does.
use Rattle.std.proofs.Common.{◌≡◌, drop}
use Rattle.bas_ast.specs.ExpressionTree.{exprs_tree}
use Rattle.bas_rules.specs.Kinds.{are_numeric_exprs}
use Rattle.bas_kind.proofs.operator.are_numeric.Given as goal

abbrev pub invariant-loop-expr : goal.invariant-loop-expr
invariant-loop-expr l = are_numeric_exprs (exprs_tree (drop l.expr-index l.exprs)) ≡ are_numeric_exprs (exprs_tree l.exprs)
