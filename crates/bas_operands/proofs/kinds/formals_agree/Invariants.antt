-- The whole answers as what is left.
use Rattle.std.proofs.Common.{◌≡◌, map, drop}
use Rattle.bas_ast.specs.ExpressionTree.{actual_tree}
use Rattle.bas_scope.specs.Senses.{shape_written}
use Rattle.bas_rules.specs.Kinds.{formals_agree}
use Rattle.bas_operands.proofs.kinds.formals_agree.Given as goal

abbrev pub invariant-loop-i : goal.invariant-loop-i
invariant-loop-i l = formals_agree (map actual_tree (drop l.i l.actuals)) (map shape_written (drop l.i l.formals)) ≡ formals_agree (map actual_tree l.actuals) (map shape_written l.formals)
