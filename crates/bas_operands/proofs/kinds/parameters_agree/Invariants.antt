-- The whole answers as what is left.
use Rattle.std.proofs.Common.{◌≡◌, map, drop}
use Rattle.bas_ast.specs.ExpressionTree.{actual_tree}
use Rattle.bas_rules.specs.Kinds.{parameters_agree}
use Rattle.bas_operands.specs.Parameters.{parameter_told}
use Rattle.bas_operands.proofs.kinds.parameters_agree.Given as goal

abbrev pub invariant-loop-i : goal.invariant-loop-i
invariant-loop-i l = parameters_agree (map actual_tree (drop l.i l.actuals)) (map parameter_told (drop l.i l.form)) ≡ parameters_agree (map actual_tree l.actuals) (map parameter_told l.form)
