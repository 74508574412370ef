-- The whole answers as what is left.
use Rattle.std.proofs.Common.{◌≡◌, map, drop}
use Rattle.bas_ast.specs.ExpressionTree.{actual_tree}
use Rattle.bas_names.specs.Names.{senses_in}
use Rattle.bas_rules.specs.Naming.{misuses_array}
use Rattle.bas_operands.specs.Parameters.{parameter_told}
use Rattle.bas_operands.proofs.arrays.misuses_array.Given as goal

abbrev pub invariant-loop-i : goal.invariant-loop-i
invariant-loop-i l = misuses_array (senses_in l.names) (map actual_tree (drop l.i l.actuals)) (map parameter_told (drop l.i l.form)) ≡ misuses_array (senses_in l.names) (map actual_tree l.actuals) (map parameter_told l.form)
