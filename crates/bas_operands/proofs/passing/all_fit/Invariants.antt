-- The whole answers as what is left.
use Rattle.std.proofs.Common.{◌≡◌, map, drop}
use Rattle.bas_ast.specs.ExpressionTree.{actual_tree}
use Rattle.bas_scope.specs.Senses.{shape_written}
use Rattle.bas_names.specs.Names.{senses_in}
use Rattle.bas_rules.specs.Calling.{all_fit}
use Rattle.bas_operands.specs.Passing.{passed_to}
use Rattle.bas_operands.proofs.passing.all_fit.Given as goal

abbrev pub invariant-loop-i : goal.invariant-loop-i
invariant-loop-i l =
    all_fit (map (passed_to l.callee (senses_in l.names)) (map actual_tree (drop l.i l.actuals))) (map shape_written (drop l.i l.formals))
    ≡ all_fit (map (passed_to l.callee (senses_in l.names)) (map actual_tree l.actuals)) (map shape_written l.formals)
