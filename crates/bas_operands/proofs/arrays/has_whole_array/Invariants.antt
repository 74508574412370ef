-- The whole answers as what is left.
use Rattle.std.proofs.Common.{◌≡◌, map, drop}
use Rattle.std.specs.List.{list_any}
use Rattle.bas_ast.specs.ExpressionTree.{actual_tree}
use Rattle.bas_names.specs.Names.{senses_in}
use Rattle.bas_rules.specs.Naming.{is_whole_array}
use Rattle.bas_operands.proofs.arrays.has_whole_array.Given as goal

abbrev pub invariant-loop-actual : goal.invariant-loop-actual
invariant-loop-actual l = list_any (is_whole_array (senses_in l.names)) (map actual_tree (drop l.actual-index l.actuals)) ≡ list_any (is_whole_array (senses_in l.names)) (map actual_tree l.actuals)
