-- The whole answers as what is left.
use Rattle.std.proofs.Common.{◌≡◌, map, drop}
use Rattle.std.specs.List.{list_all}
use Rattle.bas_ast.specs.ExpressionTree.{actual_tree}
use Rattle.bas_rules.specs.Kinds.{chan_agrees}
use Rattle.bas_operands.proofs.kinds.chans_agree.Given as goal

abbrev pub invariant-loop-actual : goal.invariant-loop-actual
invariant-loop-actual l = list_all chan_agrees (map actual_tree (drop l.actual-index l.actuals)) ≡ list_all chan_agrees (map actual_tree l.actuals)
