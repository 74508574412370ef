-- The slots so far, with the names of what is left, are those of the whole.
use Rattle.std.proofs.Common.{◌≡◌, drop, map}
use Rattle.bas_ast.specs.ExpressionTree.{target_tree}
use Rattle.bas_carry.specs.Slots.{in_targets, with_variables}
use Rattle.bas_genexpr.specs.Numbering.{variables}
use Rattle.bas_gen.proofs.names.number_targets.Given as goal

abbrev pub invariant-loop-target : goal.invariant-loop-target
invariant-loop-target l =
    with_variables (variables l.slots) (in_targets (map target_tree (drop l.target-index l.targets))) ≡ with_variables (variables l.initial.slots) (in_targets (map target_tree l.targets))
