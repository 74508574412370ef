-- The slots so far, with the variables of what is left, are those of the whole.
use Rattle.std.proofs.Common.{◌≡◌, drop}
use Rattle.bas_ast.specs.ExpressionTree.{terms_tree, factors_tree, primaries_tree}
use Rattle.bas_carry.specs.Slots.{in_terms, in_factors, in_primaries, with_variables}
use Rattle.bas_genexpr.specs.Numbering.{variables}
use Rattle.bas_genexpr.proofs.names.+names.Given as goal

abbrev pub invariant-number_exponents-loop-next : goal.invariant-number_exponents-loop-next
invariant-number_exponents-loop-next l =
    with_variables (variables l.slots) (in_primaries (primaries_tree (drop l.next-index l.exponents))) ≡ with_variables (variables l.initial.slots) (in_primaries (primaries_tree l.exponents))

abbrev pub invariant-number_factors-loop-next : goal.invariant-number_factors-loop-next
invariant-number_factors-loop-next l =
    with_variables (variables l.slots) (in_factors (factors_tree (drop l.next-index l.rest))) ≡ with_variables (variables l.initial.slots) (in_factors (factors_tree l.rest))

abbrev pub invariant-number_terms-loop-next : goal.invariant-number_terms-loop-next
invariant-number_terms-loop-next l =
    with_variables (variables l.slots) (in_terms (terms_tree (drop l.next-index l.rest))) ≡ with_variables (variables l.initial.slots) (in_terms (terms_tree l.rest))
