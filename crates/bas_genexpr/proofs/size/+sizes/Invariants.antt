-- What was counted, with the size of what is left, is the size of the whole.
use Rattle.std.proofs.Common.{◌≡◌, ◌+◌, ◌≤◌, drop}
use Rattle.bas_ast.specs.ExpressionTree.{terms_tree, factors_tree, primaries_tree}
use Rattle.bas_carry.specs.Codes.{terms_size, factors_size, exponents_size}
use Rattle.bas_genexpr.specs.Counts.{counted}
use Rattle.bas_genexpr.proofs.size.+sizes.Given as goal

abbrev pub invariant-size_of_exponents-loop-next : goal.invariant-size_of_exponents-loop-next
invariant-size_of_exponents-loop-next l =
    record { whole : counted (l.size + exponents_size (primaries_tree (drop l.next-index l.exponents))) ≡ counted (exponents_size (primaries_tree l.exponents)); within : l.size ≤ 65536 }

abbrev pub invariant-size_of_factors-loop-next : goal.invariant-size_of_factors-loop-next
invariant-size_of_factors-loop-next l =
    record { whole : counted (l.size + factors_size (factors_tree (drop l.next-index l.rest))) ≡ counted (factors_size (factors_tree l.rest)); within : l.size ≤ 65536 }

abbrev pub invariant-size_of_terms-loop-sign : goal.invariant-size_of_terms-loop-sign
invariant-size_of_terms-loop-sign l =
    record { whole : counted (l.size + terms_size (terms_tree (drop l.sign-index l.rest))) ≡ counted (terms_size (terms_tree l.rest)); within : l.size ≤ 65536 }
