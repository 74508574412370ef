-- The whole is built where what is left is.
use Rattle.std.proofs.Common.{◌≡◌, drop}
use Rattle.bas_ast.specs.ExpressionTree.{terms_tree, factors_tree, primaries_tree}
use Rattle.bas_mean.specs.Built.{are_built_terms, are_built_factors, are_built_primaries}
use Rattle.bas_unbuilt.proofs.expression.+builds.Given as goal

abbrev pub invariant-are_built_factors-loop-next : goal.invariant-are_built_factors-loop-next
invariant-are_built_factors-loop-next l = are_built_factors (factors_tree (drop l.next-index l.rest)) ≡ are_built_factors (factors_tree l.rest)

abbrev pub invariant-are_built_primaries-loop-next : goal.invariant-are_built_primaries-loop-next
invariant-are_built_primaries-loop-next l = are_built_primaries (primaries_tree (drop l.next-index l.exponents)) ≡ are_built_primaries (primaries_tree l.exponents)

abbrev pub invariant-are_built_terms-loop-sign : goal.invariant-are_built_terms-loop-sign
invariant-are_built_terms-loop-sign l = are_built_terms (terms_tree (drop l.sign-index l.rest)) ≡ are_built_terms (terms_tree l.rest)
