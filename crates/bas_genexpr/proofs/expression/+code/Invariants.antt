-- What was appended, with the code of what is left, is the code of the whole.
use Rattle.std.proofs.Common.{◌≡◌, ◌++◌, drop}
use Rattle.bas_ast.specs.ExpressionTree.{terms_tree, factors_tree, primaries_tree}
use Rattle.bas_carry.specs.Codes.{terms_code, factors_code, exponents_code}
use Rattle.bas_genexpr.specs.Numbering.{variables}
use Rattle.bas_genexpr.proofs.expression.+code.Given as goal

abbrev pub invariant-put_exponents-loop-next : goal.invariant-put_exponents-loop-next
invariant-put_exponents-loop-next l =
    l.code ++ exponents_code (variables l.slots) (primaries_tree (drop l.next-index l.exponents)) ≡ l.initial.code ++ exponents_code (variables l.slots) (primaries_tree l.exponents)

abbrev pub invariant-put_factors-loop-sign : goal.invariant-put_factors-loop-sign
invariant-put_factors-loop-sign l =
    l.code ++ factors_code (variables l.slots) (factors_tree (drop l.sign-index l.rest)) ≡ l.initial.code ++ factors_code (variables l.slots) (factors_tree l.rest)

abbrev pub invariant-put_terms-loop-sign : goal.invariant-put_terms-loop-sign
invariant-put_terms-loop-sign l =
    l.code ++ terms_code (variables l.slots) (terms_tree (drop l.sign-index l.rest)) ≡ l.initial.code ++ terms_code (variables l.slots) (terms_tree l.rest)
