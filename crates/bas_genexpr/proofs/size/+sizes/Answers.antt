-- Each size is the sum of the sizes of the parts.
use Rattle.std.proofs.Common.{refl}
use Rattle.bas_ast.proofs.ExpressionTrees.{primary_numeral, primary_quoted, primary_group, primary_name, primary_substring}
use Rattle.bas_genexpr.proofs.CountLemmas.{expr_counted, term_counted, factor_counted}
use Rattle.bas_genexpr.proofs.size.+sizes.Goals as goal

pub expression_size-returns : goal.expression_size-returns
expression_size-returns t c = expr_counted c.args.e.now c.get.result.now c.as_slice.result.now c.size_of_term-first.result c.size_of_sign.result c.capped_sum-front.result c.size_of_terms.result c.capped_sum.result c.get.ensures c.as_slice.ensures c.size_of_term-first.ensures c.size_of_sign.ensures.same c.capped_sum-front.ensures c.size_of_terms.ensures c.capped_sum.ensures

pub size_of_factor-returns : goal.size_of_factor-returns
size_of_factor-returns t c = factor_counted c.args.factor.now c.as_slice.result.now c.size_of_primary-base.result c.size_of_exponents.result c.capped_sum.result c.as_slice.ensures c.size_of_primary-base.ensures c.size_of_exponents.ensures c.capped_sum.ensures

pub size_of_term-returns : goal.size_of_term-returns
size_of_term-returns t c = term_counted c.args.term.now c.as_slice.result.now c.size_of_factor-first.result c.size_of_factors.result c.capped_sum.result c.as_slice.ensures c.size_of_factor-first.ensures c.size_of_factors.ensures c.capped_sum.ensures

pub size_of_primary-returns-in-Numeral : goal.size_of_primary-returns-in-Numeral
size_of_primary-returns-in-Numeral t c = rw (c.in-Numeral.is, primary_numeral) refl

pub size_of_primary-returns-in-Group : goal.size_of_primary-returns-in-Group
size_of_primary-returns-in-Group t c = rw (c.in-Group.is, primary_group, ← c.get.ensures) c.expression_size.ensures

pub size_of_primary-returns-in-Name : goal.size_of_primary-returns-in-Name
size_of_primary-returns-in-Name t c = rw (c.in-Name.is, primary_name) refl

pub size_of_primary-returns-in-Quoted : goal.size_of_primary-returns-in-Quoted
size_of_primary-returns-in-Quoted t c = rw (c.in-Quoted.is, primary_quoted) refl

pub size_of_primary-returns-in-Substring : goal.size_of_primary-returns-in-Substring
size_of_primary-returns-in-Substring t c = rw (c.in-Substring.is, primary_substring) refl
