-- Each function appends the code of its part.
use Rattle.std.proofs.Common.{sym, append-nil}
use Rattle.std.proofs.lemmas.List.{drop_all}
use Rattle.std.proofs.lemmas.Result.{on_ok_weaker}
use Rattle.bas_ast.proofs.ExpressionTrees.{primary_numeral, primary_quoted, primary_group, primary_name, primary_substring}
use Rattle.bas_genexpr.specs.Numbering.{variables}
use Rattle.bas_genexpr.proofs.ExpressionCodes.{expr_made, term_made, factor_made, terms_end, factors_end, exponents_end}
use Rattle.bas_genexpr.proofs.expression.+code.Goals as goal

pub put_expression-returns : goal.put_expression-returns
put_expression-returns t c =
    on_ok_weaker c.put_terms.result
    (expr_made (variables c.args.slots.now) c.args.e.now c.get.result.now c.as_slice.result.now c.args.code.now c.put_term.new.code c.put_sign.new.code c.put_terms.new.code c.get.ensures c.as_slice.ensures c.in_ok-put_term.ensures c.in_ok-put_sign.ensures)
    c.put_terms.ensures

pub put_term-returns : goal.put_term-returns
put_term-returns t c =
    on_ok_weaker c.put_factors.result
    (term_made (variables c.args.slots.now) c.args.term.now c.as_slice.result.now c.args.code.now c.put_factor.new.code c.put_factors.new.code c.as_slice.ensures c.in_ok-put_factor.ensures)
    c.put_factors.ensures

pub put_factor-returns : goal.put_factor-returns
put_factor-returns t c =
    on_ok_weaker c.put_exponents.result
    (factor_made (variables c.args.slots.now) c.args.factor.now c.as_slice.result.now c.args.code.now c.put_primary.new.code c.put_exponents.new.code c.as_slice.ensures c.in_ok-put_primary.ensures)
    c.put_exponents.ensures

pub put_primary-returns-in-Numeral : goal.put_primary-returns-in-Numeral
put_primary-returns-in-Numeral t c = rw (c.in-Numeral.is, primary_numeral) c.push.ensures

pub put_primary-returns-in-Group : goal.put_primary-returns-in-Group
put_primary-returns-in-Group t c = rw (c.in-Group.is, primary_group, ← c.get.ensures) c.put_expression.ensures

pub put_primary-returns-in-Name : goal.put_primary-returns-in-Name
put_primary-returns-in-Name t c = rw (c.in-Name.is, primary_name, ← c.place-place.ensures) c.push-in-Name.ensures

pub put_primary-returns-in-Quoted : goal.put_primary-returns-in-Quoted
put_primary-returns-in-Quoted t c = rw (c.in-Quoted.is, primary_quoted) (sym (append-nil _))

pub put_primary-returns-in-Substring : goal.put_primary-returns-in-Substring
put_primary-returns-in-Substring t c = rw (c.in-Substring.is, primary_substring) (sym (append-nil _))

pub put_exponents-returns : goal.put_exponents-returns
put_exponents-returns t c = exponents_end (variables c.args.slots.now) _ _ _ (drop_all c.loop-next.next-index c.args.exponents.now c.loop-next-test.false) c.loop-next.invariant

pub put_factors-returns : goal.put_factors-returns
put_factors-returns t c = factors_end (variables c.args.slots.now) _ _ _ (drop_all c.loop-sign.sign-index c.args.rest.now c.loop-sign-test.false) c.loop-sign.invariant

pub put_terms-returns : goal.put_terms-returns
put_terms-returns t c = terms_end (variables c.args.slots.now) _ _ _ (drop_all c.loop-sign.sign-index c.args.rest.now c.loop-sign-test.false) c.loop-sign.invariant
