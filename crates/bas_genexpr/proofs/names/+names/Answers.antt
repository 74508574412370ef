-- Each part of an expression gets its slots behind the parts before it.
use Rattle.std.proofs.Common.{sym, ap, ◌∙◌, refl, drop}
use Rattle.std.proofs.lemmas.List.{drop_all}
use Rattle.std.proofs.lemmas.Result.{err_from_is_err_and}
use Rattle.bas_ast.proofs.ExpressionTrees.{primary_numeral, primary_quoted, primary_group, primary_name, primary_substring}
use Rattle.bas_carry.specs.Slots.{in_terms, in_factors, in_primaries, in_primary}
use Rattle.bas_ast.specs.ExpressionTree.{primary_tree, terms_tree, factors_tree, primaries_tree}
use Rattle.bas_genexpr.proofs.Pieces.{turn}
use Rattle.bas_genexpr.proofs.NumberLemmas.{refused_first, numbers_both, numbers_none, numbers_turn, refused_turn, numbers_end}
use Rattle.bas_genexpr.proofs.TextVariables.{expr_parts, term_parts, factor_parts, terms_left, factors_left, exponents_left}
use Rattle.bas_genexpr.proofs.names.+names.Goals as goal

pub number_expression-returns-in_err-number_term : goal.number_expression-returns-in_err-number_term
number_expression-returns-in_err-number_term t c =
    let p = err_from_is_err_and c.from_residual.result c.from_residual.ensures.1 in
    rw (p.1, p.2) (refused_first _ c.args.slots.now _ _ _ (expr_parts c.args.e.now c.get.result.now _ c.get.ensures refl) c.in_err-number_term.ensures)

pub number_expression-returns : goal.number_expression-returns
number_expression-returns t c = numbers_both c.number_terms.result c.args.slots.now c.number_term.new.slots c.number_terms.new.slots _ _ _ (expr_parts c.args.e.now c.get.result.now c.as_slice.result.now c.get.ensures c.as_slice.ensures) c.in_ok-number_term.ensures c.number_terms.ensures

pub number_term-returns-in_err-number_factor : goal.number_term-returns-in_err-number_factor
number_term-returns-in_err-number_factor t c =
    let p = err_from_is_err_and c.from_residual.result c.from_residual.ensures.1 in
    rw (p.1, p.2) (refused_first _ c.args.slots.now _ _ _ (term_parts c.args.term.now _ refl) c.in_err-number_factor.ensures)

pub number_term-returns : goal.number_term-returns
number_term-returns t c = numbers_both c.number_factors.result c.args.slots.now c.number_factor.new.slots c.number_factors.new.slots _ _ _ (term_parts c.args.term.now c.as_slice.result.now c.as_slice.ensures) c.in_ok-number_factor.ensures c.number_factors.ensures

pub number_factor-returns-in_err-number_primary : goal.number_factor-returns-in_err-number_primary
number_factor-returns-in_err-number_primary t c =
    let p = err_from_is_err_and c.from_residual.result c.from_residual.ensures.1 in
    rw (p.1, p.2) (refused_first _ c.args.slots.now _ _ _ (factor_parts c.args.factor.now _ refl) c.in_err-number_primary.ensures)

pub number_factor-returns : goal.number_factor-returns
number_factor-returns t c = numbers_both c.number_exponents.result c.args.slots.now c.number_primary.new.slots c.number_exponents.new.slots _ _ _ (factor_parts c.args.factor.now c.as_slice.result.now c.as_slice.ensures) c.in_ok-number_primary.ensures c.number_exponents.ensures

pub number_terms-returns-in_err-number_term : goal.number_terms-returns-in_err-number_term
number_terms-returns-in_err-number_term t c =
    let p = err_from_is_err_and c.from_residual.result c.from_residual.ensures.1 in
    rw (p.1, p.2) (refused_turn _ c.loop-next.slots _ _ _ _ (terms_left (drop c.loop-next.next-index c.args.rest.now) _ c.loop-next-item.result (turn c.args.rest.now c.loop-next.next-index c.loop-next-item.result c.loop-next-test.true c.loop-next-item.is)) c.loop-next.invariant c.in_err-number_term.ensures)

pub number_terms-loop-next-preserved : goal.number_terms-loop-next-preserved
number_terms-loop-next-preserved t c = numbers_turn c.loop-next.slots c.number_term.new.slots _ _ _ _ (terms_left (drop c.loop-next.next-index c.args.rest.now) _ c.loop-next-item.result (turn c.args.rest.now c.loop-next.next-index c.loop-next-item.result c.loop-next-test.true c.loop-next-item.is)) c.in_ok-number_term.ensures c.loop-next.invariant

pub number_terms-returns : goal.number_terms-returns
number_terms-returns t c = numbers_end c.loop-next.slots _ _ (ap (λ l. in_terms (terms_tree l)) (drop_all c.loop-next.next-index c.args.rest.now c.loop-next-test.false)) c.loop-next.invariant

pub number_factors-returns-in_err-number_factor : goal.number_factors-returns-in_err-number_factor
number_factors-returns-in_err-number_factor t c =
    let p = err_from_is_err_and c.from_residual.result c.from_residual.ensures.1 in
    rw (p.1, p.2) (refused_turn _ c.loop-next.slots _ _ _ _ (factors_left (drop c.loop-next.next-index c.args.rest.now) _ c.loop-next-item.result (turn c.args.rest.now c.loop-next.next-index c.loop-next-item.result c.loop-next-test.true c.loop-next-item.is)) c.loop-next.invariant c.in_err-number_factor.ensures)

pub number_factors-loop-next-preserved : goal.number_factors-loop-next-preserved
number_factors-loop-next-preserved t c = numbers_turn c.loop-next.slots c.number_factor.new.slots _ _ _ _ (factors_left (drop c.loop-next.next-index c.args.rest.now) _ c.loop-next-item.result (turn c.args.rest.now c.loop-next.next-index c.loop-next-item.result c.loop-next-test.true c.loop-next-item.is)) c.in_ok-number_factor.ensures c.loop-next.invariant

pub number_factors-returns : goal.number_factors-returns
number_factors-returns t c = numbers_end c.loop-next.slots _ _ (ap (λ l. in_factors (factors_tree l)) (drop_all c.loop-next.next-index c.args.rest.now c.loop-next-test.false)) c.loop-next.invariant

pub number_exponents-returns-in_err-number_primary : goal.number_exponents-returns-in_err-number_primary
number_exponents-returns-in_err-number_primary t c =
    let p = err_from_is_err_and c.from_residual.result c.from_residual.ensures.1 in
    rw (p.1, p.2) (refused_turn _ c.loop-next.slots _ _ _ _ (exponents_left (drop c.loop-next.next-index c.args.exponents.now) _ c.next-item.result (turn c.args.exponents.now c.loop-next.next-index c.next-item.result c.loop-next-test.true c.next-item.is)) c.loop-next.invariant c.in_err-number_primary.ensures)

pub number_exponents-loop-next-preserved : goal.number_exponents-loop-next-preserved
number_exponents-loop-next-preserved t c = numbers_turn c.loop-next.slots c.number_primary.new.slots _ _ _ _ (exponents_left (drop c.loop-next.next-index c.args.exponents.now) _ c.next-item.result (turn c.args.exponents.now c.loop-next.next-index c.next-item.result c.loop-next-test.true c.next-item.is)) c.in_ok-number_primary.ensures c.loop-next.invariant

pub number_exponents-returns : goal.number_exponents-returns
number_exponents-returns t c = numbers_end c.loop-next.slots _ _ (ap (λ l. in_primaries (primaries_tree l)) (drop_all c.loop-next.next-index c.args.exponents.now c.loop-next-test.false)) c.loop-next.invariant

pub number_primary-returns-in-Numeral : goal.number_primary-returns-in-Numeral
number_primary-returns-in-Numeral t c = numbers_none c.args.slots.now _ (ap in_primary (sym (ap primary_tree c.in-Numeral.is ∙ primary_numeral _)))

pub number_primary-returns-in-Group : goal.number_primary-returns-in-Group
number_primary-returns-in-Group t c = rw (c.in-Group.is, primary_group, ← c.get.ensures) c.number_expression.ensures

pub number_primary-returns-in-Name : goal.number_primary-returns-in-Name
number_primary-returns-in-Name t c = rw (c.in-Name.is, primary_name) c.add.ensures

pub number_primary-returns-in-Quoted : goal.number_primary-returns-in-Quoted
number_primary-returns-in-Quoted t c = numbers_none c.args.slots.now _ (ap in_primary (sym (ap primary_tree c.in-Quoted.is ∙ primary_quoted _)))

pub number_primary-returns-in-Substring : goal.number_primary-returns-in-Substring
number_primary-returns-in-Substring t c = numbers_none c.args.slots.now _ (ap in_primary (sym (ap primary_tree c.in-Substring.is ∙ primary_substring _ _ _)))
