-- Each layer is built where its parts are.
use Rattle.std.proofs.Common.{refl, sym, ap, ◌∙◌}
use Rattle.bas_ast.specs.ExpressionTree.{term_tree, terms_tree, factors_tree, primaries_tree}
use Rattle.bas_ast.proofs.ExpressionTrees.{expr_out, term_out, factor_out, primary_numeral, primary_quoted, primary_group, primary_name, primary_substring}
use Rattle.bas_mean.specs.Built.{is_built_expr, are_built_terms, is_built_term, are_built_factors, is_built_factor, are_built_primaries}
use Rattle.bas_unbuilt.proofs.Pieces.{and_then, and_else}
use Rattle.bas_unbuilt.proofs.expression.+builds.Goals as goal

pub is_built_expression-returns-then-is_built_term : goal.is_built_expression-returns-then-is_built_term
is_built_expression-returns-then-is_built_term t c =
    and_then _ _ _ _ (c.is_built_term.ensures ∙ ap (λ x. is_built_term (term_tree x)) c.get.ensures) c.if-is_built_term.true (c.are_built_terms.ensures ∙ ap (λ x. are_built_terms (terms_tree x)) c.as_slice.ensures)
    ∙ ap is_built_expr (sym (expr_out c.args.e.now))

pub is_built_expression-returns-else-is_built_term : goal.is_built_expression-returns-else-is_built_term
is_built_expression-returns-else-is_built_term t c =
    and_else _ _ _ (c.is_built_term.ensures ∙ ap (λ x. is_built_term (term_tree x)) c.get.ensures) c.if-is_built_term.false
    ∙ ap is_built_expr (sym (expr_out c.args.e.now))

pub is_built_factor-returns-then-is_built_primary : goal.is_built_factor-returns-then-is_built_primary
is_built_factor-returns-then-is_built_primary t c =
    and_then _ _ _ _ c.is_built_primary.ensures c.if-is_built_primary.true (c.are_built_primaries.ensures ∙ ap (λ x. are_built_primaries (primaries_tree x)) c.as_slice.ensures)
    ∙ ap is_built_factor (sym (factor_out c.args.factor.now))

pub is_built_factor-returns-else-is_built_primary : goal.is_built_factor-returns-else-is_built_primary
is_built_factor-returns-else-is_built_primary t c = and_else _ _ _ c.is_built_primary.ensures c.if-is_built_primary.false ∙ ap is_built_factor (sym (factor_out c.args.factor.now))

pub is_built_term-returns-then-is_built_factor : goal.is_built_term-returns-then-is_built_factor
is_built_term-returns-then-is_built_factor t c =
    and_then _ _ _ _ c.is_built_factor.ensures c.if-is_built_factor.true (c.are_built_factors.ensures ∙ ap (λ x. are_built_factors (factors_tree x)) c.as_slice.ensures)
    ∙ ap is_built_term (sym (term_out c.args.term.now))

pub is_built_term-returns-else-is_built_factor : goal.is_built_term-returns-else-is_built_factor
is_built_term-returns-else-is_built_factor t c = and_else _ _ _ c.is_built_factor.ensures c.if-is_built_factor.false ∙ ap is_built_term (sym (term_out c.args.term.now))

pub is_built_primary-returns-in-Numeral : goal.is_built_primary-returns-in-Numeral
is_built_primary-returns-in-Numeral t c = rw (c.in-Numeral.is, primary_numeral) refl

pub is_built_primary-returns-in-Group : goal.is_built_primary-returns-in-Group
is_built_primary-returns-in-Group t c = rw (c.in-Group.is, primary_group, ← c.get.ensures) c.is_built_expression.ensures

pub is_built_primary-returns-in-Name : goal.is_built_primary-returns-in-Name
is_built_primary-returns-in-Name t c = rw (c.in-Name.is, primary_name) c.is_built_name.ensures

pub is_built_primary-returns-in-Quoted : goal.is_built_primary-returns-in-Quoted
is_built_primary-returns-in-Quoted t c = rw (c.in-Quoted.is, primary_quoted) refl

pub is_built_primary-returns-in-Substring : goal.is_built_primary-returns-in-Substring
is_built_primary-returns-in-Substring t c = rw (c.in-Substring.is, primary_substring) refl
