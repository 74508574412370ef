-- Each layer uses the names of its parts.
use Rattle.std.proofs.Common.{refl}
use Rattle.std.proofs.lemmas.Bool.{false≢true}
use Rattle.std.proofs.lemmas.Result.{on_ok_weaker}
use Rattle.bas_ast.specs.ExpressionTree.{expr_tree, term_tree, factor_tree, primary_tree, actual_tree, target_tree, terms_tree, factors_tree, primaries_tree, actuals_tree, exprs_tree}
use Rattle.bas_ast.proofs.ExpressionTrees.{primary_numeral, primary_quoted, primary_group, primary_name, primary_substring, actual_expr, actual_chan}
use Rattle.bas_scope.specs.Nodes.{term_nodes, terms_nodes, factor_nodes, factors_nodes, primary_nodes, primaries_nodes, args_nodes, actual_nodes, expr_nodes, exprs_nodes}
use Rattle.bas_uses.specs.Uses.{bare_names}
use Rattle.bas_uses.proofs.Appending.{none, names_turn, names_end}
use Rattle.bas_uses.proofs.Walk.{expr_uses, term_uses, factor_uses, substring_uses, name_uses, call_uses, variable_uses, element_uses, argument_uses}
use Rattle.bas_uses.proofs.expression.+uses.Goals as goal

pub push_expr-returns : goal.push_expr-returns
push_expr-returns t c =
    on_ok_weaker c.push_terms.result
    (expr_uses c.args.expr.now c.get.result.now c.as_slice.result.now c.args.names.now.items c.push_term.new.names.items
    c.push_terms.new.names.items c.get.ensures c.as_slice.ensures c.in_ok-push_term.ensures)
    c.push_terms.ensures

pub push_term-returns : goal.push_term-returns
push_term-returns t c =
    on_ok_weaker c.push_factors.result
    (term_uses c.args.term.now c.as_slice.result.now c.args.names.now.items c.push_factor.new.names.items c.push_factors.new.names.items
    c.as_slice.ensures c.in_ok-push_factor.ensures)
    c.push_factors.ensures

pub push_factor-returns : goal.push_factor-returns
push_factor-returns t c =
    on_ok_weaker c.push_primaries.result
    (factor_uses c.args.factor.now c.as_slice.result.now c.args.names.now.items c.push_primary.new.names.items
    c.push_primaries.new.names.items c.as_slice.ensures c.in_ok-push_primary.ensures)
    c.push_primaries.ensures

pub push_primary-returns-in-Numeral : goal.push_primary-returns-in-Numeral
unfolding bare_names
push_primary-returns-in-Numeral t c = rw (c.in-Numeral.is, primary_numeral) (none c.args.names.now.items)

pub push_primary-returns-in-Quoted : goal.push_primary-returns-in-Quoted
unfolding bare_names
push_primary-returns-in-Quoted t c = rw (c.in-Quoted.is, primary_quoted) (none c.args.names.now.items)

pub push_primary-returns-in-Group : goal.push_primary-returns-in-Group
unfolding bare_names
push_primary-returns-in-Group t c = rw (c.in-Group.is, primary_group, ← c.get.ensures) c.push_expr.ensures

pub push_primary-returns-in-Name : goal.push_primary-returns-in-Name
push_primary-returns-in-Name t c = rw (c.in-Name.is, primary_name) c.push_named.ensures

pub push_primary-returns-in_ok-push_expr-in-Substring : goal.push_primary-returns-in_ok-push_expr-in-Substring
push_primary-returns-in_ok-push_expr-in-Substring t c =
    rw (c.in-Substring.is, primary_substring, ← c.get-in-Substring.ensures, ← c.get-in-Substring-2.ensures) (on_ok_weaker c.push_expr-in-Substring-2.result
    (substring_uses (target_tree c.in-Substring.target) (expr_tree c.get-in-Substring.result.now) (expr_tree c.get-in-Substring-2.result.now) c.args.names.now.items
    c.push_target.new.names.items c.push_expr-in-Substring.new.names.items c.push_expr-in-Substring-2.new.names.items c.in_ok-push_target-in-Substring.ensures
    c.in_ok-push_expr-in-Substring.ensures)
    c.push_expr-in-Substring-2.ensures)

pub push_named-returns-then-is_empty : goal.push_named-returns-then-is_empty
push_named-returns-then-is_empty t c =
    name_uses c.args.name c.args.args.now c.args.names.now.items c.push.new.self.items (c.if-is_empty.ensures.0 refl) c.in_ok-push.ensures.items

pub push_named-returns : goal.push_named-returns
push_named-returns t c =
    rw (← call_uses c.args.name c.args.args.now c.as_slice.result.now c.as_slice.ensures (λ e. false≢true (c.if-is_empty.ensures.1 e))) c.push_actuals.ensures

pub push_actual-returns-in-Expr : goal.push_actual-returns-in-Expr
push_actual-returns-in-Expr t c = rw (c.in-Expr.is, actual_expr, ← argument_uses (expr_tree c.in-Expr.expr)) c.push_expr.ensures

pub push_actual-returns-in-Chan : goal.push_actual-returns-in-Chan
push_actual-returns-in-Chan t c = rw (c.in-Chan.is, actual_chan) c.push_expr-in-Chan.ensures

pub push_target-returns-then-is_empty : goal.push_target-returns-then-is_empty
push_target-returns-then-is_empty t c =
    variable_uses c.args.target.now c.args.names.now.items c.push.new.self.items (c.if-is_empty.ensures.0 refl) c.in_ok-push.ensures.items

pub push_target-returns : goal.push_target-returns
push_target-returns t c =
    rw (← element_uses c.args.target.now c.as_slice.result.now c.as_slice.ensures (λ e. false≢true (c.if-is_empty.ensures.1 e))) c.push_exprs.ensures

pub push_terms-loop-next-preserved : goal.push_terms-loop-next-preserved
push_terms-loop-next-preserved t c =
    names_turn (λ x. term_nodes (term_tree x.1)) (λ xs. terms_nodes (terms_tree xs)) (λ x xs. refl) c.args.rest.now c.loop-next.next-index
    c.loop-next-item.result c.loop-next.names.items c.push_term.new.names.items _ c.loop-next-test.true c.loop-next-item.is c.in_ok-push_term.ensures c.loop-next.invariant

pub push_terms-returns : goal.push_terms-returns
push_terms-returns t c = names_end (λ xs. terms_nodes (terms_tree xs)) refl c.args.rest.now c.loop-next.next-index c.loop-next.names.items _ c.loop-next-test.false c.loop-next.invariant

pub push_factors-loop-next-preserved : goal.push_factors-loop-next-preserved
push_factors-loop-next-preserved t c =
    names_turn (λ x. factor_nodes (factor_tree x.1)) (λ xs. factors_nodes (factors_tree xs)) (λ x xs. refl) c.args.rest.now c.loop-next.next-index
    c.loop-next-item.result c.loop-next.names.items c.push_factor.new.names.items _ c.loop-next-test.true c.loop-next-item.is c.in_ok-push_factor.ensures c.loop-next.invariant

pub push_factors-returns : goal.push_factors-returns
push_factors-returns t c = names_end (λ xs. factors_nodes (factors_tree xs)) refl c.args.rest.now c.loop-next.next-index c.loop-next.names.items _ c.loop-next-test.false c.loop-next.invariant

pub push_primaries-loop-next-preserved : goal.push_primaries-loop-next-preserved
push_primaries-loop-next-preserved t c =
    names_turn (λ x. primary_nodes (primary_tree x)) (λ xs. primaries_nodes (primaries_tree xs)) (λ x xs. refl) c.args.exponents.now c.loop-next.next-index
    c.next-item.result c.loop-next.names.items c.push_primary.new.names.items _ c.loop-next-test.true c.next-item.is c.in_ok-push_primary.ensures c.loop-next.invariant

pub push_primaries-returns : goal.push_primaries-returns
push_primaries-returns t c = names_end (λ xs. primaries_nodes (primaries_tree xs)) refl c.args.exponents.now c.loop-next.next-index c.loop-next.names.items _ c.loop-next-test.false c.loop-next.invariant

pub push_actuals-loop-next-preserved : goal.push_actuals-loop-next-preserved
push_actuals-loop-next-preserved t c =
    names_turn (λ x. actual_nodes (actual_tree x)) (λ xs. args_nodes (actuals_tree xs)) (λ x xs. refl) c.args.actuals.now c.loop-next.next-index
    c.next-item.result c.loop-next.names.items c.push_actual.new.names.items _ c.loop-next-test.true c.next-item.is c.in_ok-push_actual.ensures c.loop-next.invariant

pub push_actuals-returns : goal.push_actuals-returns
push_actuals-returns t c = names_end (λ xs. args_nodes (actuals_tree xs)) refl c.args.actuals.now c.loop-next.next-index c.loop-next.names.items _ c.loop-next-test.false c.loop-next.invariant

pub push_exprs-loop-next-preserved : goal.push_exprs-loop-next-preserved
push_exprs-loop-next-preserved t c =
    names_turn (λ x. expr_nodes (expr_tree x)) (λ xs. exprs_nodes (exprs_tree xs)) (λ x xs. refl) c.args.subscripts.now c.loop-next.next-index
    c.next-item.result c.loop-next.names.items c.push_expr.new.names.items _ c.loop-next-test.true c.next-item.is c.in_ok-push_expr.ensures c.loop-next.invariant

pub push_exprs-returns : goal.push_exprs-returns
push_exprs-returns t c = names_end (λ xs. exprs_nodes (exprs_tree xs)) refl c.args.subscripts.now c.loop-next.next-index c.loop-next.names.items _ c.loop-next-test.false c.loop-next.invariant
