-- Each layer has the least fault of its parts.
use Rattle.std.proofs.Common.{refl, ◌∙◌, arith}
use Rattle.bas_ast.specs.Accessors.{lone_primary}
use Rattle.bas_ast.specs.ExpressionTree.{expr_tree, term_tree, factor_tree, primary_tree, actual_tree, target_tree, terms_tree, factors_tree, primaries_tree, actuals_tree, exprs_tree}
use Rattle.bas_ast.proofs.ExpressionTrees.{primary_numeral, primary_quoted, primary_group, primary_name, primary_substring, actual_expr, actual_chan}
use Rattle.bas_scope.specs.Nodes.{expr_nodes, term_nodes, terms_nodes, factor_nodes, factors_nodes, primary_nodes, primaries_nodes, actual_nodes, args_nodes, exprs_nodes}
use Rattle.bas_names.specs.Names.{senses_in}
use Rattle.bas_operands.proofs.Rows.{fault_turn, fault_end}
use Rattle.bas_operands.proofs.Walk.{expr_is, term_is, factor_is, numeral_is, quoted_is, group_is, name_is, substring_parts, target_parts, whole_is, other_is}
use Rattle.bas_operands.proofs.expression.+faults.Goals as goal

pub expr_fault-returns : goal.expr_fault-returns
expr_fault-returns t c =
    c.least_of_three.ensures
    ∙ expr_is (senses_in c.args.names.now) c.args.expr.now c.get.result.now c.as_slice.result.now c.own_expr_fault-own.result c.term_fault-first.result
    c.terms_fault.result c.get.ensures c.as_slice.ensures (c.own_expr_fault-own.ensures (senses_in c.args.names.now)) c.term_fault-first.ensures
    c.terms_fault.ensures

pub term_fault-returns : goal.term_fault-returns
term_fault-returns t c =
    c.least_of_three.ensures
    ∙ term_is (senses_in c.args.names.now) c.args.term.now c.as_slice.result.now c.own_term_fault-own.result c.factor_fault-first.result
    c.factors_fault.result c.as_slice.ensures (c.own_term_fault-own.ensures (senses_in c.args.names.now)) c.factor_fault-first.ensures
    c.factors_fault.ensures

pub factor_fault-returns : goal.factor_fault-returns
factor_fault-returns t c =
    c.least_of_three.ensures
    ∙ factor_is (senses_in c.args.names.now) c.args.factor.now c.as_slice.result.now c.own_factor_fault-own.result c.primary_fault-base.result
    c.primaries_fault.result c.as_slice.ensures (c.own_factor_fault-own.ensures (senses_in c.args.names.now)) c.primary_fault-base.ensures
    c.primaries_fault.ensures

pub primary_fault-returns-in-Numeral : goal.primary_fault-returns-in-Numeral
primary_fault-returns-in-Numeral t c = rw (c.in-Numeral.is, primary_numeral) (numeral_is (senses_in c.args.names.now) _)

pub primary_fault-returns-in-Quoted : goal.primary_fault-returns-in-Quoted
primary_fault-returns-in-Quoted t c = rw (c.in-Quoted.is, primary_quoted) (quoted_is (senses_in c.args.names.now) _)

pub primary_fault-returns-in-Group : goal.primary_fault-returns-in-Group
primary_fault-returns-in-Group t c =
    rw (c.in-Group.is, primary_group, ← c.get.ensures) (c.expr_fault.ensures ∙ group_is (senses_in c.args.names.now) (expr_tree c.get.result.now))

pub primary_fault-returns-in-Name : goal.primary_fault-returns-in-Name
primary_fault-returns-in-Name t c =
    rw (c.in-Name.is, primary_name) (c.least.ensures
    ∙ name_is (senses_in c.args.names.now) c.in-Name.name c.in-Name.args c.as_slice-actuals.result.now c.named_fault.result c.actuals_fault.result
    c.as_slice-actuals.ensures c.named_fault.ensures c.actuals_fault.ensures)

pub primary_fault-returns-in-Substring : goal.primary_fault-returns-in-Substring
primary_fault-returns-in-Substring t c =
    rw (c.in-Substring.is, primary_substring, ← c.get-first.ensures, ← c.get-last.ensures, c.least-in-Substring.ensures, c.least_of_three.ensures)
    (substring_parts (senses_in c.args.names.now) (target_tree c.in-Substring.target) (expr_tree c.get-first.result.now) (expr_tree c.get-last.result.now)
    c.own_substring_fault-own.result c.target_fault-whole.result c.expr_fault-from.result c.expr_fault-to.result c.own_substring_fault-own.ensures
    c.target_fault-whole.ensures c.expr_fault-from.ensures c.expr_fault-to.ensures)

pub actual_fault-returns-in-Expr : goal.actual_fault-returns-in-Expr
actual_fault-returns-in-Expr t c = rw (c.in-Expr.is, actual_expr) c.argument_fault.ensures

pub actual_fault-returns-in-Chan : goal.actual_fault-returns-in-Chan
actual_fault-returns-in-Chan t c = rw (c.in-Chan.is, actual_chan) c.expr_fault.ensures

pub argument_fault-returns-in-Some : goal.argument_fault-returns-in-Some
argument_fault-returns-in-Some t c =
    whole_is (senses_in c.args.names.now) (lone_primary (expr_tree c.args.expr.now)) (expr_nodes (expr_tree c.args.expr.now)) c.in-Some.name
    c.whole_fault.result c.in-Some.ensures c.whole_fault.ensures

pub argument_fault-returns-in-None : goal.argument_fault-returns-in-None
argument_fault-returns-in-None t c =
    c.expr_fault.ensures
    ∙ other_is (senses_in c.args.names.now) (lone_primary (expr_tree c.args.expr.now)) (expr_nodes (expr_tree c.args.expr.now)) c.in-None.ensures

pub target_fault-returns : goal.target_fault-returns
target_fault-returns t c =
    c.least.ensures
    ∙ target_parts (senses_in c.args.names.now) c.args.target.now c.as_slice.result.now c.own_target_fault-own.result c.exprs_fault.result
    c.as_slice.ensures c.own_target_fault-own.ensures c.exprs_fault.ensures

pub terms_fault-loop-next-preserved : goal.terms_fault-loop-next-preserved
terms_fault-loop-next-preserved t c =
    fault_turn (senses_in c.args.names.now) (λ x. term_nodes (term_tree x.1)) (λ xs. terms_nodes (terms_tree xs)) (λ x xs. refl) c.args.rest.now c.loop-next.next-index
    c.loop-next-item.result c.loop-next.found c.term_fault.result c.least-found.result c.loop-next-test.true c.loop-next-item.is c.term_fault.ensures
    c.least-found.ensures c.loop-next.invariant

pub factors_fault-loop-next-preserved : goal.factors_fault-loop-next-preserved
factors_fault-loop-next-preserved t c =
    fault_turn (senses_in c.args.names.now) (λ x. factor_nodes (factor_tree x.1)) (λ xs. factors_nodes (factors_tree xs)) (λ x xs. refl) c.args.rest.now c.loop-next.next-index
    c.loop-next-item.result c.loop-next.found c.factor_fault.result c.least-found.result c.loop-next-test.true c.loop-next-item.is c.factor_fault.ensures
    c.least-found.ensures c.loop-next.invariant

pub primaries_fault-loop-next-preserved : goal.primaries_fault-loop-next-preserved
primaries_fault-loop-next-preserved t c =
    fault_turn (senses_in c.args.names.now) (λ x. primary_nodes (primary_tree x)) (λ xs. primaries_nodes (primaries_tree xs)) (λ x xs. refl) c.args.exponents.now c.loop-next.next-index
    c.next-item.result c.loop-next.found c.primary_fault.result c.least-found.result c.loop-next-test.true c.next-item.is c.primary_fault.ensures
    c.least-found.ensures c.loop-next.invariant

pub actuals_fault-loop-next-preserved : goal.actuals_fault-loop-next-preserved
actuals_fault-loop-next-preserved t c =
    fault_turn (senses_in c.args.names.now) (λ x. actual_nodes (actual_tree x)) (λ xs. args_nodes (actuals_tree xs)) (λ x xs. refl) c.args.actuals.now c.loop-next.next-index
    c.next-item.result c.loop-next.found c.actual_fault.result c.least-found.result c.loop-next-test.true c.next-item.is c.actual_fault.ensures
    c.least-found.ensures c.loop-next.invariant

pub exprs_fault-loop-next-preserved : goal.exprs_fault-loop-next-preserved
exprs_fault-loop-next-preserved t c =
    fault_turn (senses_in c.args.names.now) (λ x. expr_nodes (expr_tree x)) (λ xs. exprs_nodes (exprs_tree xs)) (λ x xs. refl) c.args.subscripts.now c.loop-next.next-index
    c.next-item.result c.loop-next.found c.expr_fault.result c.least-found.result c.loop-next-test.true c.next-item.is c.expr_fault.ensures
    c.least-found.ensures c.loop-next.invariant

pub terms_fault-returns : goal.terms_fault-returns
terms_fault-returns t c =
    fault_end (senses_in c.args.names.now) (λ xs. terms_nodes (terms_tree xs)) refl c.args.rest.now c.loop-next.next-index c.loop-next.found (omega arith)
    c.loop-next.invariant

pub factors_fault-returns : goal.factors_fault-returns
factors_fault-returns t c =
    fault_end (senses_in c.args.names.now) (λ xs. factors_nodes (factors_tree xs)) refl c.args.rest.now c.loop-next.next-index c.loop-next.found (omega arith)
    c.loop-next.invariant

pub primaries_fault-returns : goal.primaries_fault-returns
primaries_fault-returns t c =
    fault_end (senses_in c.args.names.now) (λ xs. primaries_nodes (primaries_tree xs)) refl c.args.exponents.now c.loop-next.next-index c.loop-next.found (omega arith)
    c.loop-next.invariant

pub actuals_fault-returns : goal.actuals_fault-returns
actuals_fault-returns t c =
    fault_end (senses_in c.args.names.now) (λ xs. args_nodes (actuals_tree xs)) refl c.args.actuals.now c.loop-next.next-index c.loop-next.found (omega arith)
    c.loop-next.invariant

pub exprs_fault-returns : goal.exprs_fault-returns
exprs_fault-returns t c =
    fault_end (senses_in c.args.names.now) (λ xs. exprs_nodes (exprs_tree xs)) refl c.args.subscripts.now c.loop-next.next-index c.loop-next.found (omega arith)
    c.loop-next.invariant
