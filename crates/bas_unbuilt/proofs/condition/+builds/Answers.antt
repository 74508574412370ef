-- Each layer is built where its parts are.
use Rattle.std.proofs.Common.{sym, ap, ◌∙◌}
use Rattle.bas_ast.specs.ConditionTree.{conjs_tree, tests_tree}
use Rattle.bas_ast.proofs.ConditionTrees.{cond_out, conj_out, test_not, test_group, test_compare}
use Rattle.bas_mean.specs.Built.{is_built_cond, are_built_conjs, is_built_conj, are_built_tests}
use Rattle.bas_unbuilt.proofs.Pieces.{and_then, and_else}
use Rattle.bas_unbuilt.proofs.condition.+builds.Goals as goal

pub is_built_condition-returns-then-is_built_conj : goal.is_built_condition-returns-then-is_built_conj
is_built_condition-returns-then-is_built_conj t c =
    and_then _ _ _ _ c.is_built_conj.ensures c.if-is_built_conj.true (c.are_built_conjs.ensures ∙ ap (λ x. are_built_conjs (conjs_tree x)) c.as_slice.ensures)
    ∙ ap is_built_cond (sym (cond_out c.args.c.now))

pub is_built_condition-returns-else-is_built_conj : goal.is_built_condition-returns-else-is_built_conj
is_built_condition-returns-else-is_built_conj t c = and_else _ _ _ c.is_built_conj.ensures c.if-is_built_conj.false ∙ ap is_built_cond (sym (cond_out c.args.c.now))

pub is_built_conj-returns-then-is_built_test : goal.is_built_conj-returns-then-is_built_test
is_built_conj-returns-then-is_built_test t c =
    and_then _ _ _ _ c.is_built_test.ensures c.if-is_built_test.true (c.are_built_tests.ensures ∙ ap (λ x. are_built_tests (tests_tree x)) c.as_slice.ensures)
    ∙ ap is_built_conj (sym (conj_out c.args.conj.now))

pub is_built_conj-returns-else-is_built_test : goal.is_built_conj-returns-else-is_built_test
is_built_conj-returns-else-is_built_test t c = and_else _ _ _ c.is_built_test.ensures c.if-is_built_test.false ∙ ap is_built_conj (sym (conj_out c.args.conj.now))

pub is_built_test-returns-in-Not : goal.is_built_test-returns-in-Not
is_built_test-returns-in-Not t c = rw (c.in-Not.is, test_not, ← c.get.ensures) c.is_built_test.ensures

pub is_built_test-returns-in-Group : goal.is_built_test-returns-in-Group
is_built_test-returns-in-Group t c = rw (c.in-Group.is, test_group, ← c.get-in-Group.ensures) c.is_built_condition.ensures

pub is_built_test-returns-in-Compare : goal.is_built_test-returns-in-Compare
is_built_test-returns-in-Compare t c = rw (c.in-Compare.is, test_compare) c.are_built_sides.ensures
