-- Each size is listed before those of the parts.
use Rattle.std.proofs.Common.{◌∙◌}
use Rattle.bas_ast.proofs.ConditionTrees.{test_not, test_group, test_compare}
use Rattle.bas_ast.specs.ConditionTree.{rel_tree}
use Rattle.bas_genexpr.proofs.Listings.{cond_listed, conj_listed, compare_listed}
use Rattle.bas_genexpr.proofs.listing.+lists.Goals as goal

pub list_cond-returns : goal.list_cond-returns
list_cond-returns t c = cond_listed c.args.c.now c.as_slice.result.now c.args.sizes.now.items c.push.new.self.items c.list_conj.new.sizes.items c.list_conjs.new.sizes.items c.len-at.result c.in_ok-first.first c.in_ok-rest.rest c.capped_sum-size.result c.as_slice.ensures (c.len-at.ensures ∙ c.args.sizes.now.ok.0) c.in_ok-push.ensures.items c.in_ok-first.ensures c.in_ok-rest.ensures c.capped_sum-size.ensures

pub list_conj-returns : goal.list_conj-returns
list_conj-returns t c = conj_listed c.args.conj.now c.as_slice.result.now c.args.sizes.now.items c.push.new.self.items c.list_test.new.sizes.items c.list_tests.new.sizes.items c.len-at.result c.in_ok-first.first c.in_ok-rest.rest c.capped_sum-size.result c.as_slice.ensures (c.len-at.ensures ∙ c.args.sizes.now.ok.0) c.in_ok-push.ensures.items c.in_ok-first.ensures c.in_ok-rest.ensures c.capped_sum-size.ensures

pub list_test-returns-in-Not : goal.list_test-returns-in-Not
list_test-returns-in-Not t c = rw (c.in-Not.is, test_not, ← c.get.ensures) c.list_test.ensures

pub list_test-returns-in-Group : goal.list_test-returns-in-Group
list_test-returns-in-Group t c = rw (c.in-Group.is, test_group, ← c.get-in-Group.ensures) c.list_cond.ensures

pub list_test-returns-in-Compare : goal.list_test-returns-in-Compare
list_test-returns-in-Compare t c =
    rw (c.in-Compare.is, test_compare)
    (compare_listed _ _ (rel_tree c.in-Compare.field-1) c.args.sizes.now.items c.expression_size.result c.expression_size-in-Compare.result c.capped_sum-operands.result c.capped_sum.result c.expression_size.ensures c.expression_size-in-Compare.ensures c.capped_sum-operands.ensures c.capped_sum.ensures)
