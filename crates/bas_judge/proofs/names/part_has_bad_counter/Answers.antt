-- The variable that counts, or that the opening line counts by.
use Rattle.std.proofs.Common.{not, ap}
use Rattle.bas_ast.specs.PartTree.{part_tree}
use Rattle.bas_judge.proofs.names.part_has_bad_counter.Goals as goal

pub returns-in-For : goal.returns-in-For
unfolding part_tree
returns-in-For c = λ x same tells opens. rw c.in-For.is (c.may_not_count.ensures x same tells)

pub returns-in-Next : goal.returns-in-Next
unfolding part_tree
returns-in-Next c = λ x same tells opens. rw (c.in-Next.is, opens) (ap not c.is_counter_of.ensures)
