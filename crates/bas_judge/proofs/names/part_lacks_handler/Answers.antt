-- The first lines of the handlers of the body.
use Rattle.std.proofs.Common.{not, ap, ◌∙◌}
use Rattle.bas_ast.specs.PartTree.{part_tree}
use Rattle.bas_judge.proofs.names.part_lacks_handler.Goals as goal

pub returns-in-WhenExceptionUse : goal.returns-in-WhenExceptionUse
unfolding part_tree
returns-in-WhenExceptionUse c = λ x first at. rw c.in-WhenExceptionUse.is (ap not (c.stands.ensures ∙ first.stands _))

pub returns-in-Handler : goal.returns-in-Handler
unfolding part_tree
returns-in-Handler c = λ x first at. rw (c.in-Handler.is, at) (c.is_before.ensures ∙ first.before _ c.args.line)
