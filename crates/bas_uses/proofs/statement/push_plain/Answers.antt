-- CALL uses the names of its arguments.
use Rattle.bas_ast.specs.StatementTree.{plain_tree}
use Rattle.bas_uses.specs.Uses.{bare_names}
use Rattle.bas_uses.proofs.statement.push_plain.Goals as goal

pub returns-in-Call : goal.returns-in-Call
unfolding bare_names plain_tree
returns-in-Call c = rw c.in-Call.is c.push_args.ensures
