-- Arguments are their row.
use Rattle.bas_ast.proofs.ExpressionTrees.{args_out}
use Rattle.bas_uses.proofs.expression.push_args.Goals as goal

pub returns : goal.returns
returns c = rw (args_out, ← c.as_slice.ensures) c.push_actuals.ensures
