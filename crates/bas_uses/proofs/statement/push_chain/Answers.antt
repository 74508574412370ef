-- What the first part uses stands first.
use Rattle.bas_uses.proofs.Appending.{two_parts}
use Rattle.bas_uses.proofs.statement.push_chain.Goals as goal

pub returns : goal.returns
returns c =
    two_parts c.push_values.result c.args.names.now.items c.push_expr.new.names.items c.push_values.new.names.items _ _ c.in_ok-push_expr.ensures c.push_values.ensures
