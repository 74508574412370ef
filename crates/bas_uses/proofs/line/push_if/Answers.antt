-- The names of three parts in their order.
use Rattle.bas_uses.proofs.Appending.{three_parts}
use Rattle.bas_uses.proofs.line.push_if.Goals as goal

pub returns : goal.returns
returns c =
    three_parts c.push_else_branch.result c.args.names.now.items c.push_cond.new.names.items c.push_branch.new.names.items c.push_else_branch.new.names.items _ _ _
    c.in_ok-push_cond.ensures c.in_ok-push_branch.ensures c.push_else_branch.ensures
