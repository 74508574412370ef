-- The names of three parts in their order.
use Rattle.bas_uses.proofs.Appending.{three_parts}
use Rattle.bas_uses.proofs.printed.push_formatted.Goals as goal

pub returns : goal.returns
returns c =
    three_parts c.push_more_values.result c.args.names.now.items c.push_expr.new.names.items c.push_expr-2.new.names.items c.push_more_values.new.names.items _ _ _
    c.in_ok-push_expr.ensures c.in_ok-push_expr-2.ensures c.push_more_values.ensures
