-- LET of at least one target.
use Rattle.bas_gen.proofs.LayingLines.{let_counted}
use Rattle.bas_gen.proofs.layout.size_of_plain.Goals as goal

pub returns-else-is_empty : goal.returns-else-is_empty
returns-else-is_empty c = let_counted _ c.in-Let.targets.now.targets c.items.result.now _ c.is_empty.result c.expression_size.result c.capped_sum.result c.in-Let.ensures c.items.ensures c.is_empty.ensures c.if-is_empty.false c.expression_size.ensures c.capped_sum.ensures
