-- A name without arguments.
use Rattle.bas_unbuilt.proofs.Pieces.{name_alone, name_called}
use Rattle.bas_unbuilt.proofs.expression.is_built_name.Goals as goal

pub returns-then-is_empty : goal.returns-then-is_empty
returns-then-is_empty c = name_alone _ c.args.args.now c.as_slice.result.now c.is_empty.result _ c.as_slice.ensures c.is_empty.ensures c.if-is_empty.true c.is_numeric_name.ensures

pub returns-else-is_empty : goal.returns-else-is_empty
returns-else-is_empty c = name_called _ c.args.args.now c.as_slice.result.now c.is_empty.result c.as_slice.ensures c.is_empty.ensures c.if-is_empty.false
