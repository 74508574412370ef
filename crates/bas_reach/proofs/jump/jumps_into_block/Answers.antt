-- The lines that IF and ON name, and those that the statements name.
use Rattle.std.proofs.Common.{sym, ap, ◌∙◌}
use Rattle.bas_ast.specs.BlockTree.{item_tree}
use Rattle.bas_rules.specs.Jumping.{lines_of_item, goto_of, jumps_on}
use Rattle.bas_reach.specs.Lent.{lent}
use Rattle.bas_reach.specs.Placing.{misses}
use Rattle.bas_reach.specs.Standing.{around_of}
use Rattle.bas_reach.proofs.Jumps.{whole_misses}
use Rattle.bas_reach.proofs.jump.jumps_into_block.Goals as goal

pub returns : goal.returns
returns c = λ x at.
    let item = item_tree c.args.item.now in
    whole_misses (around_of c.args.around.now) x.around (lines_of_item item) goto_of (lent c.plains_on.result.0) (lent c.plains_on.result.1) item c.misses_of_item.result c.misses_of_lent.result c.misses_of_lent-2.result
    c.plains_on.ensures c.misses_of_item.ensures c.misses_of_lent.ensures c.misses_of_lent-2.ensures at.around
    ∙ ap (λ i. misses x.around.reach (jumps_on i)) (sym at.is)
