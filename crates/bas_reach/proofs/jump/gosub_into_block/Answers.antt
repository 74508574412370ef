-- The lines that ON names, and those that the statements name.
use Rattle.std.proofs.Common.{◌++◌, sym, ap, ◌∙◌}
use Rattle.bas_ast.specs.BlockTree.{item_tree}
use Rattle.bas_rules.specs.Jumping.{on_gosub, gosub_of, gosubs_on, end_line}
use Rattle.bas_rules.specs.Sites.{at_top, counted_lines}
use Rattle.bas_reach.specs.Lent.{lent}
use Rattle.bas_reach.specs.Placing.{misses}
use Rattle.bas_reach.specs.Standing.{around_of}
use Rattle.bas_reach.proofs.Jumps.{whole_misses}
use Rattle.bas_reach.proofs.jump.gosub_into_block.Goals as goal

pub returns : goal.returns
returns c = λ x is tells.
    let item = item_tree c.args.item.now in let reach = counted_lines x.body.block ++ end_line x.unit x.body.kind in
    whole_misses (around_of c.args.top.now) (at_top reach) (on_gosub item) gosub_of (lent c.plains_on.result.0) (lent c.plains_on.result.1) item c.misses_on_gosub.result c.misses_gosub_of_lent.result c.misses_gosub_of_lent-2.result
    c.plains_on.ensures c.misses_on_gosub.ensures c.misses_gosub_of_lent.ensures c.misses_gosub_of_lent-2.ensures tells
    ∙ ap (λ i. misses reach (gosubs_on i)) (sym is)
