-- One more block, inside of a handler.
use Rattle.std.proofs.Common.{refl}
use Rattle.bas_ast.specs.BlockTree.{block_tree}
use Rattle.bas_rules.specs.Sites.{counted_lines}
use Rattle.bas_reach.proofs.Layers.{tells_inner, flags_kept}
use Rattle.bas_reach.proofs.around.Around.enter_use.Goals as goal

pub returns : goal.returns
returns c = λ a tells.
    let kept = flags_kept c.args.self.now a tells in
    rw c.within.ensures
    (tells_inner c.args.self _ (counted_lines (block_tree c.args.block.now)) a _ refl c.in_ok-lines.ensures tells
    (record { reach = λ l. refl; in_do = kept.0; in_for = kept.1; in_handler = refl; counters = λ name. refl }))
