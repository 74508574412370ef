-- One more block.
use Rattle.std.proofs.Common.{refl}
use Rattle.bas_ast.specs.BlockTree.{block_tree}
use Rattle.bas_rules.specs.Sites.{counted_lines}
use Rattle.bas_reach.proofs.Layers.{tells_out, flags_kept}
use Rattle.bas_reach.proofs.around.Around.enter_section.Goals as goal

pub returns : goal.returns
returns c = λ a tells.
    let kept = flags_kept c.args.self.now a tells in
    tells_out c.args.self c.within.result _ (counted_lines (block_tree c.args.block.now)) a _ c.within.ensures refl c.in_ok-lines.ensures tells
    (record { reach = λ l. refl; in_do = kept.0; in_for = kept.1; in_handler = kept.2; counters = λ name. refl })
