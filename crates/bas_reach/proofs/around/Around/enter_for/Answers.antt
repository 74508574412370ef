-- One more block, inside of FOR.
use Rattle.std.proofs.Common.{◌∷◌, [], ◌++◌, ap, refl, append_assoc}
use Rattle.bas_ast.specs.BlockTree.{block_tree}
use Rattle.bas_rules.specs.Jumping.{is_listed}
use Rattle.bas_rules.specs.Sites.{counted_lines}
use Rattle.bas_reach.proofs.Layers.{tells_inner, flags_kept}
use Rattle.bas_reach.proofs.around.Around.enter_for.Goals as goal

pub returns : goal.returns
returns c = λ start limit step a tells.
    let kept = flags_kept c.args.self.now a tells in
    rw c.within.ensures
    (tells_inner c.args.self _ (counted_lines (block_tree c.args.block.now) ++ c.args.close ∷ []) a _ refl c.in_ok-lines.ensures tells
    (record {
      reach = λ l. ap (λ all. is_listed all l) (append_assoc (counted_lines (block_tree c.args.block.now)) (c.args.close ∷ []) a.reach);
      in_do = kept.0;
      in_for = refl;
      in_handler = kept.2;
      counters = λ name. refl;
    }))
