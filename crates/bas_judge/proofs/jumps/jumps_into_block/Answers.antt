-- On the ground of the place.
use Rattle.std.proofs.Common.{refl}
use Rattle.bas_ast.specs.BlockTree.{line_tree}
use Rattle.bas_rules.specs.Sites.{site_at}
use Rattle.bas_judge.proofs.jumps.jumps_into_block.Goals as goal

pub returns : goal.returns
returns c = λ opener ground stands. c.jumps_into_block.ensures (site_at ground opener (line_tree c.args.line.now)) (record { around = stands.around; is = refl })
