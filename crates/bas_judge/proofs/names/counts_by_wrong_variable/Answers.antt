-- On the ground of the place.
use Rattle.std.proofs.Common.{refl}
use Rattle.bas_ast.specs.BlockTree.{line_tree, item_tree}
use Rattle.bas_rules.specs.Sites.{site_at}
use Rattle.bas_judge.proofs.names.counts_by_wrong_variable.Goals as goal

pub returns : goal.returns
returns c = λ ground stands.
    c.has_bad_counter.ensures (site_at ground (item_tree c.args.opener.now) (line_tree c.args.line.now)) stands.names stands.around refl
