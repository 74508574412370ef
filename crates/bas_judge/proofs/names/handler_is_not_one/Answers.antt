-- On the ground of the place.
use Rattle.std.proofs.Common.{refl}
use Rattle.bas_ast.specs.BlockTree.{line_tree}
use Rattle.bas_rules.specs.Sites.{site_at}
use Rattle.bas_judge.proofs.names.handler_is_not_one.Goals as goal

pub returns : goal.returns
returns c = λ opener ground stands. c.lacks_handler.ensures (site_at ground opener (line_tree c.args.line.now)) stands.body.handlers refl
