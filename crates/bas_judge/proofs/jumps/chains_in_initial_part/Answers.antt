-- On the ground of the place.
use Rattle.std.proofs.Common.{refl, sym, ap, ◌∙◌}
use Rattle.bas_rules.specs.Jumping.{is_initial}
use Rattle.bas_ast.specs.BlockTree.{line_tree}
use Rattle.bas_rules.specs.Sites.{site_at}
use Rattle.bas_judge.proofs.jumps.chains_in_initial_part.Goals as goal

pub returns : goal.returns
returns c = λ opener ground stands. c.chains_in_initial_part.ensures (site_at ground opener (line_tree c.args.line.now)) (ap is_initial stands.body.kind ∙ sym c.is_initial.ensures) refl
