-- The lines are those of the body.
use Rattle.std.proofs.Common.{ap, ◌∙◌}
use Rattle.bas_ast.specs.BlockTree.{block_tree}
use Rattle.bas_names.specs.Lent.{line_trees}
use Rattle.bas_names.specs.Names.{senses_in}
use Rattle.bas_names.proofs.Putting.{if_ok}
use Rattle.bas_place.proofs.Gaining.{gains_body}
use Rattle.bas_place.proofs.uses.note_body.Goals as goal

pub returns : goal.returns
returns c =
    if_ok c.note_lines.result
    (λ x h body e b.
    gains_body (senses_in c.args.names.now) body (block_tree c.args.block.now) (line_trees c.as_slice.result.now) c.args.uses.now c.note_lines.new.uses
    e b (ap line_trees c.as_slice.ensures.value ∙ c.in_ok-lines.ensures) h)
    c.note_lines.ensures
