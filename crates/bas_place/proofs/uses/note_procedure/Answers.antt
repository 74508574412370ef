-- Its own names go before those of the container.
use Rattle.bas_ast.specs.BlockTree.{section_tree}
use Rattle.bas_scope.specs.Bodies.{internal_body}
use Rattle.bas_scope.specs.Scope.{Container}
use Rattle.bas_names.proofs.Putting.{if_ok}
use Rattle.bas_place.proofs.Inners.{has_inner, block_of_section}
use Rattle.bas_place.proofs.uses.note_procedure.Goals as goal

pub returns : goal.returns
returns c =
    if_ok c.note_body.result
    (λ x h outer entries s.
    h (internal_body outer entries (section_tree c.args.section.now))
    (c.internal_names-names.ensures outer entries (section_tree c.args.section.now) Container s.unit s.container (has_inner c.args.seen.now.unit.now outer _ (section_tree c.args.section.now) s.unit c.in_ok-inner.ensures))
    (block_of_section c.args.section.now))
    c.note_body.ensures
