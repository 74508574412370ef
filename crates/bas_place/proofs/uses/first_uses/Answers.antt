-- The container, and then its internal procedures.
use Rattle.std.proofs.Common.{refl}
use Rattle.bas_ast.specs.BlockTree.{block_tree}
use Rattle.bas_scope.specs.Bodies.{family_of, head_item}
use Rattle.bas_scope.specs.Scope.{Here, outer_names}
use Rattle.bas_place.proofs.Inners.{all_uses, gains_block}
use Rattle.bas_place.proofs.uses.first_uses.Goals as goal

pub returns : goal.returns
returns c = λ outer kind head has before.
    let block = block_tree c.args.block.now in
    let f = family_of outer kind head block in
    let entries = outer_names outer (head_item head) block in
    all_uses c.new-uses.result c.note_body.new.uses c.note_internals.new.uses f c.new-uses.ensures
    (c.in_ok-note_body.ensures f.container (c.container_names-names.ensures outer entries Here has before) refl)
    (gains_block outer entries c.args.block.now c.as_slice.result.now c.note_body.new.uses c.note_internals.new.uses c.as_slice.ensures
    (c.in_ok-note_internals.ensures outer entries (record { unit = has; container = before })))
