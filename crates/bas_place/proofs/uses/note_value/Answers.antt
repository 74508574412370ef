-- The one line of the definition's body.
use Rattle.bas_ast.specs.BlockTree.{line_tree}
use Rattle.bas_ast.specs.ExpressionTree.{expr_tree}
use Rattle.bas_scope.specs.Scope.{Container, definition_block}
use Rattle.bas_names.proofs.Putting.{if_ok}
use Rattle.bas_place.proofs.Inners.{has_defined, gains_value}
use Rattle.bas_place.proofs.uses.note_value.Goals as goal

pub returns : goal.returns
returns c =
    let head = line_tree c.args.line.now in
    let value = expr_tree c.args.value.now in
    if_ok c.note_used.result
    (λ x h outer entries s e.
    gains_value outer entries head c.args.name value c.internal_names-names.result c.args.uses.now c.note_used.new.uses
    (c.internal_names-names.ensures outer entries (head, definition_block head.line c.args.name value) Container s.unit s.container (has_defined c.args.seen.now.unit.now outer _ head (head, definition_block head.line c.args.name value) s.unit e c.in_ok-inner.ensures))
    c.as_slice.result.now _ c.as_slice.ensures.value c.in_ok-used.ensures
    h)
    c.note_used.ensures
