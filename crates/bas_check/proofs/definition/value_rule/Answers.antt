-- The one line of the definition's body.
use Rattle.std.proofs.Common.{refl}
use Rattle.bas_ast.specs.BlockTree.{line_tree}
use Rattle.bas_ast.specs.ExpressionTree.{expr_tree}
use Rattle.bas_scope.specs.Bodies.{internal_body}
use Rattle.bas_scope.specs.Scope.{Container}
use Rattle.bas_rules.specs.Sites.{at_top, counted_lines, internal_ground}
use Rattle.bas_check.specs.Walks.{definition_of}
use Rattle.bas_check.proofs.Procedures.{has_defined, seen_by, top_inside}
use Rattle.bas_check.proofs.definition.value_rule.Goals as goal

pub returns : goal.returns
returns c = λ g h e.
    let head = line_tree c.args.line.now in
    let value = expr_tree c.args.definition.now.value.now in
    let inner = definition_of head c.args.definition.now.name value in
    let entries = g.family.container.scope.names in
    let body = internal_body g.outer entries inner in
    let of_body = c.in_ok-facts.ensures g.unit g.outer entries c.args.definition.now.name value in
    let senses = c.internal_names-names.ensures g.outer entries inner Container (seen_by c.args.walk g h) h.container (has_defined c.args.walk g _ head inner h e c.in_ok-table.ensures) in
    let walks = c.in_procedure-inner.ensures g body (at_top (counted_lines inner.1)) h of_body h.outer senses (top_inside _ g.unit body refl of_body) in
    c.definition_fault.ensures (internal_ground g inner) walks.place
