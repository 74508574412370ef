-- The lines of each part, in their order.
use Rattle.std.proofs.Common.{[], ◌∷◌, refl, sym, ap, ◌∙◌, arith}
use Rattle.bas_ast.specs.BlockTree.{block_tree, item_tree, line_tree, section_tree, stmt_tree, stmts_tree}
use Rattle.bas_ast.specs.declared.block.Section.{out-Section}
use Rattle.bas_ast.proofs.BlockTrees.{stmt_single, stmt_nest, block_out, section_out}
use Rattle.bas_scope.specs.Bodies.{internal_body}
use Rattle.bas_scope.specs.Scope.{Container, Inner}
use Rattle.bas_rules.specs.Sites.{at_top, block_sites, counted_lines, inside, internal_ground, line_sites, site_at, stmt_sites}
use Rattle.bas_names.proofs.Putting.{if_ok}
use Rattle.bas_rules.specs.Well.{fault_among}
use Rattle.bas_scope.specs.Lines.{opens_procedure}
use Rattle.bas_check.proofs.Finding.{row_found, row_next, row_end}
use Rattle.bas_check.proofs.Procedures.{has_inner, no_end_inside, seen_by, top_inside}
use Rattle.bas_check.proofs.Sections.{dividing_found, dividing_inside, divides_later, head_is, opening_found, opening_inside, opening_procedure, opens_first, section_found, section_next, sections_end}
use Rattle.bas_check.proofs.block.+walks.Goals as goal

pub block_fault-returns : goal.block_fault-returns
block_fault-returns t c = λ g h. rw (block_out, ← c.as_slice.ensures) (c.stmts_fault.ensures g h)

pub stmt_fault-returns-in-Single : goal.stmt_fault-returns-in-Single
stmt_fault-returns-in-Single t c = λ g h. rw (c.in-Single.is, stmt_single) (c.single_fault.ensures g h)

pub stmt_fault-returns-in-Nest : goal.stmt_fault-returns-in-Nest
stmt_fault-returns-in-Nest t c = λ g h. rw (c.in-Nest.is, stmt_nest, ← c.as_slice.ensures) (c.nest_fault.ensures g h)

pub inside_fault-returns : goal.inside_fault-returns
inside_fault-returns t c = λ g h.
    let head = line_tree (out-Section c.args.section.now).head in
    let body = block_tree (out-Section c.args.section.now).body in
    let around = inside head.item body c.args.close g.around in
    rw (section_out c.args.section.now) (c.block_fault.ensures (record g { around = around }) (c.within.ensures g around h (c.in_ok-around.ensures g.around h.place.around)))

pub procedure_body_fault-returns : goal.procedure_body_fault-returns
procedure_body_fault-returns t c = λ g h.
    let inner : Inner = (line_tree (out-Section c.args.section.now).head, block_tree (out-Section c.args.section.now).body) in
    let entries = g.family.container.scope.names in
    let body = internal_body g.outer entries inner in
    let of_body = c.in_ok-facts.ensures g.unit body refl refl refl (no_end_inside g.unit) in
    let table = rw (section_out c.args.section.now) at c.in_ok-table.ensures in
    let senses = c.internal_names-names.ensures g.outer entries inner Container (seen_by c.args.walk g h) h.container (has_inner c.args.walk g _ inner h table) in
    let walks = c.in_procedure.ensures g body (at_top (counted_lines inner.1)) h of_body h.outer senses (top_inside _ g.unit body refl of_body) in
    rw (section_out c.args.section.now) (c.block_fault.ensures (internal_ground g inner) walks)

pub stmts_fault-returns-then-is_some : goal.stmts_fault-returns-then-is_some
stmts_fault-returns-then-is_some t c = λ g h.
    row_found (λ xs. block_sites g (stmts_tree xs)) (λ x. stmt_sites g (stmt_tree x)) (λ x xs. refl) c.args.stmts.now c.loop-stmt.stmt-index c.stmt-item.result c.in_ok-found.found
    c.stmt-item.is (omega arith) (sym c.is_some.ensures ∙ c.if-is_some.true) (c.in_ok-found.ensures g h) (c.loop-stmt.invariant g h)

pub stmts_fault-loop-stmt-preserved : goal.stmts_fault-loop-stmt-preserved
stmts_fault-loop-stmt-preserved t c = λ g h.
    row_next (λ xs. block_sites g (stmts_tree xs)) (λ x. stmt_sites g (stmt_tree x)) (λ x xs. refl) c.args.stmts.now c.loop-stmt.stmt-index c.stmt-item.result c.in_ok-found.found
    c.stmt-item.is (omega arith) (sym c.is_some.ensures ∙ c.if-is_some.false) (c.in_ok-found.ensures g h) (c.loop-stmt.invariant g h)

pub stmts_fault-returns : goal.stmts_fault-returns
stmts_fault-returns t c = λ g h.
    row_end (λ xs. block_sites g (stmts_tree xs)) (λ x. stmt_sites g (stmt_tree x)) (λ x xs. refl) c.args.stmts.now c.loop-stmt.stmt-index refl (omega arith) (c.loop-stmt.invariant g h)

pub opening_fault-returns-then-is_some : goal.opening_fault-returns-then-is_some
opening_fault-returns-then-is_some t c = λ g h.
    let x = c.args.section.now in
    opening_found g c.args.close (section_tree x) c.in_ok-found.found (sym c.is_some.ensures ∙ c.if-is_some.true) (c.in_ok-found.ensures g h ∙ ap (λ l. fault_among (line_sites g l)) (head_is x))

pub opening_fault-returns-then-opens_procedure : goal.opening_fault-returns-then-opens_procedure
opening_fault-returns-then-opens_procedure t c = λ g h.
    let x = c.args.section.now in
    if_ok c.procedure_body_fault.result
    (λ next q. opening_procedure g c.args.close (section_tree x) c.in_ok-found.found next (sym c.is_some.ensures ∙ c.if-is_some.false) (c.in_ok-found.ensures g h ∙ ap (λ l. fault_among (line_sites g l)) (head_is x))
    (ap (λ l. opens_procedure l.item) (sym (head_is x)) ∙ sym c.opens_procedure.ensures ∙ c.if-opens_procedure.true) q)
    (c.procedure_body_fault.ensures g h)

pub opening_fault-returns-else-opens_procedure : goal.opening_fault-returns-else-opens_procedure
opening_fault-returns-else-opens_procedure t c = λ g h.
    let x = c.args.section.now in
    if_ok c.inside_fault.result
    (λ next q. opening_inside g c.args.close (section_tree x) c.in_ok-found.found next (sym c.is_some.ensures ∙ c.if-is_some.false) (c.in_ok-found.ensures g h ∙ ap (λ l. fault_among (line_sites g l)) (head_is x))
    (ap (λ l. opens_procedure l.item) (sym (head_is x)) ∙ sym c.opens_procedure.ensures ∙ c.if-opens_procedure.false) q)
    (c.inside_fault.ensures g h)

pub dividing_fault-returns-then-is_some : goal.dividing_fault-returns-then-is_some
dividing_fault-returns-then-is_some t c = λ g h.
    let x = c.args.section.now in
    let opener = item_tree c.args.opener.now in
    dividing_found g c.args.close (section_tree x) c.in_ok-found.found opener (sym c.is_some.ensures ∙ c.if-is_some.true)
    (c.in_ok-found.ensures g h ∙ ap (λ l. fault_among ((site_at g opener l ∷ []) ∷ [])) (head_is x))

pub dividing_fault-returns : goal.dividing_fault-returns
dividing_fault-returns t c = λ g h.
    let x = c.args.section.now in
    let opener = item_tree c.args.opener.now in
    if_ok c.inside_fault.result
    (λ next q. dividing_inside g c.args.close (section_tree x) c.in_ok-found.found opener next (sym c.is_some.ensures ∙ c.if-is_some.false)
    (c.in_ok-found.ensures g h ∙ ap (λ l. fault_among ((site_at g opener l ∷ []) ∷ [])) (head_is x)) q)
    (c.inside_fault.ensures g h)

pub section_fault-returns-then-i-eq0 : goal.section_fault-returns-then-i-eq0
section_fault-returns-then-i-eq0 t c = λ g h.
    let s = section_tree c.args.section.now in
    if_ok c.opening_fault.result (λ found p. p ∙ ap fault_among (sym (opens_first g (item_tree c.args.opener.now) c.args.i c.args.close s c.if-i-eq0.true)))
    (c.opening_fault.ensures g h)

pub section_fault-returns-else-i-eq0 : goal.section_fault-returns-else-i-eq0
section_fault-returns-else-i-eq0 t c = λ g h.
    let s = section_tree c.args.section.now in
    if_ok c.dividing_fault.result (λ found p. p ∙ ap fault_among (sym (divides_later g (item_tree c.args.opener.now) c.args.i c.args.close s c.if-i-eq0.false)))
    (c.dividing_fault.ensures g h)

pub nest_fault-returns-then-is_some : goal.nest_fault-returns-then-is_some
nest_fault-returns-then-is_some t c = λ g h.
    section_found g c.args.sections.now c.loop-i.i c.index-sections-i.result (line_tree c.args.close.now) (item_tree c.opener_of-opener.result.now) (c.opener_of-opener.ensures h.nothing) c.index-sections-i.is (omega arith)
    c.in_ok-found.found (c.in_ok-found.ensures g h) (sym c.is_some.ensures ∙ c.if-is_some.true) (c.loop-i.invariant g h)

pub nest_fault-loop-i-preserved : goal.nest_fault-loop-i-preserved
nest_fault-loop-i-preserved t c = λ g h.
    section_next g c.args.sections.now c.loop-i.i c.index-sections-i.result (line_tree c.args.close.now) (item_tree c.opener_of-opener.result.now) (c.opener_of-opener.ensures h.nothing) c.index-sections-i.is (omega arith)
    c.in_ok-found.found (c.in_ok-found.ensures g h) (sym c.is_some.ensures ∙ c.if-is_some.false) (c.loop-i.invariant g h)

pub nest_fault-returns : goal.nest_fault-returns
nest_fault-returns t c = λ g h.
    if_ok c.divided_line_fault.result
    (λ found p. sections_end g c.args.sections.now c.loop-i.i (line_tree c.args.close.now) (item_tree c.opener_of-opener.result.now) found (c.opener_of-opener.ensures h.nothing) (omega arith) p (c.loop-i.invariant g h))
    (c.divided_line_fault.ensures g h)
