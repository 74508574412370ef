-- The procedures, and then the line that closes the module.
use Rattle.std.proofs.Common.{map, sym, ap, ◌∙◌}
use Rattle.bas_ast.specs.UnitTree.{module_tree, procedure_tree}
use Rattle.bas_scope.specs.Bodies.{outer_of}
use Rattle.bas_scope.specs.Lines.{gathered}
use Rattle.bas_rules.specs.Sites.{line_sites, procedure_sites}
use Rattle.bas_rules.specs.Well.{fault_among}
use Rattle.bas_names.proofs.Putting.{if_ok}
use Rattle.bas_check.proofs.Finding.{found_first, found_next}
use Rattle.bas_check.proofs.unit.later_lines_fault.Goals as goal

pub returns-then-is_some : goal.returns-then-is_some
returns-then-is_some c = λ g h.
    let m = module_tree c.args.part.now in
    found_first c.in_ok-found.found (gathered (procedure_sites g.unit (outer_of g.unit)) m.procs) (line_sites g m.close) (sym c.is_some.ensures ∙ c.if-is_some.true) (c.in_ok-found.ensures g.unit h.place.unit h.nothing ∙ ap (λ xs. fault_among (gathered (procedure_sites g.unit (outer_of g.unit)) (map procedure_tree xs))) c.items-procedures.ensures)

pub returns : goal.returns
returns c = λ g h.
    let m = module_tree c.args.part.now in
    if_ok c.lone_line_fault.result
    (λ next p. found_next c.in_ok-found.found next (gathered (procedure_sites g.unit (outer_of g.unit)) m.procs) (line_sites g m.close) (sym c.is_some.ensures ∙ c.if-is_some.false) (c.in_ok-found.ensures g.unit h.place.unit h.nothing ∙ ap (λ xs. fault_among (gathered (procedure_sites g.unit (outer_of g.unit)) (map procedure_tree xs))) c.items-procedures.ensures) p)
    (c.lone_line_fault.ensures g h)
