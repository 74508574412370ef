-- The line of the module, and then the others.
use Rattle.std.proofs.Common.{◌++◌, sym, ◌∙◌}
use Rattle.bas_ast.specs.UnitTree.{module_tree}
use Rattle.bas_scope.specs.Bodies.{outer_of}
use Rattle.bas_scope.specs.Lines.{gathered}
use Rattle.bas_rules.specs.Sites.{block_sites, line_sites, procedure_sites}
use Rattle.bas_names.proofs.Putting.{if_ok}
use Rattle.bas_check.proofs.Finding.{found_first, found_next}
use Rattle.bas_check.proofs.unit.module_lines_fault.Goals as goal

pub returns-then-is_some : goal.returns-then-is_some
returns-then-is_some c = λ g h.
    let m = module_tree c.args.part.now in
    found_first c.in_ok-found.found (line_sites g m.head) (block_sites g m.initial ++ (gathered (procedure_sites g.unit (outer_of g.unit)) m.procs ++ line_sites g m.close)) (sym c.is_some.ensures ∙ c.if-is_some.true) (c.in_ok-found.ensures g h)

pub returns : goal.returns
returns c = λ g h.
    let m = module_tree c.args.part.now in
    if_ok c.initial_lines_fault.result
    (λ next p. found_next c.in_ok-found.found next (line_sites g m.head) (block_sites g m.initial ++ (gathered (procedure_sites g.unit (outer_of g.unit)) m.procs ++ line_sites g m.close)) (sym c.is_some.ensures ∙ c.if-is_some.false) (c.in_ok-found.ensures g h) p)
    (c.initial_lines_fault.ensures g h)
