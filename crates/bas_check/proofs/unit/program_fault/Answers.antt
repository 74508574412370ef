-- A program is a container with a line of END.
use Rattle.std.proofs.Common.{[], ◌∷◌, ◌++◌, refl, ap, ◌∙◌}
use Rattle.bas_ast.specs.Tree.{ProgramUnit}
use Rattle.bas_ast.specs.UnitTree.{program_tree}
use Rattle.bas_names.proofs.Putting.{if_ok}
use Rattle.bas_scope.specs.Bodies.{outer_of}
use Rattle.bas_scope.specs.declared.body.BodyKind.TheVariants.{Main}
use Rattle.bas_rules.specs.Sites.{block_sites, ground_of, head_sites, line_sites}
use Rattle.bas_rules.specs.Well.{fault_among}
use Rattle.bas_check.proofs.unit.program_fault.Goals as goal

pub returns : goal.returns
returns c = λ unit nothing.
    let p = program_tree c.args.program.now in
    let tree = ProgramUnit p in
    if_ok c.container_fault.result
    (λ found q. q ∙ ap
    (λ head. fault_among (head_sites (ground_of tree (outer_of tree) Main head p.body (p.close.line ∷ [])) head ++ (block_sites (ground_of tree (outer_of tree) Main head p.body (p.close.line ∷ [])) p.body ++ line_sites (ground_of tree (outer_of tree) Main head p.body (p.close.line ∷ [])) p.close)))
    c.lent_head.ensures)
    (c.container_fault.ensures tree unit nothing refl)
