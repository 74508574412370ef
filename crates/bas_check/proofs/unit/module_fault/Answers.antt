-- The lines of a module stand on the ground of its initial part, those of its procedures left out.
use Rattle.std.proofs.Common.{[], None, refl}
use Rattle.bas_ast.specs.Tree.{ModuleUnit}
use Rattle.bas_ast.specs.UnitTree.{module_tree}
use Rattle.bas_scope.specs.Bodies.{outer_of}
use Rattle.bas_scope.specs.declared.body.BodyKind.TheVariants.{Initial}
use Rattle.bas_rules.specs.Sites.{ground_of}
use Rattle.bas_check.proofs.unit.module_fault.Goals as goal

pub returns : goal.returns
returns c = λ unit nothing.
    let m = module_tree c.args.part.now in
    let tree = ModuleUnit m in
    let g = ground_of tree (outer_of tree) Initial None m.initial [] in
    c.module_lines_fault.ensures g (c.walk_over.ensures g unit nothing (c.in_ok-family.ensures tree unit nothing refl))
