use Rattle.std.proofs.Common.{◌≡◌, ap, sym, ◌∙◌, subst, List, [], ◌∷◌}
use Rattle.bas_ast.specs.Tree.{ProgramUnit}
use Rattle.bas_ast.specs.UnitTree.{program_tree}
use Rattle.bas_code.specs.declared.body.Image.{Image}
use Rattle.bas_carry.specs.Carries.{Carries}
use Rattle.bas_execute.proofs.Making.{made_carries}
use Rattle.bas_execute.proofs.program.execute.Goals as goal

pub returns-clause-means : goal.returns-clause-means
returns-clause-means g c sound input =
    let p = program_tree c.args.program.now in
    c.run_carried.ensures.means (ProgramUnit p ∷ [])
    (subst (λ (image : Image). Carries image (ProgramUnit p ∷ [])) (sym c.in_ok-image.ensures) (made_carries p c.in_ok-proc.proc sound (c.in_ok-proc.ensures.made sound))) input

pub returns-clause-whole : goal.returns-clause-whole
returns-clause-whole g c sound =
    let p = program_tree c.args.program.now in
    c.run_carried.ensures.sound (ProgramUnit p ∷ [])
    (subst (λ (image : Image). Carries image (ProgramUnit p ∷ [])) (sym c.in_ok-image.ensures) (made_carries p c.in_ok-proc.proc sound (c.in_ok-proc.ensures.made sound)))
