-- A line has a second place where it has a definition.
use Rattle.std.proofs.Common.{ap, sym, ◌∙◌, [], ◌∷◌}
use Rattle.bas_ast.specs.BlockTree.{line_tree}
use Rattle.bas_ast.specs.Tree.{Nothing}
use Rattle.bas_names.proofs.Putting.{if_ok}
use Rattle.bas_rules.specs.Sites.{definition_sites, site_at}
use Rattle.bas_rules.specs.Well.{fault_among}
use Rattle.bas_check.specs.Walks.{definition_told}
use Rattle.bas_check.proofs.definition.single_fault.Goals as goal

pub returns-in-Some : goal.returns-in-Some
returns-in-Some c = λ g h.
    let head = line_tree c.args.line.now in
    c.definition_line_fault.ensures g h (c.definition_in.ensures head ∙ ap (definition_told head) c.in-Some.is)

pub returns-in-None : goal.returns-in-None
returns-in-None c = λ g h.
    let head = line_tree c.args.line.now in
    if_ok c.lone_line_fault.result
    (λ found p. p ∙ ap (λ l. fault_among ((site_at g Nothing head ∷ definition_sites g l) ∷ [])) (sym (c.definition_in.ensures head ∙ ap (definition_told head) c.in-None.is)))
    (c.lone_line_fault.ensures g h)
