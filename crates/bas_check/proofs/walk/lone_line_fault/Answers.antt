-- Nothing opens the line.
use Rattle.std.proofs.Common.{ap, ◌∙◌, [], ◌∷◌}
use Rattle.bas_ast.specs.BlockTree.{line_tree}
use Rattle.bas_names.proofs.Putting.{if_ok}
use Rattle.bas_rules.specs.Sites.{site_at}
use Rattle.bas_rules.specs.Well.{fault_among}
use Rattle.bas_check.proofs.walk.lone_line_fault.Goals as goal

pub returns : goal.returns
returns c = λ g h.
    if_ok c.divided_line_fault.result (λ found p. p ∙ ap (λ x. fault_among ((site_at g x (line_tree c.args.line.now) ∷ []) ∷ [])) h.nothing)
    (c.divided_line_fault.ensures g h)
