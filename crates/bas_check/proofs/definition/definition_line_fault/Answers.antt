-- The lesser of what the line breaks at each of its two places.
use Rattle.std.proofs.Common.{ap, ◌∙◌, [], ◌∷◌}
use Rattle.bas_ast.specs.BlockTree.{line_tree}
use Rattle.bas_ast.specs.ExpressionTree.{expr_tree}
use Rattle.bas_rules.specs.Sites.{site_at}
use Rattle.bas_rules.specs.Well.{first_failed, rules}
use Rattle.bas_check.specs.Faults.{broken_at}
use Rattle.bas_check.proofs.Finding.{definition_found}
use Rattle.bas_check.proofs.definition.definition_line_fault.Goals as goal

pub returns : goal.returns
returns c = λ g h is.
    let head = line_tree c.args.line.now in
    definition_found c.fault_at.result c.in_ok-rule.rule c.in_ok-inner.inner g head c.args.definition.now.name (expr_tree c.args.definition.now.value.now) c.faults_of_places.ensures is
    (c.fault_at.ensures ∙ ap (λ b. broken_at head.line b) c.least.ensures)
    (c.in_ok-rule.ensures g h.place ∙ ap (λ x. first_failed 1 rules (site_at g x head ∷ [])) h.nothing)
    (c.in_ok-inner.ensures g h is)
