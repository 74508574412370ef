-- A SUB before it, and a value of another kind.
use Rattle.std.proofs.Common.{◌∙◌}
use Rattle.bas_ast.specs.ExpressionTree.{expr_tree}
use Rattle.bas_judge.specs.Definitions.{definition_item}
use Rattle.bas_judge.proofs.Claiming.{used_sub}
use Rattle.bas_judge.proofs.Defining.{definition_row}
use Rattle.bas_judge.proofs.definition.own_fault.Goals as goal

pub returns : goal.returns
returns c = λ ground stands.
    let value = expr_tree c.args.value.now in
    c.first_broken.ensures
    ∙ definition_row ground c.args.line c.args.name value _ _
    (used_sub c.args.place.now ground stands c.args.line (definition_item c.args.name value) _ c.in_ok-uses_sub.ensures)
    c.has_other_kind.ensures
