-- Strings have names of strings.
use Rattle.bas_ast.specs.ExpressionTree.{expr_tree}
use Rattle.bas_judge.proofs.Defining.{other_kind}
use Rattle.bas_judge.proofs.definition.has_other_kind.Goals as goal

pub returns : goal.returns
returns c =
    other_kind c.args.name (expr_tree c.args.value.now) c.is_text_name.result c.is_number.result c.is_text_name.ensures c.is_number.ensures
