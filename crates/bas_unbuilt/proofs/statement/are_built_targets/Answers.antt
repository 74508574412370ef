-- One target without subscripts.
use Rattle.std.proofs.Common.{ap, sym, ◌∙◌, map}
use Rattle.bas_ast.specs.ExpressionTree.{target_tree}
use Rattle.bas_mean.specs.Built.{are_built_targets}
use Rattle.bas_unbuilt.proofs.Pieces.{alone, target_alone, target_element}
use Rattle.bas_unbuilt.proofs.statement.are_built_targets.Goals as goal

pub returns-then-is_empty : goal.returns-then-is_empty
returns-then-is_empty c =
    target_alone c.only-item.result c.as_slice.result.now c.is_empty.result _ c.as_slice.ensures c.is_empty.ensures c.if-is_empty.true c.is_numeric_name.ensures
    ∙ ap (λ l. are_built_targets (map target_tree l)) (sym (alone c.args.targets.now c.only-item.result c.in-len1.len_at_least c.in-len1.len_below c.only-item.is))

pub returns-else-is_empty : goal.returns-else-is_empty
returns-else-is_empty c =
    target_element c.only-item.result c.as_slice.result.now c.is_empty.result c.as_slice.ensures c.is_empty.ensures c.if-is_empty.false
    ∙ ap (λ l. are_built_targets (map target_tree l)) (sym (alone c.args.targets.now c.only-item.result c.in-len1.len_at_least c.in-len1.len_below c.only-item.is))
