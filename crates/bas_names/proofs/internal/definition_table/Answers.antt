-- The body of a definition declares nothing.
use Rattle.std.proofs.Common.{sym, ap, ◌∙◌}
use Rattle.bas_ast.specs.BlockTree.{item_tree, line_tree}
use Rattle.bas_ast.specs.ExpressionTree.{expr_tree}
use Rattle.bas_ast.specs.PartTree.{formals_tree, part_tree}
use Rattle.bas_ast.specs.Tree as t
use Rattle.bas_ast.proofs.LineTrees.{line_item_part}
use Rattle.bas_ast.proofs.PartTrees.{part_def}
use Rattle.bas_names.specs.Tables.{options_told}
use Rattle.bas_names.proofs.Bodies.{definition_has}
use Rattle.bas_names.proofs.Putting.{if_ok}
use Rattle.bas_names.proofs.internal.definition_table.Goals as goal

pub returns-in-Def : goal.returns-in-Def
returns-in-Def c =
    if_ok c.inside_table.result
    (λ table h.
    definition_has (options_told c.args.options) (line_tree c.args.line.now) c.in-Def.field-0 (formals_tree c.in-Def.field-1) (expr_tree c.in-Def.field-2) c.new.result table
    (ap item_tree c.in-Part.is ∙ line_item_part c.in-Part.part ∙ ap (λ x. t.OfPart (part_tree x)) (sym c.get.ensures ∙ c.in-Def.is) ∙ ap t.OfPart (part_def c.in-Def.field-0 c.in-Def.field-1 c.in-Def.field-2))
    c.new.ensures h)
    c.inside_table.ensures
