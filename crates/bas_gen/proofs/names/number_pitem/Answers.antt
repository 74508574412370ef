-- Each part gets its slots behind the parts before it.
use Rattle.std.proofs.Common.{sym, ap, ◌∙◌, Some}
use Rattle.bas_ast.specs.StatementTree.{pitem_tree}
use Rattle.bas_ast.proofs.StatementTrees.{pitem_expr, pitem_tab}
use Rattle.bas_carry.specs.Slots.{in_item}
use Rattle.bas_genexpr.proofs.NumberLemmas.{numbers_none}
use Rattle.bas_gen.proofs.names.number_pitem.Goals as goal

pub returns-in-Expr : goal.returns-in-Expr
returns-in-Expr c = rw (c.in-Expr.is, pitem_expr) c.number_expression.ensures

pub returns-in-Tab : goal.returns-in-Tab
returns-in-Tab c = numbers_none c.args.slots.now _ (ap (λ x. in_item (Some x)) (sym (ap pitem_tree c.in-Tab.is ∙ pitem_tab _)))
