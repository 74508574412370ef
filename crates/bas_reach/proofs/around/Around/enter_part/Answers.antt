-- Each construct, and then all that are only one more block.
use Rattle.std.proofs.Common.{None}
use Rattle.std.specs.Option.{option_map}
use Rattle.bas_ast.specs.Tree.{Nothing, OfPart, Do, Use}
use Rattle.bas_ast.specs.BlockTree.{block_tree}
use Rattle.bas_ast.specs.ExpressionTree.{expr_tree}
use Rattle.bas_ast.specs.PartTree.{part_tree}
use Rattle.bas_reach.proofs.Constructs.{if_ok, enters_as, do_inside, for_inside, use_inside, handler_inside, other_inside}
use Rattle.bas_reach.proofs.around.Around.enter_part.Goals as goal

pub returns-in-Do : goal.returns-in-Do
returns-in-Do c =
    let block = block_tree c.args.block.now in
    enters_as c.enter_do.result c.args.self.now (OfPart (part_tree c.args.part.now)) (OfPart (Do None)) block c.args.close c.args.close
    (λ a. do_inside c.args.part.now c.in-Do.field-0 block c.args.close a c.in-Do.is) c.enter_do.ensures

pub returns-in-For : goal.returns-in-For
returns-in-For c =
    if_ok c.enter_for.result
    (λ inner enters a tells.
    rw (for_inside c.args.part.now c.in-For.name c.in-For.start c.in-For.limit c.in-For.step (block_tree c.args.block.now) c.args.close a c.in-For.is)
    (enters (expr_tree c.in-For.start) (expr_tree c.in-For.limit) (option_map expr_tree c.in-For.step) a tells))
    c.enter_for.ensures

pub returns-in-Use : goal.returns-in-Use
returns-in-Use c =
    let block = block_tree c.args.block.now in
    enters_as c.enter_use.result c.args.self.now (OfPart (part_tree c.args.part.now)) (OfPart Use) block c.args.close 0
    (λ a. use_inside c.args.part.now block c.args.close a c.in-Use.is) c.enter_use.ensures

pub returns-in-Handler : goal.returns-in-Handler
returns-in-Handler c =
    if_ok c.enter_handler.result
    (λ inner enters a tells. rw (handler_inside c.args.part.now c.in-Handler.name (block_tree c.args.block.now) c.args.close a c.in-Handler.is) (enters a))
    c.enter_handler.ensures

pub returns-in_default : goal.returns-in_default
returns-in_default c =
    let block = block_tree c.args.block.now in
    enters_as c.enter_section.result c.args.self.now (OfPart (part_tree c.args.part.now)) Nothing block c.args.close 0
    (λ a. other_inside c.args.part.now block c.args.close a c.in_default.not-Do c.in_default.not-For c.in_default.not-Use c.in_default.not-Handler) c.enter_section.ensures
