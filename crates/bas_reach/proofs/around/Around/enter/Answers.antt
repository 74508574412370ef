-- A line that begins no construct is only one more block.
use Rattle.bas_ast.specs.Tree.{Nothing}
use Rattle.bas_ast.specs.BlockTree.{item_tree, block_tree}
use Rattle.bas_reach.proofs.Constructs.{enters_as, no_construct}
use Rattle.bas_reach.proofs.around.Around.enter.Goals as goal

pub returns-in_default : goal.returns-in_default
returns-in_default c =
    let block = block_tree c.args.block.now in
    enters_as c.enter_section.result c.args.self.now (item_tree c.args.head.now) Nothing block c.args.close 0
    (λ a. no_construct c.args.head.now block c.args.close a c.in_default.not-Part) c.enter_section.ensures
