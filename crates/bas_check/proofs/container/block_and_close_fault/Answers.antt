-- The block, and then the line that closes it.
use Rattle.std.proofs.Common.{sym, ◌∙◌}
use Rattle.bas_ast.specs.BlockTree.{block_tree, line_tree}
use Rattle.bas_names.proofs.Putting.{if_ok}
use Rattle.bas_rules.specs.Sites.{block_sites, line_sites}
use Rattle.bas_check.proofs.Finding.{found_first, found_next}
use Rattle.bas_check.proofs.container.block_and_close_fault.Goals as goal

pub returns-then-is_some : goal.returns-then-is_some
returns-then-is_some c = λ g h.
    found_first c.in_ok-found.found (block_sites g (block_tree c.args.block.now)) (line_sites g (line_tree c.args.close.now)) (sym c.is_some.ensures ∙ c.if-is_some.true) (c.in_ok-found.ensures g h)

pub returns : goal.returns
returns c = λ g h.
    if_ok c.lone_line_fault.result
    (λ next p. found_next c.in_ok-found.found next (block_sites g (block_tree c.args.block.now)) (line_sites g (line_tree c.args.close.now)) (sym c.is_some.ensures ∙ c.if-is_some.false) (c.in_ok-found.ensures g h) p)
    (c.lone_line_fault.ensures g h)
