-- The first line, where there is one, and then the others.
use Rattle.std.proofs.Common.{◌++◌, sym, ◌∙◌}
use Rattle.std.specs.Option.{option_map}
use Rattle.bas_ast.specs.BlockTree.{block_tree, line_tree}
use Rattle.bas_names.proofs.Putting.{if_ok}
use Rattle.bas_rules.specs.Sites.{block_sites, head_sites, line_sites}
use Rattle.bas_check.specs.Containers.{lent_line}
use Rattle.bas_check.proofs.Finding.{found_first, found_next}
use Rattle.bas_check.proofs.container.lines_fault.Goals as goal

pub returns-then-is_some : goal.returns-then-is_some
returns-then-is_some c = λ g h.
    found_first c.in_ok-found.found (head_sites g (option_map lent_line c.args.head)) (block_sites g (block_tree c.args.block.now) ++ line_sites g (line_tree c.args.close.now))
    (sym c.is_some.ensures ∙ c.if-is_some.true) (c.in_ok-found.ensures g h)

pub returns : goal.returns
returns c = λ g h.
    if_ok c.block_and_close_fault.result
    (λ next p. found_next c.in_ok-found.found next (head_sites g (option_map lent_line c.args.head)) (block_sites g (block_tree c.args.block.now) ++ line_sites g (line_tree c.args.close.now))
    (sym c.is_some.ensures ∙ c.if-is_some.false) (c.in_ok-found.ensures g h) p)
    (c.block_and_close_fault.ensures g h)
