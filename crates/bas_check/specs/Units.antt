-- The lines of a program or an external procedure.
use Rattle.std.specs.Prelude.{List, ◌++◌}
use Rattle.std.specs.Option.{option_map}
use Rattle.bas_ast.specs.Tree as t
use Rattle.bas_ast.specs.BlockTree.{block_tree}
use Rattle.bas_rules.specs.Sites.{Site, block_sites, head_sites, line_sites}
use Rattle.bas_check.specs.Containers.{ground_in, lent_line}
use Rattle.bas_check.specs.declared.container.Container.{Container}

-- the lines of a container in a unit, with the line that closes it
abbrev pub lines_in : Container → t.SourceUnit → (close : t.NumLine) → List (List Site)
lines_in container unit close =
    let g = ground_in container unit in
    head_sites g (option_map lent_line container.head) ++ (block_sites g (block_tree container.block.now) ++ line_sites g close)
