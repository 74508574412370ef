-- The names that the nodes of a text use without arguments.
use Rattle.std.specs.Prelude.{ℕ, List}
use Rattle.std.specs.List.{filter_map}
use Rattle.bas_scope.specs.Bodies.{bare_name}
use Rattle.bas_scope.specs.Nodes.{Node}

-- the names that nodes use without arguments, in order
unfoldable pub bare_names : List Node → List (List ℕ)
bare_names nodes = filter_map bare_name nodes
