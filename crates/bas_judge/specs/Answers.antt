-- Answers about a line in its place.
use Rattle.std.specs.Prelude.{◌≡◌, Bool}
use Rattle.bas_ast.specs.Tree as t
use Rattle.bas_ast.specs.BlockTree.{line_tree}
use Rattle.bas_ast.specs.declared.block.NumLine.{NumLine}
use Rattle.bas_rules.specs.Sites.{Ground, Site, site_at}
use Rattle.bas_place.specs.Standing.{StandsOn}
use Rattle.bas_place.specs.declared.place.Place.{Place}

-- an answer is that of a test on a line of a construct, on each ground on which its place stands
abbrev pub IsOf : Place → (opener : t.LineItem) → NumLine → (Site → Bool) → Bool → Type 0
IsOf place opener line test answer = (g : Ground) → StandsOn place g → answer ≡ test (site_at g opener (line_tree line))
