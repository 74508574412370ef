-- The DATA lines among lines.
use Rattle.std.specs.Prelude.{◌≡◌, ℕ, nat_eq, List, Some, None}
use Rattle.std.specs.Option.{option_map_or}
use Rattle.std.specs.List.{filter_map, list_any}
use Rattle.std.specs.Ordering.{nat_cmp}
use Rattle.std.specs.BTreeSet.{BTreeSet, contains}
use Rattle.bas_ast.specs.Tree as t
use Rattle.bas_scope.specs.Bodies.{data_on}

-- the DATA lines among lines, with what each holds
abbrev pub data_among : List t.NumLine → List (ℕ × List t.Datum)
data_among lines = filter_map (λ line. option_map_or (λ datums. Some (line.line, datums)) (data_on line.item) None) lines

-- a set has the numbers of the DATA lines among lines, and no others
pub record HasData (set : BTreeSet ℕ) (lines : List t.NumLine) : Type 0 where
  pub has : (l : ℕ) → contains nat_cmp set l ≡ list_any (λ d. nat_eq l d.0) (data_among lines)
