-- What is kept of a unit, a body and a place, and what it tells.
use Rattle.std.specs.Prelude.{◌≡◌, ℕ, ◌++◌, nat_eq, List}
use Rattle.std.specs.List.{list_any}
use Rattle.std.specs.Ordering.{nat_cmp}
use Rattle.std.specs.BTreeSet.{contains}
use Rattle.bas_ast.specs.Tree as t
use Rattle.bas_ast.specs.BlockTree.{item_tree}
use Rattle.bas_scope.specs.Lines.{own_lines, unit_lines}
use Rattle.bas_scope.specs.Senses.{senses_of}
use Rattle.bas_scope.specs.Bodies.{Body, Family, head_item, outer_of, data_lines}
use Rattle.bas_rules.specs.Sites.{Ground, at_top, counted_lines}
use Rattle.bas_rules.specs.Jumping.{end_line}
use Rattle.bas_rules.specs.Naming.{is_among, names_claimed, handler_name, used_before}
use Rattle.bas_names.specs.Lent.{line_trees}
use Rattle.bas_names.specs.Names.{senses_in}
use Rattle.bas_names.specs.Tables.{HasOuter}
use Rattle.bas_claim.specs.First.{stands_before, AreFirst}
use Rattle.bas_claim.specs.Headings.{Describes}
use Rattle.bas_claim.specs.declared.first.FirstLines.{FirstLines}
use Rattle.bas_reach.specs.Standing.{Tells}
use Rattle.bas_place.specs.declared.place.UnitFacts.{UnitFacts}
use Rattle.bas_place.specs.declared.place.BodyFacts.{BodyFacts}
use Rattle.bas_place.specs.declared.place.Place.{Place}

-- what is kept of a unit is so of that unit
pub record OfUnit (facts : UnitFacts) (unit : t.SourceUnit) : Type 0 where
  pub lines : line_trees facts.lines.items ≡ unit_lines unit
  pub numbers : (l : ℕ) → contains nat_cmp facts.data_numbers l ≡ list_any (λ d. nat_eq l d.0) (data_lines unit)
  pub names : HasOuter facts.names (outer_of unit)

-- what is kept of a body is so of that body of a unit
pub record OfBody (facts : BodyFacts) (unit : t.SourceUnit) (body : Body) : Type 0 where
  pub kind : body.kind ≡ facts.kind
  pub head : head_item body.head ≡ item_tree facts.head.now
  pub heading : Describes facts.heading (head_item body.head)
  pub claims : AreFirst facts.claims names_claimed (own_lines body.block)
  pub handlers : AreFirst facts.handlers handler_name (own_lines body.block)
  pub top : Tells facts.top (at_top (counted_lines body.block ++ end_line unit body.kind))

-- the first lines are those of a family: of what its container declares, and of the names of SUBs that its
-- bodies use as variables
pub record OfFamily (claims uses : FirstLines) (family : Family) : Type 0 where
  pub claimed : AreFirst claims names_claimed (own_lines family.container.block)
  pub used : (name : List ℕ) (l : ℕ) → stands_before uses name l ≡ is_among name (used_before family l)

-- a place stands on a ground
pub record StandsOn (place : Place) (g : Ground) : Type 0 where
  pub unit : OfUnit place.unit.now g.unit
  pub outer : g.body.scope.outer ≡ outer_of g.unit
  pub family : OfFamily place.container.now place.uses.now g.family
  pub body : OfBody place.body.now g.unit g.body
  pub names : senses_in place.names ≡ senses_of g.body.scope
  pub around : Tells place.around.now g.around
