-- What is kept of a program, an external procedure or an initial part.
use Rattle.std.specs.Prelude.{◌≡◌, ℕ, List}
use Rattle.std.specs.Option.{option_map, option_to_list}
use Rattle.std.specs.Borrow.{Bor}
use Rattle.bas_ast.specs.Tree as t
use Rattle.bas_ast.specs.BlockTree.{block_tree, line_tree}
use Rattle.bas_ast.specs.declared.block.NumLine.{NumLine}
use Rattle.bas_scope.specs.Lines.{own_lines}
use Rattle.bas_scope.specs.Bodies.{outer_of}
use Rattle.bas_names.specs.Tables.{HasBefore}
use Rattle.bas_claim.specs.First.{AreFirst, stands_before}
use Rattle.bas_reach.specs.Standing.{Tells}
use Rattle.bas_place.specs.Standing.{OfBody}
use Rattle.bas_place.specs.declared.place.UnitFacts.{UnitFacts}
use Rattle.bas_rules.specs.Jumping.{end_line}
use Rattle.bas_rules.specs.Naming.{is_among, names_claimed, used_before}
use Rattle.bas_rules.specs.Sites.{Ground, ground_of}
use Rattle.bas_check.specs.declared.container.Container.{Container}
use Rattle.bas_check.specs.declared.container.Family.{Family}

-- the plain tree of a line that is lent
abbrev pub lent_line : Bor NumLine → t.NumLine
lent_line line = line_tree line.now

-- its line of END is that of the unit, where it is a program
abbrev pub EndsIn : Container → t.SourceUnit → Type 0
EndsIn container unit = end_line unit container.kind ≡ option_to_list container.end

-- the top of a container in a unit
abbrev pub ground_in : Container → t.SourceUnit → Ground
ground_in container unit =
    ground_of unit (outer_of unit) container.kind (option_map lent_line container.head) (block_tree container.block.now) (option_to_list container.end)

-- what is kept is so of the body on a ground, and of the family of which this is the container
pub record KeepsFamily (family : Family) (unit : UnitFacts) (g : Ground) : Type 0 where
  pub outer : g.outer ≡ outer_of g.unit
  pub seen : g.body.scope.outer ≡ outer_of g.unit
  pub body : OfBody family.body g.unit g.body
  pub claims : AreFirst family.body.claims names_claimed (own_lines g.family.container.block)
  pub uses : (name : List ℕ) (l : ℕ) → stands_before family.uses name l ≡ is_among name (used_before g.family l)
  pub names : HasBefore family.names unit.names.variables g.family.container.scope.names
  pub own : HasBefore family.names unit.names.variables g.body.scope.names
  pub top : Tells family.body.top g.around
