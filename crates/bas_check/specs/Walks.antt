-- A walk over the lines of a unit, and the lines that are left of it.
use Rattle.std.specs.Prelude.{◌≡◌, ℕ, zero, suc, if◌then◌else◌, List, [], ◌∷◌, Option, Some, None}
use Rattle.bas_ast.specs.Tree as t
use Rattle.bas_ast.specs.ExpressionTree.{expr_tree}
use Rattle.bas_ast.specs.BlockTree.{item_tree}
use Rattle.bas_scope.specs.Lines.{opens_procedure}
use Rattle.bas_scope.specs.Scope.{Inner, definition_block}
use Rattle.bas_scope.specs.Bodies.{outer_of}
use Rattle.bas_names.specs.Tables.{HasBefore}
use Rattle.bas_place.specs.Standing.{StandsOn}
use Rattle.bas_rules.specs.Sites.{Ground, Site, block_sites, first_sites, inside, internal_ground, later_sites, site_at}
use Rattle.bas_check.specs.declared.definition.Definition.{Definition}
use Rattle.bas_check.specs.declared.walk.Walk.{Walk}

-- a walk goes over lines on this ground
pub record WalksOn (walk : Walk) (g : Ground) : Type 0 where
  pub place : StandsOn walk.place g
  pub outer : g.outer ≡ outer_of g.unit
  pub container : HasBefore walk.container.now walk.place.unit.now.names.variables g.family.container.scope.names
  pub nothing : item_tree walk.nothing.now ≡ t.Nothing

-- a definition, as an internal procedure
abbrev pub definition_of : t.NumLine → (name : List ℕ) → (value : t.Expr) → Inner
definition_of head name value = (head, definition_block head.line name value)

-- the definition that is told
abbrev pub definition_told : t.NumLine → Option Definition → List Inner
definition_told head None = []
definition_told head (Some d) = definition_of head d.name (expr_tree d.value.now) ∷ []

-- the lines of a block that a line of a construct begins
abbrev pub inside_sites : Ground → (close : ℕ) → t.NumLine × t.Block → List (List Site)
inside_sites g close s = block_sites (record g { around = inside s.0.item s.1 close g.around }) s.1

-- the lines of an internal procedure
abbrev pub procedure_body_sites : Ground → t.NumLine × t.Block → List (List Site)
procedure_body_sites g s = block_sites (internal_ground g s) s.1

-- the ground of what a line opens: an internal procedure, or a block
abbrev pub opened_ground : Ground → (close : ℕ) → t.NumLine × t.Block → Ground
opened_ground g close s = if opens_procedure s.0.item then internal_ground g s else record g { around = inside s.0.item s.1 close g.around }

-- the first section of a construct: the line that opens it, and what it opens
abbrev pub opening_sites : Ground → (close : ℕ) → t.NumLine × t.Block → List (List Site)
opening_sites g close s = (site_at g t.Nothing s.0 ∷ []) ∷ block_sites (opened_ground g close s) s.1

-- another section of a construct
abbrev pub dividing_sites : Ground → (opener : t.LineItem) → (close : ℕ) → t.NumLine × t.Block → List (List Site)
dividing_sites g opener close s = (site_at g opener s.0 ∷ []) ∷ inside_sites g close s

-- the section i of a construct
abbrev pub section_sites : Ground → (opener : t.LineItem) → (i close : ℕ) → t.NumLine × t.Block → List (List Site)
section_sites g opener zero close s = opening_sites g close s
section_sites g opener (suc i) close s = dividing_sites g opener close s

-- what stands on the line that opens a construct
abbrev pub opener_in : t.Sections → t.LineItem
opener_in t.NoSections = t.Nothing
opener_in (t.MoreSections head body rest) = head.item

-- what is left of a construct from its section i on
abbrev pub sites_from : Ground → (opener : t.LineItem) → (i : ℕ) → t.Sections → (close : t.NumLine) → List (List Site)
sites_from g opener zero sections close = first_sites g sections close
sites_from g opener (suc i) sections close = later_sites g opener sections close
