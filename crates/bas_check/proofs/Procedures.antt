-- A walk that enters an internal procedure, and one that begins at the top of a container.
use Rattle.std.proofs.Common.{◌≡◌, ℕ, List, [], ◌∷◌, ◌++◌, append-nil, refl}
use Rattle.bas_ast.specs.Tree as t
use Rattle.bas_scope.specs.Lines.{gathered}
use Rattle.bas_scope.specs.Scope.{Inner, definition_on, inner_names}
use Rattle.bas_scope.specs.Bodies.{Body}
use Rattle.bas_scope.specs.declared.body.BodyKind.TheVariants.{External, Internal}
use Rattle.bas_names.specs.Tables.{Has, HasOuter, options_told}
use Rattle.bas_names.specs.declared.entry.Table.{Table}
use Rattle.bas_reach.specs.Standing.{Tells}
use Rattle.bas_rules.specs.Jumping.{end_line}
use Rattle.bas_rules.specs.Sites.{Ground, at_top, counted_lines}
use Rattle.bas_place.specs.Standing.{OfBody}
use Rattle.bas_place.specs.declared.place.BodyFacts.{BodyFacts}
use Rattle.bas_check.specs.declared.walk.Walk.{Walk}
use Rattle.bas_check.specs.Walks.{WalksOn}

pub no_end_inside : (unit : t.SourceUnit) → end_line unit Internal ≡ []
no_end_inside (t.ProgramUnit p) = refl
no_end_inside (t.ProcedureUnit p) = refl
no_end_inside (t.ModuleUnit m) = refl

pub no_end_outside : (unit : t.SourceUnit) → end_line unit External ≡ []
no_end_outside (t.ProgramUnit p) = refl
no_end_outside (t.ProcedureUnit p) = refl
no_end_outside (t.ModuleUnit m) = refl

-- what all bodies of the unit see
pub seen_by : (walk : Walk) (g : Ground) → WalksOn walk g → HasOuter walk.place.unit.now.names g.outer
seen_by walk g h = rw (h.outer) (h.place.unit.names)

-- the names of a table are those of an internal procedure
pub has_inner : (walk : Walk) (g : Ground) (table : Table) (inner : Inner) → WalksOn walk g
    → Has table (inner_names (options_told walk.place.unit.now.names.options) inner []) → Has table (inner_names g.outer.options inner [])
has_inner walk g table inner h p = rw ((seen_by walk g h).options) at p

-- the same where a definition is all that there is
pub has_defined : (walk : Walk) (g : Ground) (table : Table) (head : t.NumLine) (inner : Inner) → WalksOn walk g → definition_on head head.item ≡ inner ∷ []
    → Has table (gathered (λ x. inner_names (options_told walk.place.unit.now.names.options) x []) (definition_on head head.item))
    → Has table (inner_names g.outer.options inner [])
has_defined walk g table head inner h e p =
    has_inner walk g table inner h (rw (e, append-nil (inner_names (options_told walk.place.unit.now.names.options) inner [])) at p)

-- what is around the top of an internal procedure
pub top_inside : (facts : BodyFacts) (unit : t.SourceUnit) (body : Body) → body.kind ≡ Internal → OfBody facts unit body → Tells facts.top (at_top (counted_lines body.block))
top_inside facts unit body k p = rw (k, no_end_inside unit, append-nil (counted_lines body.block)) at p.top

-- what is around the top of a container
pub top_ends : (facts : BodyFacts) (unit : t.SourceUnit) (body : Body) (end : List ℕ) → end_line unit body.kind ≡ end → OfBody facts unit body → Tells facts.top (at_top (counted_lines body.block ++ end))
top_ends facts unit body end e p = rw e at p.top
