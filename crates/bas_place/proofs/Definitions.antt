-- The body of a definition: one line, which declares nothing.
use Rattle.std.proofs.Common.{◌≡◌, ℕ, nat_lt, Bool, true, false, cond, List, [], ◌∷◌, None, refl, sym}
use Rattle.bas_ast.specs.Tree as t
use Rattle.bas_ast.specs.BlockTree.{item_tree}
use Rattle.bas_scope.specs.Lines.{gathered}
use Rattle.bas_scope.specs.Scope.{Outer, Table, definition_block}
use Rattle.bas_scope.specs.Bodies.{internal_body}
use Rattle.bas_scope.specs.declared.body.BodyKind.TheVariants.{Internal}
use Rattle.bas_rules.specs.Jumping.{end_line}
use Rattle.bas_rules.specs.Sites as rule
use Rattle.bas_rules.specs.Naming.{is_among}
use Rattle.bas_reach.specs.Standing.{Tells}
use Rattle.bas_claim.specs.First.{line_of, AreFirst}
use Rattle.bas_claim.specs.Headings.{Describes}
use Rattle.bas_claim.specs.declared.first.FirstLines.{FirstLines}
use Rattle.bas_place.specs.Standing.{OfBody}
use Rattle.bas_place.specs.declared.place.BodyFacts.{BodyFacts}

-- a line alone that gives no names
nothing_given : (given : t.LineItem → List (List ℕ)) (first : FirstLines) (x : t.NumLine) → ((name : List ℕ) → line_of first name ≡ None) → given x.item ≡ [] → AreFirst first given (x ∷ [])
nothing_given given first x none g = record {
  stands = λ name. rw (none name, g) refl;
  before = λ name l. rw (none name) (by name (nat_lt x.line l));
}
  where
    by : (name : List ℕ) (b : Bool) → false ≡ is_among name (gathered (λ (line : t.NumLine). given line.item) (cond b (x ∷ []) []))
    by name true = rw g refl
    by name false = refl

internal_end : (unit : t.SourceUnit) → end_line unit Internal ≡ []
internal_end (t.ProgramUnit p) = refl
internal_end (t.ProcedureUnit p) = refl
internal_end (t.ModuleUnit m) = refl

-- such a body is that of the definition on a line
pub is_definition : (facts : BodyFacts) (unit : t.SourceUnit) (outer : Outer) (container : Table) (line : t.NumLine) (name : List ℕ) (value : t.Expr)
    → facts.kind ≡ Internal → item_tree facts.head.now ≡ line.item → Describes facts.heading line.item
    → ((name : List ℕ) → line_of facts.claims name ≡ None) → ((name : List ℕ) → line_of facts.handlers name ≡ None)
    → Tells facts.top (rule.at_top (line.line ∷ []))
    → OfBody facts unit (internal_body outer container (line, definition_block line.line name value))
is_definition facts unit outer container line name value kind head heading claims handlers top = record {
  kind = sym kind;
  head = sym head;
  heading = heading;
  claims = nothing_given _ facts.claims _ claims refl;
  handlers = nothing_given _ facts.handlers _ handlers refl;
  top = rw (internal_end unit) top;
}
