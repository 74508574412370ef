-- The bodies of a unit, each with what its names stand for; the variables of an invocation; handlers and DATA.
use Rattle.std.specs.Prelude.{ℕ, Bool, true, false, not, ◌&&◌, List, [], ◌∷◌, ◌++◌, map, Option, Some, None}
use Rattle.std.specs.Option.{option_map_or, is_some}
use Rattle.std.specs.List.{filter, filter_map}
use Rattle.std.specs.Str.{bytes_eq}
use Rattle.bas_ast.specs.Tree as t
use Rattle.bas_face.specs.declared.face.CallKind.{CallKind}
use Rattle.bas_face.specs.declared.face.CallKind.TheVariants as call
use Rattle.bas_face.specs.declared.shape.Shape.{Shape}
use Rattle.bas_scope.specs.declared.body.BodyKind.{BodyKind}
use Rattle.bas_scope.specs.declared.body.BodyKind.TheVariants.{Main, External, Internal, Initial}
use Rattle.bas_scope.specs.Lines.{gathered, own_lines, unit_lines}
use Rattle.bas_scope.specs.Nodes.{Node, OfPrimary, OfTarget, OfWhole, item_nodes}
use Rattle.bas_scope.specs.Shapes.{Options, options_of, shape_of, undeclared}
use Rattle.bas_scope.specs.Scope.{Here, Container, InModule, OtherUnit, Meaning, Variable, Table, entry_of, Outer, Scope, declared_as, variables, declared_on, formal_entries, formal_shapes, procedure_on, procedure_entry, Inner, internals_of, outer_names, inner_names}

-- the variables that a line of a module's initial part declares for the module
abbrev pub public_on : Options → t.LineItem → Table
public_on options (t.OfDecl (t.Public kind items)) = variables options InModule items
public_on options _ = []

-- the same for SHARE
abbrev pub shared_on : Options → t.LineItem → Table
shared_on options (t.OfDecl (t.Share kind items)) = variables options InModule items
shared_on options _ = []

-- what is declared on the lines of a block
abbrev pub on_lines : (t.LineItem → Table) → t.Block → Table
on_lines given block = gathered (λ line. given line.item) (own_lines block)

-- what all bodies of a unit see; the public variables of a module come before its shared ones
abbrev pub outer_in : Options → t.SourceUnit → Outer
outer_in options (t.ModuleUnit m) = record {
  options = options;
  variables = on_lines (public_on options) m.initial ++ on_lines (shared_on options) m.initial;
  procedures = gathered (λ p. procedure_entry options InModule p.head.item p.body) m.procs;
}
outer_in options _ = record { options = options; variables = []; procedures = [] }

-- what all bodies of a unit see, with the options that it sets
abbrev pub outer_of : t.SourceUnit → Outer
outer_of unit = outer_in (options_of (unit_lines unit)) unit

-- a body: its first line, where it has one, its block, and what it sees
pub record Body : Type 0 where
  pub kind : BodyKind
  pub head : Option t.NumLine
  pub block : t.Block
  pub scope : Scope

-- a program, an external procedure or an initial part, with the internal procedures that it contains
pub record Family : Type 0 where
  pub container : Body
  pub internals : List Body

-- what the first line of a body says, where it has one
abbrev pub head_item : Option t.NumLine → t.LineItem
head_item head = option_map_or (λ line. line.item) head t.Nothing

-- an internal procedure in its container
abbrev pub internal_body : Outer → (container : Table) → Inner → Body
internal_body outer container inner = record {
  kind = Internal;
  head = Some inner.0;
  block = inner.1;
  scope = record { outer = outer; names = inner_names outer.options inner container; home = Container };
}

-- a container with its internal procedures
abbrev pub family_of : Outer → BodyKind → Option t.NumLine → t.Block → Family
family_of outer kind head block =
    let names = outer_names outer (head_item head) block in
    record {
      container = record { kind = kind; head = head; block = block; scope = record { outer = outer; names = names; home = Here } };
      internals = map (internal_body outer names) (internals_of block);
    }

-- the containers of a unit in order
abbrev pub families_in : Outer → t.SourceUnit → List Family
families_in outer (t.ProgramUnit p) = family_of outer Main p.head p.body ∷ []
families_in outer (t.ProcedureUnit p) = family_of outer External (Some p.head) p.body ∷ []
families_in outer (t.ModuleUnit m) =
    family_of outer Initial None m.initial ∷ map (λ p. family_of outer External (Some p.head) p.body) m.procs

-- the bodies of a unit, each container with its internal procedures, in the order of their first lines
abbrev pub families_of : t.SourceUnit → List Family
families_of unit = families_in (outer_of unit) unit

-- the bodies of a unit in order
abbrev pub bodies_of : t.SourceUnit → List Body
bodies_of unit = gathered (λ f. f.container ∷ f.internals) (families_of unit)

-- the shapes of a body's formals, and of the value that a function has
abbrev pub formals_of : Body → List Shape
formals_of body = formal_shapes body.scope.outer.options (head_item body.head) body.block

-- a function has a value of its name's kind
abbrev pub value_shape : Options → Option (List ℕ × CallKind) → Option Shape
value_shape options (Some (name, call.Function)) = Some (shape_of options name None 0)
value_shape options _ = None

-- the shape of the value of the function that a body is of
abbrev pub value_of : Body → Option Shape
value_of body = value_shape body.scope.outer.options (procedure_on (head_item body.head))

-- the names that a line uses without arguments
abbrev pub bare_name : Node → Option (List ℕ)
bare_name (OfPrimary (t.Named name t.NoArgs)) = Some name
bare_name (OfWhole (t.Named name t.NoArgs)) = Some name
bare_name (OfTarget (t.Variable name t.NoExprs)) = Some name
bare_name _ = None

-- the variable of a FOR line
abbrev pub counted_by : t.LineItem → List (List ℕ)
counted_by (t.OfPart (t.For name start limit step)) = name ∷ []
counted_by _ = []

-- the names that a line uses as variables, or as functions without arguments
abbrev pub names_on : t.LineItem → List (List ℕ)
names_on item = counted_by item ++ filter_map bare_name (item_nodes item)

-- each name once, where it is seen first
abbrev pub first_seen : List (List ℕ) → List (List ℕ)
first_seen [] = []
first_seen (name ∷ names) = name ∷ filter (λ other. not (bytes_eq name other)) (first_seen names)

-- the variables that a body uses and nothing declares
abbrev pub undeclared_in : Body → List (List ℕ)
undeclared_in body =
    filter (λ name. not (is_some (declared_as body.scope name))) (gathered (λ line. names_on line.item) (own_lines body.block))

-- what a body declares as variables of its own, its formals left out
abbrev pub is_own : Meaning → Bool
is_own (Variable Here cell) = true
is_own _ = false

-- the variables that a body declares, its formals left out
abbrev pub declared_in : Body → Table
declared_in body =
    let formals = formal_entries body.scope.outer.options (head_item body.head) body.block in
    filter (λ x. is_own x.1 && not (is_some (entry_of x.0 formals))) (on_lines (declared_on body.scope.outer) body.block)

-- the variables with which an invocation begins, besides formals and the value of a function: those
-- declared, and then those that the body and its internal procedures use undeclared
abbrev pub variables_of : Family → Table
variables_of f =
    declared_in f.container
    ++ map (λ name. (name, Variable Here (undeclared f.container.scope.outer.options name)))
    (first_seen (undeclared_in f.container ++ gathered undeclared_in f.internals))

-- the handlers of a body
abbrev pub handler_on : t.LineItem → Option (List ℕ)
handler_on (t.OfPart (t.Handler name)) = Some name
handler_on _ = None

-- the handlers of a body in order
abbrev pub handlers_of : Body → List (List ℕ)
handlers_of body = filter_map (λ line. handler_on line.item) (own_lines body.block)

-- the DATA lines of a unit, and all that they hold in order
abbrev pub data_on : t.LineItem → Option (List t.Datum)
data_on (t.OfDecl (t.Data datums)) = Some datums
data_on _ = None

-- the DATA lines of a unit, with what each holds
abbrev pub data_lines : t.SourceUnit → List (ℕ × List t.Datum)
data_lines unit = filter_map (λ line. option_map_or (λ datums. Some (line.line, datums)) (data_on line.item) None) (unit_lines unit)

-- what the DATA lines of a unit hold, in order
abbrev pub datums_of : t.SourceUnit → List t.Datum
datums_of unit = gathered (λ x. x.1) (data_lines unit)

-- what a unit uses of the public variables of others
abbrev pub used_on : Options → t.LineItem → Table
used_on options (t.OfDecl (t.DeclarePublic kind items)) = variables options OtherUnit items
used_on options _ = []

-- the public variables of other units that a unit uses
abbrev pub uses_of : t.SourceUnit → Table
uses_of unit = gathered (λ line. used_on (options_of (unit_lines unit)) line.item) (unit_lines unit)
