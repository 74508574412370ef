-- What each name of a body stands for, and where it belongs.
use Rattle.std.specs.Prelude.{ℕ, if◌then◌else◌, List, [], ◌∷◌, ◌++◌, map, Option, Some, None}
use Rattle.std.specs.Option.{option_map, option_or, option_to_list, unwrap_or}
use Rattle.std.specs.List.{find}
use Rattle.std.specs.Map.{lookup}
use Rattle.std.specs.Str.{bytes_eq}
use Rattle.bas_ast.specs.Tree as t
use Rattle.bas_face.specs.declared.face.CallKind.{CallKind}
use Rattle.bas_face.specs.declared.face.CallKind.TheVariants as call
use Rattle.bas_face.specs.declared.shape.Shape.{Shape}
use Rattle.bas_face.specs.declared.shape.Shape.TheVariants as shape
use Rattle.bas_face.specs.declared.shape.Cell.{Cell}
use Rattle.bas_scope.specs.Lines.{gathered, own_lines, opens_procedure}
use Rattle.bas_scope.specs.Shapes.{Options, shape_of, unbounded, undeclared, declared_cell, first_given}
use Rattle.bas_scope.specs.Supplied.{Forms, forms_of}

-- where a name belongs: to this body, to the body that contains it, to the module, or to another unit
pub data Home : Type 0 where
  Here : Home
  Container : Home
  InModule : Home
  OtherUnit : Home

-- what a name stands for. A variable has its cell. A procedure has the shapes of its formals, which are
-- known of this unit's own alone; the value of a function may be set inside of it, and belongs to that body
pub data Meaning : Type 0 where
  Variable : (home : Home) (cell : Cell) → Meaning
  SubOf : (home : Home) (formals : Option (List Shape)) → Meaning
  FunctionOf : (home : Home) (formals : Option (List Shape)) (value : Option Home) → Meaning
  Supplied : (forms : Forms) → Meaning

-- names with what they stand for; the first entry of a name counts
abbrev pub Table : Type 0
Table = List (List ℕ × Meaning)

-- what a table has of a name
abbrev pub entry_of : List ℕ → Table → Option Meaning
entry_of name table = lookup (bytes_eq name) table

-- what all bodies of a unit see: its options, and the variables and procedures of a module
pub record Outer : Type 0 where
  pub options : Options
  pub variables : Table
  pub procedures : Table

-- what a body sees: what is declared, from the inside out, and where all other variables belong
pub record Scope : Type 0 where
  pub outer : Outer
  pub names : Table
  pub home : Home

-- a function of the module, where it is one
abbrev pub only_function : Option Meaning → Option Meaning
only_function (Some (FunctionOf home formals value)) = Some (FunctionOf home formals value)
only_function _ = None

-- what a name stands for by a declaration
abbrev pub declared_as : Scope → List ℕ → Option Meaning
declared_as s name =
    option_or (option_map Supplied (forms_of name))
    (option_or (entry_of name s.names) (only_function (entry_of name s.outer.procedures)))

-- what a name stands for in an expression or as a target
abbrev pub stands_for : Scope → List ℕ → Meaning
stands_for s name = unwrap_or (declared_as s name) (Variable s.home (undeclared s.outer.options name))

-- a procedure of another unit
abbrev pub elsewhere : CallKind → Meaning
elsewhere call.Sub = SubOf OtherUnit None
elsewhere call.Function = FunctionOf OtherUnit None None

-- an external procedure: the module's own where it has one of that name, else that of another unit
abbrev pub external : Outer → CallKind → List ℕ → Meaning
external outer kind name = unwrap_or (entry_of name outer.procedures) (elsewhere kind)

-- what a table has, where that is a procedure
abbrev pub procedure_or : Option Meaning → Meaning → Meaning
procedure_or (Some (SubOf home formals)) other = SubOf home formals
procedure_or (Some (FunctionOf home formals value)) other = FunctionOf home formals value
procedure_or _ other = other

-- what CALL of a name calls; a variable of that name does not hide an external SUB
abbrev pub called_by : Scope → List ℕ → Meaning
called_by s name = procedure_or (entry_of name s.names) (external s.outer call.Sub name)

-- the formals on the first line of a body
abbrev pub formals_on : t.LineItem → List t.Formal
formals_on (t.OfPart (t.Sub name formals)) = formals
formals_on (t.OfPart (t.Function name formals)) = formals
formals_on (t.OfPart (t.ExternalSub name formals)) = formals
formals_on (t.OfPart (t.ExternalFunction name formals)) = formals
formals_on (t.OfPart (t.Def name formals value)) = formals
formals_on (t.OfPart (t.ProgramLine name formals)) = formals
formals_on _ = []

-- the name and the kind of the procedure that a line begins
abbrev pub procedure_on : t.LineItem → Option (List ℕ × CallKind)
procedure_on (t.OfPart (t.Sub name formals)) = Some (name, call.Sub)
procedure_on (t.OfPart (t.Function name formals)) = Some (name, call.Function)
procedure_on (t.OfPart (t.ExternalSub name formals)) = Some (name, call.Sub)
procedure_on (t.OfPart (t.ExternalFunction name formals)) = Some (name, call.Function)
procedure_on (t.OfPart (t.Def name formals value)) = Some (name, call.Function)
procedure_on _ = None

-- the item of DECLARE that declares a name
abbrev pub declares : List ℕ → t.LineItem → Option t.DeclaredItem
declares name (t.OfDecl (t.Declare kind items)) = find (λ item. bytes_eq name item.name) items
declares name _ = None

-- the item that declares a name among lines
abbrev pub declaration_of : List ℕ → List t.NumLine → Option t.DeclaredItem
declaration_of name lines = first_given (declares name) lines

-- the shape of a formal, whose type a DECLARE among the lines of its body may give
abbrev pub formal_shape : Options → List t.NumLine → t.Formal → Shape
formal_shape options lines (t.FormalName name dimensions) = shape_of options name (declaration_of name lines) dimensions
formal_shape options lines (t.FormalChan number) = shape.Channel

-- a formal with its name
abbrev pub formal_entry : Options → List t.NumLine → t.Formal → Table
formal_entry options lines (t.FormalName name dimensions) =
    (name, Variable Here (unbounded (formal_shape options lines (t.FormalName name dimensions)))) ∷ []
formal_entry options lines (t.FormalChan number) = []

-- the shapes of the formals of a procedure, from its first line and its block
abbrev pub formal_shapes : Options → t.LineItem → t.Block → List Shape
formal_shapes options head block = map (formal_shape options (own_lines block)) (formals_on head)

-- the formals of a procedure with their names
abbrev pub formal_entries : Options → t.LineItem → t.Block → Table
formal_entries options head block = gathered (formal_entry options (own_lines block)) (formals_on head)

-- a procedure of this unit
abbrev pub known : Home → CallKind → List Shape → Meaning
known home call.Sub formals = SubOf home (Some formals)
known home call.Function formals = FunctionOf home (Some formals) None

-- a function inside of it
abbrev pub within : Meaning → Meaning
within (FunctionOf home formals value) = FunctionOf home formals (Some Here)
within other = other

-- an internal procedure: its first line and its block. DEF f = e has one line, which sets f to e
abbrev pub Inner : Type 0
Inner = t.NumLine × t.Block

-- the line that a definition has
abbrev pub definition_block : (line : ℕ) → List ℕ → t.Expr → t.Block
definition_block line name value =
    t.MoreStmts (t.Single (record { line = line; item = t.OfSimple (t.Alone (t.Let (t.Variable name t.NoExprs ∷ []) value)) })) t.NoStmts

-- the definition on a line
abbrev pub definition_on : t.NumLine → t.LineItem → List Inner
definition_on line (t.OfPart (t.Def name formals value)) = (line, definition_block line.line name value) ∷ []
definition_on line _ = []

-- the internal procedure that a statement is
abbrev pub inner_of : t.Stmt → List Inner
inner_of (t.Single line) = definition_on line line.item
inner_of (t.Nest (t.MoreSections head body rest) close) = if opens_procedure head.item then (head, body) ∷ [] else []
inner_of (t.Nest t.NoSections close) = []

-- the internal procedures of a body, which stand at its top
abbrev pub internals_of : t.Block → List Inner
internals_of t.NoStmts = []
internals_of (t.MoreStmts stmt rest) = inner_of stmt ++ internals_of rest

-- the procedure that a line begins, with the shapes of its formals
abbrev pub procedure_entry : Options → Home → t.LineItem → t.Block → Table
procedure_entry options home head block =
    map (λ p. (p.0, known home p.1 (formal_shapes options head block))) (option_to_list (procedure_on head))

-- variables that a line declares
abbrev pub variables : Options → Home → List t.DeclaredItem → Table
variables options home items = map (λ item. (item.name, Variable home (declared_cell options item))) items

-- what a declaration declares for its body
abbrev pub declared_on : Outer → t.LineItem → Table
declared_on outer (t.OfDecl (t.Dim items)) = variables outer.options Here items
declared_on outer (t.OfDecl (t.Declare kind items)) = variables outer.options Here items
declared_on outer (t.OfDecl (t.Public kind items)) = variables outer.options InModule items
declared_on outer (t.OfDecl (t.Share kind items)) = variables outer.options InModule items
declared_on outer (t.OfDecl (t.DeclarePublic kind items)) = variables outer.options OtherUnit items
declared_on outer (t.OfDecl (t.DeclareExternal t.SubKind names)) = map (λ name. (name, external outer call.Sub name)) names
declared_on outer (t.OfDecl (t.DeclareExternal t.FunctionKind names)) = map (λ name. (name, external outer call.Function name)) names
declared_on outer _ = []

-- the function that an external body is of
abbrev pub own_function : Outer → t.LineItem → Table
own_function outer (t.OfPart (t.ExternalFunction name formals)) = (name, within (external outer call.Function name)) ∷ []
own_function outer _ = []

-- what a program, an external procedure or an initial part sees; a program may lack its first line
abbrev pub outer_names : Outer → t.LineItem → t.Block → Table
outer_names outer head block =
    formal_entries outer.options head block
    ++ (own_function outer head
    ++ (gathered (λ line. declared_on outer line.item) (own_lines block)
    ++ (gathered (λ inner. procedure_entry outer.options Here inner.0.item inner.1) (internals_of block)
    ++ outer.variables)))

-- what belongs to the container of an internal procedure, seen from there
abbrev pub home_seen : Home → Home
home_seen Here = Container
home_seen home = home

-- the same for all that a name may stand for
abbrev pub seen_inside : Meaning → Meaning
seen_inside (Variable home cell) = Variable (home_seen home) cell
seen_inside (SubOf home formals) = SubOf (home_seen home) formals
seen_inside (FunctionOf home formals value) = FunctionOf (home_seen home) formals (option_map home_seen value)
seen_inside (Supplied forms) = Supplied forms

-- an internal procedure declares its formals alone, and shares all else with its container
abbrev pub inner_names : Options → Inner → (container : Table) → Table
inner_names options inner container =
    formal_entries options inner.0.item inner.1
    ++ (map (λ x. (x.0, within x.1)) (procedure_entry options Container inner.0.item inner.1)
    ++ map (λ x. (x.0, seen_inside x.1)) container)
