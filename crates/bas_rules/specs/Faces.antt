-- The interface of a unit: what it exports, what it calls of other units, and the public variables that it shows and uses.
use Rattle.std.specs.Prelude.{ℕ, suc, ◌+◌, if◌then◌else◌, List, [], ◌∷◌, ◌++◌, length, map, Option, Some, None}
use Rattle.std.specs.Option.{option_to_list, unwrap_or}
use Rattle.bas_ast.specs.Tree as t
use Rattle.bas_ast.specs.Accessors.{unit_name}
use Rattle.bas_face.specs.declared.shape.Shape.{Shape}
use Rattle.bas_face.specs.declared.face.CallKind.{CallKind}
use Rattle.bas_face.specs.declared.face.CallKind.TheVariants as call
use Rattle.bas_face.specs.declared.face.UnitKind.{UnitKind}
use Rattle.bas_face.specs.declared.face.UnitKind.TheVariants as kind
use Rattle.bas_face.specs.declared.face.Export.{Export}
use Rattle.bas_face.specs.declared.face.Import.{Import}
use Rattle.bas_face.specs.declared.face.Public.{Public}
use Rattle.bas_face.specs.declared.face.Face.{Face}
use Rattle.bas_scope.specs.Lines.{gathered, own_lines}
use Rattle.bas_scope.specs.Shapes.{Options}
use Rattle.bas_scope.specs.Nodes.{Node, OfPrimary, OfWhole, OfCall, item_nodes}
use Rattle.bas_scope.specs.Scope.{Meaning, Variable, SubOf, FunctionOf, OtherUnit, Scope, stands_for, called_by, procedure_on, formal_shapes, internals_of}
use Rattle.bas_scope.specs.Senses.{senses_of}
use Rattle.bas_scope.specs.Bodies.{outer_of, on_lines, public_on, uses_of}
use Rattle.bas_rules.specs.Sites.{Site, sites_of}
use Rattle.bas_rules.specs.Kinds.{actuals_of}
use Rattle.bas_rules.specs.Naming.{is_among}
use Rattle.bas_rules.specs.Calling.{passed_by_call, passed_to_function}
use Rattle.bas_rules.specs.Declaring.{private_names}

-- a procedure that other units may call, by its name and kind, with the number of its body
abbrev pub export_as : Options → (body : ℕ) → t.Procedure → List ℕ × CallKind → Export
export_as options body p x = record { name = x.0; kind = x.1; formals = formal_shapes options p.head.item p.body; body = body }

-- the procedure that an external body is
abbrev pub export_of : Options → (body : ℕ) → t.Procedure → List Export
export_of options body p = map (export_as options body p) (option_to_list (procedure_on p.head.item))

-- the same, where PRIVATE does not name it
abbrev pub export_unless : (private : List (List ℕ)) → List Export → List Export
export_unless private [] = []
export_unless private (x ∷ xs) = if is_among x.name private then export_unless private xs else x ∷ export_unless private xs

-- the procedures of a module; a body is followed by those of its internal procedures
abbrev pub exports_from : Options → (private : List (List ℕ)) → (body : ℕ) → List t.Procedure → List Export
exports_from options private body [] = []
exports_from options private body (p ∷ ps) =
    export_unless private (export_of options body p) ++ exports_from options private (body + suc (length (internals_of p.body))) ps

-- the names that PRIVATE keeps in a module
abbrev pub privates_of : t.Module → List (List ℕ)
privates_of m = gathered (λ line. private_names line.item) (own_lines m.initial)

-- what a unit exports
abbrev pub exports_of : Options → t.SourceUnit → List Export
exports_of options (t.ProgramUnit p) = []
exports_of options (t.ProcedureUnit p) = export_of options 0 p
exports_of options (t.ModuleUnit m) = exports_from options (privates_of m) (suc (length (internals_of m.initial))) m.procs

-- a call of a function of another unit
abbrev pub function_import : Scope → List ℕ → t.Args → Meaning → List Import
function_import s name args (FunctionOf OtherUnit formals value) =
    record { name = name; kind = call.Function; actuals = map (passed_to_function (senses_of s)) (actuals_of args) } ∷ []
function_import s name args _ = []

-- a call of a SUB of another unit
abbrev pub sub_import : Scope → List ℕ → t.Args → Meaning → List Import
sub_import s name args (SubOf OtherUnit formals) =
    record { name = name; kind = call.Sub; actuals = map (passed_by_call (senses_of s)) (actuals_of args) } ∷ []
sub_import s name args _ = []

-- the external call at a node
abbrev pub import_at : Scope → Node → List Import
import_at s (OfPrimary (t.Named name args)) = function_import s name args (stands_for s name)
import_at s (OfWhole (t.Named name args)) = function_import s name args (stands_for s name)
import_at s (OfCall name args) = sub_import s name args (called_by s name)
import_at s _ = []

-- the external calls of a line in its place
abbrev pub imports_at : Site → List Import
imports_at x = gathered (import_at x.body.scope) (item_nodes x.item)

-- the external calls of a unit, one for each in the order of the text
abbrev pub imports_of : t.SourceUnit → List Import
imports_of unit = gathered (gathered imports_at) (sites_of unit)

-- a variable with its cell
abbrev pub public_of : List ℕ × Meaning → List Public
public_of (name, Variable home cell) = record { name = name; cell = cell } ∷ []
public_of _ = []

-- the variables that a unit shows to others
abbrev pub publics_of : Options → t.SourceUnit → List Public
publics_of options (t.ModuleUnit m) = gathered public_of (on_lines (public_on options) m.initial)
publics_of options _ = []

-- what a unit is
abbrev pub kind_of : t.SourceUnit → UnitKind
kind_of (t.ProgramUnit p) = kind.Program
kind_of (t.ProcedureUnit p) = kind.Procedure
kind_of (t.ModuleUnit m) = kind.Module

-- the interface of a unit
abbrev pub face_of : t.SourceUnit → Face
face_of unit = record {
  unit = unwrap_or (unit_name unit) [];
  kind = kind_of unit;
  exports = exports_of (outer_of unit).options unit;
  imports = imports_of unit;
  publics = publics_of (outer_of unit).options unit;
  uses = gathered public_of (uses_of unit);
}
