-- The plain trees of declarations.
use Rattle.std.specs.Prelude.{List, map}
use Rattle.std.specs.Option.{option_map}
use Rattle.bas_ast.specs.Tree as t
use Rattle.bas_text.specs.declared.data_list.Datum.{Datum}
use Rattle.bas_ast.specs.declared.declaration.TypeSpec.{TypeSpec}
use Rattle.bas_ast.specs.declared.declaration.Bound.{Bound}
use Rattle.bas_ast.specs.declared.declaration.DeclaredItem.{DeclaredItem}
use Rattle.bas_ast.specs.declared.declaration.Items.{Items}
use Rattle.bas_ast.specs.declared.declaration.DeclaredKind.{DeclaredKind}
use Rattle.bas_ast.specs.declared.declaration.DeclaredKind.TheVariants as kind
use Rattle.bas_ast.specs.declared.declaration.ProcedureKind.{ProcedureKind}
use Rattle.bas_ast.specs.declared.declaration.ProcedureKind.TheVariants as procedure
use Rattle.bas_ast.specs.declared.declaration.Decl.{Decl}
use Rattle.bas_ast.specs.declared.declaration.Decl.TheVariants as decl

-- the plain tree of a type
abbrev pub type_tree : TypeSpec → t.TypeSpec
type_tree x = record { whole = x.whole; fraction = x.fraction }

-- the plain tree of the bounds of a dimension
abbrev pub bound_tree : Bound → t.Bound
bound_tree x = record { low = x.low; high = x.high }

-- the plain tree of a name that is declared
abbrev pub declared_tree : DeclaredItem → t.DeclaredItem
declared_tree x = record { name = x.name; bounds = map bound_tree x.bounds; spec = option_map type_tree x.spec }

-- the plain trees of what is declared
abbrev pub items_tree : Items → List t.DeclaredItem
items_tree x = map declared_tree x.items

abbrev pub kind_tree : DeclaredKind → t.DeclaredKind
kind_tree kind.Numeric = t.NumericKind
kind_tree kind.String = t.StringKind

abbrev pub procedure_kind_tree : ProcedureKind → t.ProcedureKind
procedure_kind_tree procedure.Sub = t.SubKind
procedure_kind_tree procedure.Function = t.FunctionKind

-- the plain tree of an item of DATA
abbrev pub datum_tree : Datum → t.Datum
datum_tree x = record { quoted = x.quoted; text = x.text }

-- the plain tree of a declaration
unfoldable pub decl_tree : Decl → t.Decl
decl_tree decl.OptionBaseZero = t.OptionBaseZero
decl_tree decl.OptionBaseOne = t.OptionBaseOne
decl_tree decl.OptionArithmeticDecimal = t.OptionArithmeticDecimal
decl_tree (decl.OptionArithmeticFixed spec) = t.OptionArithmeticFixed (type_tree spec)
decl_tree (decl.Dim items) = t.Dim (items_tree items)
decl_tree (decl.Declare x items) = t.Declare (kind_tree x) (items_tree items)
decl_tree (decl.Public x items) = t.Public (kind_tree x) (items_tree items)
decl_tree (decl.Share x items) = t.Share (kind_tree x) (items_tree items)
decl_tree (decl.DeclarePublic x items) = t.DeclarePublic (kind_tree x) (items_tree items)
decl_tree (decl.Private names) = t.Private names
decl_tree (decl.DeclareExternal x names) = t.DeclareExternal (procedure_kind_tree x) names
decl_tree (decl.Data datums) = t.Data (map datum_tree datums)
