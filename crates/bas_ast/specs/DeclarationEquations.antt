-- The equations of the plain trees of declarations.
use Rattle.std.specs.Prelude.{◌≡◌, ℕ, List, map}
use Rattle.bas_ast.specs.Tree as t
use Rattle.bas_ast.specs.DeclarationTree.{datum_tree, decl_tree, items_tree, kind_tree, procedure_kind_tree, type_tree}
use Rattle.bas_ast.specs.declared.declaration.TypeSpec.{TypeSpec}
use Rattle.bas_ast.specs.declared.declaration.Items.{Items}
use Rattle.bas_ast.specs.declared.declaration.DeclaredKind.{DeclaredKind}
use Rattle.bas_ast.specs.declared.declaration.ProcedureKind.{ProcedureKind}
use Rattle.bas_text.specs.declared.data_list.Datum.{Datum}
use Rattle.bas_ast.specs.declared.declaration.Decl.TheVariants as decl

-- the plain tree of each alternative is its own alternative with the plain trees of its parts
pub record DeclarationEquations : Type 0 where
  pub decl_option_base_zero : decl_tree decl.OptionBaseZero ≡ t.OptionBaseZero
  pub decl_option_base_one : decl_tree decl.OptionBaseOne ≡ t.OptionBaseOne
  pub decl_option_arithmetic_decimal : decl_tree decl.OptionArithmeticDecimal ≡ t.OptionArithmeticDecimal
  pub decl_option_arithmetic_fixed : (spec : TypeSpec) → decl_tree (decl.OptionArithmeticFixed spec) ≡ t.OptionArithmeticFixed (type_tree spec)
  pub decl_dim : (items : Items) → decl_tree (decl.Dim items) ≡ t.Dim (items_tree items)
  pub decl_declare : (x : DeclaredKind) (items : Items) → decl_tree (decl.Declare x items) ≡ t.Declare (kind_tree x) (items_tree items)
  pub decl_public : (x : DeclaredKind) (items : Items) → decl_tree (decl.Public x items) ≡ t.Public (kind_tree x) (items_tree items)
  pub decl_share : (x : DeclaredKind) (items : Items) → decl_tree (decl.Share x items) ≡ t.Share (kind_tree x) (items_tree items)
  pub decl_declare_public : (x : DeclaredKind) (items : Items) → decl_tree (decl.DeclarePublic x items) ≡ t.DeclarePublic (kind_tree x) (items_tree items)
  pub decl_private : (names : List (List ℕ)) → decl_tree (decl.Private names) ≡ t.Private names
  pub decl_declare_external : (x : ProcedureKind) (names : List (List ℕ)) → decl_tree (decl.DeclareExternal x names) ≡ t.DeclareExternal (procedure_kind_tree x) names
  pub decl_data : (datums : List Datum) → decl_tree (decl.Data datums) ≡ t.Data (map datum_tree datums)
