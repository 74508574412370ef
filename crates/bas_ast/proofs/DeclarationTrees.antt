-- The equations of the plain trees of declarations.
use Rattle.std.proofs.Common.{◌≡◌, ℕ, List, map, refl}
use Rattle.bas_ast.specs.Tree as t
use Rattle.bas_ast.specs.DeclarationTree.{datum_tree, decl_tree, items_tree, kind_tree, procedure_kind_tree, type_tree}
use Rattle.bas_ast.specs.declared.declaration.TypeSpec.{TypeSpec}
use Rattle.bas_ast.specs.declared.declaration.Items.{Items}
use Rattle.bas_ast.specs.declared.declaration.DeclaredKind.{DeclaredKind}
use Rattle.bas_ast.specs.declared.declaration.ProcedureKind.{ProcedureKind}
use Rattle.bas_text.specs.declared.data_list.Datum.{Datum}
use Rattle.bas_ast.specs.declared.declaration.Decl.TheVariants as decl
use Rattle.bas_ast.specs.DeclarationEquations.{DeclarationEquations}

pub decl_option_base_zero : decl_tree decl.OptionBaseZero ≡ t.OptionBaseZero
unfolding decl_tree
decl_option_base_zero = refl

pub decl_option_base_one : decl_tree decl.OptionBaseOne ≡ t.OptionBaseOne
unfolding decl_tree
decl_option_base_one = refl

pub decl_option_arithmetic_decimal : decl_tree decl.OptionArithmeticDecimal ≡ t.OptionArithmeticDecimal
unfolding decl_tree
decl_option_arithmetic_decimal = refl

pub decl_option_arithmetic_fixed : (spec : TypeSpec) → decl_tree (decl.OptionArithmeticFixed spec) ≡ t.OptionArithmeticFixed (type_tree spec)
unfolding decl_tree
decl_option_arithmetic_fixed spec = refl

pub decl_dim : (items : Items) → decl_tree (decl.Dim items) ≡ t.Dim (items_tree items)
unfolding decl_tree
decl_dim items = refl

pub decl_declare : (x : DeclaredKind) (items : Items) → decl_tree (decl.Declare x items) ≡ t.Declare (kind_tree x) (items_tree items)
unfolding decl_tree
decl_declare x items = refl

pub decl_public : (x : DeclaredKind) (items : Items) → decl_tree (decl.Public x items) ≡ t.Public (kind_tree x) (items_tree items)
unfolding decl_tree
decl_public x items = refl

pub decl_share : (x : DeclaredKind) (items : Items) → decl_tree (decl.Share x items) ≡ t.Share (kind_tree x) (items_tree items)
unfolding decl_tree
decl_share x items = refl

pub decl_declare_public : (x : DeclaredKind) (items : Items) → decl_tree (decl.DeclarePublic x items) ≡ t.DeclarePublic (kind_tree x) (items_tree items)
unfolding decl_tree
decl_declare_public x items = refl

pub decl_private : (names : List (List ℕ)) → decl_tree (decl.Private names) ≡ t.Private names
unfolding decl_tree
decl_private names = refl

pub decl_declare_external : (x : ProcedureKind) (names : List (List ℕ)) → decl_tree (decl.DeclareExternal x names) ≡ t.DeclareExternal (procedure_kind_tree x) names
unfolding decl_tree
decl_declare_external x names = refl

pub decl_data : (datums : List Datum) → decl_tree (decl.Data datums) ≡ t.Data (map datum_tree datums)
unfolding decl_tree
decl_data datums = refl

pub ruleset declaration_trees = (decl_option_base_zero, decl_option_base_one, decl_option_arithmetic_decimal, decl_option_arithmetic_fixed, decl_dim, decl_declare, decl_public, decl_share, decl_declare_public, decl_private, decl_declare_external, decl_data)

pub declaration_equations : DeclarationEquations
declaration_equations = record { decl_option_base_zero = decl_option_base_zero; decl_option_base_one = decl_option_base_one; decl_option_arithmetic_decimal = decl_option_arithmetic_decimal; decl_option_arithmetic_fixed = decl_option_arithmetic_fixed; decl_dim = decl_dim; decl_declare = decl_declare; decl_public = decl_public; decl_share = decl_share; decl_declare_public = decl_declare_public; decl_private = decl_private; decl_declare_external = decl_declare_external; decl_data = decl_data }
