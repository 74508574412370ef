-- The equations of the plain trees of setters, of IF MISSING and IF THERE, and of attributes.
use Rattle.std.specs.Prelude.{◌≡◌, ℕ}
use Rattle.bas_ast.specs.Tree as t
use Rattle.bas_ast.specs.ExpressionTree.{expr_tree}
use Rattle.bas_ast.specs.RecordTree.{access_tree, attr_tree, create_tree, organization_tree, rectype_tree, setter_tree}
use Rattle.bas_ast.specs.declared.expression.Expr.{Expr}
use Rattle.bas_ast.specs.declared.record_statement.Organization.{Organization}
use Rattle.bas_ast.specs.declared.record_statement.Rectype.{Rectype}
use Rattle.bas_ast.specs.declared.record_statement.Access.{Access}
use Rattle.bas_ast.specs.declared.record_statement.Create.{Create}
use Rattle.bas_ast.specs.declared.record_statement.Setter.TheVariants as setter
use Rattle.bas_ast.specs.declared.record_statement.Attr.TheVariants as attr

-- the plain tree of each alternative is its own alternative with the plain trees of its parts
pub record RecordEquations : Type 0 where
  pub setter_begin : setter_tree setter.Begin ≡ t.ToBegin
  pub setter_end : setter_tree setter.End ≡ t.ToEnd
  pub setter_next : setter_tree setter.Next ≡ t.ToNext
  pub setter_same : setter_tree setter.Same ≡ t.ToSame
  pub setter_record : (number : Expr) → setter_tree (setter.Record number) ≡ t.ToRecord (expr_tree number)
  pub setter_key_eq : (key : Expr) → setter_tree (setter.KeyEq key) ≡ t.ToKey (expr_tree key)
  pub setter_key_ge : (key : Expr) → setter_tree (setter.KeyGe key) ≡ t.ToKeyAtLeast (expr_tree key)
  pub setter_key_gt : (key : Expr) → setter_tree (setter.KeyGt key) ≡ t.ToKeyAbove (expr_tree key)
  pub attr_organization : (x : Organization) → attr_tree (attr.Organization x) ≡ t.OfOrganization (organization_tree x)
  pub attr_rectype : (x : Rectype) → attr_tree (attr.Rectype x) ≡ t.OfRectype (rectype_tree x)
  pub attr_access : (x : Access) → attr_tree (attr.Access x) ≡ t.OfAccess (access_tree x)
  pub attr_create : (x : Create) → attr_tree (attr.Create x) ≡ t.OfCreate (create_tree x)
  pub attr_recsize : (size : ℕ) → attr_tree (attr.Recsize size) ≡ t.OfRecsize size
