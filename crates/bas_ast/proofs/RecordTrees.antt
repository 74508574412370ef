-- The equations of the plain trees of setters, of IF MISSING and IF THERE, and of attributes.
use Rattle.std.proofs.Common.{◌≡◌, ℕ, refl}
use Rattle.bas_ast.specs.Tree as t
use Rattle.bas_ast.specs.ExpressionTree.{expr_tree}
use Rattle.bas_ast.specs.RecordTree.{access_tree, attr_tree, create_tree, organization_tree, rectype_tree, setter_tree}
use Rattle.bas_ast.specs.declared.expression.Expr.{Expr}
use Rattle.bas_ast.specs.declared.record_statement.Organization.{Organization}
use Rattle.bas_ast.specs.declared.record_statement.Rectype.{Rectype}
use Rattle.bas_ast.specs.declared.record_statement.Access.{Access}
use Rattle.bas_ast.specs.declared.record_statement.Create.{Create}
use Rattle.bas_ast.specs.declared.record_statement.Setter.TheVariants as setter
use Rattle.bas_ast.specs.declared.record_statement.Attr.TheVariants as attr
use Rattle.bas_ast.specs.RecordEquations.{RecordEquations}

pub setter_begin : setter_tree setter.Begin ≡ t.ToBegin
unfolding setter_tree
setter_begin = refl

pub setter_end : setter_tree setter.End ≡ t.ToEnd
unfolding setter_tree
setter_end = refl

pub setter_next : setter_tree setter.Next ≡ t.ToNext
unfolding setter_tree
setter_next = refl

pub setter_same : setter_tree setter.Same ≡ t.ToSame
unfolding setter_tree
setter_same = refl

pub setter_record : (number : Expr) → setter_tree (setter.Record number) ≡ t.ToRecord (expr_tree number)
unfolding setter_tree
setter_record number = refl

pub setter_key_eq : (key : Expr) → setter_tree (setter.KeyEq key) ≡ t.ToKey (expr_tree key)
unfolding setter_tree
setter_key_eq key = refl

pub setter_key_ge : (key : Expr) → setter_tree (setter.KeyGe key) ≡ t.ToKeyAtLeast (expr_tree key)
unfolding setter_tree
setter_key_ge key = refl

pub setter_key_gt : (key : Expr) → setter_tree (setter.KeyGt key) ≡ t.ToKeyAbove (expr_tree key)
unfolding setter_tree
setter_key_gt key = refl

pub attr_organization : (x : Organization) → attr_tree (attr.Organization x) ≡ t.OfOrganization (organization_tree x)
unfolding attr_tree
attr_organization x = refl

pub attr_rectype : (x : Rectype) → attr_tree (attr.Rectype x) ≡ t.OfRectype (rectype_tree x)
unfolding attr_tree
attr_rectype x = refl

pub attr_access : (x : Access) → attr_tree (attr.Access x) ≡ t.OfAccess (access_tree x)
unfolding attr_tree
attr_access x = refl

pub attr_create : (x : Create) → attr_tree (attr.Create x) ≡ t.OfCreate (create_tree x)
unfolding attr_tree
attr_create x = refl

pub attr_recsize : (size : ℕ) → attr_tree (attr.Recsize size) ≡ t.OfRecsize size
unfolding attr_tree
attr_recsize size = refl

pub ruleset record_trees = (setter_begin, setter_end, setter_next, setter_same, setter_record, setter_key_eq, setter_key_ge, setter_key_gt, attr_organization, attr_rectype, attr_access, attr_create, attr_recsize)

pub record_equations : RecordEquations
record_equations = record { setter_begin = setter_begin; setter_end = setter_end; setter_next = setter_next; setter_same = setter_same; setter_record = setter_record; setter_key_eq = setter_key_eq; setter_key_ge = setter_key_ge; setter_key_gt = setter_key_gt; attr_organization = attr_organization; attr_rectype = attr_rectype; attr_access = attr_access; attr_create = attr_create; attr_recsize = attr_recsize }
