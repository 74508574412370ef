-- The plain trees of channels, setters, attributes, IF MISSING and IF THERE.
use Rattle.bas_ast.specs.Tree as t
use Rattle.bas_ast.specs.ExpressionTree.{expr_tree}
use Rattle.bas_ast.specs.declared.record_statement.Chan.{Chan}
use Rattle.bas_ast.specs.declared.record_statement.Setter.{Setter}
use Rattle.bas_ast.specs.declared.record_statement.Setter.TheVariants as setter
use Rattle.bas_ast.specs.declared.record_statement.MissWhen.{MissWhen}
use Rattle.bas_ast.specs.declared.record_statement.MissWhen.TheVariants.{Missing, There}
use Rattle.bas_ast.specs.declared.record_statement.MissThen.{MissThen}
use Rattle.bas_ast.specs.declared.record_statement.MissThen.TheVariants as then_go
use Rattle.bas_ast.specs.declared.record_statement.Miss.{Miss}
use Rattle.bas_ast.specs.declared.record_statement.Organization.{Organization}
use Rattle.bas_ast.specs.declared.record_statement.Organization.TheVariants as organization
use Rattle.bas_ast.specs.declared.record_statement.Rectype.{Rectype}
use Rattle.bas_ast.specs.declared.record_statement.Rectype.TheVariants as rectype
use Rattle.bas_ast.specs.declared.record_statement.Access.{Access}
use Rattle.bas_ast.specs.declared.record_statement.Access.TheVariants as access
use Rattle.bas_ast.specs.declared.record_statement.Create.{Create}
use Rattle.bas_ast.specs.declared.record_statement.Create.TheVariants as create
use Rattle.bas_ast.specs.declared.record_statement.Attr.{Attr}
use Rattle.bas_ast.specs.declared.record_statement.Attr.TheVariants as attr

-- the plain tree of a channel
abbrev pub chan_tree : Chan → t.Chan
chan_tree x = record { number = expr_tree x.number }

-- the plain tree of a setter
unfoldable pub setter_tree : Setter → t.Setter
setter_tree setter.Begin = t.ToBegin
setter_tree setter.End = t.ToEnd
setter_tree setter.Next = t.ToNext
setter_tree setter.Same = t.ToSame
setter_tree (setter.Record number) = t.ToRecord (expr_tree number)
setter_tree (setter.KeyEq key) = t.ToKey (expr_tree key)
setter_tree (setter.KeyGe key) = t.ToKeyAtLeast (expr_tree key)
setter_tree (setter.KeyGt key) = t.ToKeyAbove (expr_tree key)

abbrev pub miss_when_tree : MissWhen → t.MissWhen
miss_when_tree Missing = t.Missing
miss_when_tree There = t.There

abbrev pub miss_then_tree : MissThen → t.MissThen
miss_then_tree then_go.ExitDo = t.MissExitDo
miss_then_tree then_go.ExitFor = t.MissExitFor
miss_then_tree (then_go.Number line) = t.MissGoto line

-- the plain tree of IF MISSING or IF THERE
abbrev pub miss_tree : Miss → t.Miss
miss_tree x = record { when = miss_when_tree x.when; goes = miss_then_tree x.goes }

abbrev pub organization_tree : Organization → t.Organization
organization_tree organization.Stream = t.Stream
organization_tree organization.Sequential = t.Sequential
organization_tree organization.Relative = t.Relative
organization_tree organization.Keyed = t.Keyed

abbrev pub rectype_tree : Rectype → t.Rectype
rectype_tree rectype.Display = t.Display
rectype_tree rectype.Internal = t.Internal

abbrev pub access_tree : Access → t.Access
access_tree access.Input = t.AccessInput
access_tree access.Output = t.AccessOutput
access_tree access.Outin = t.AccessOutin

abbrev pub create_tree : Create → t.Create
create_tree create.New = t.CreateNew
create_tree create.Old = t.CreateOld
create_tree create.Newold = t.CreateNewold

-- the plain tree of an attribute
unfoldable pub attr_tree : Attr → t.Attr
attr_tree (attr.Organization x) = t.OfOrganization (organization_tree x)
attr_tree (attr.Rectype x) = t.OfRectype (rectype_tree x)
attr_tree (attr.Access x) = t.OfAccess (access_tree x)
attr_tree (attr.Create x) = t.OfCreate (create_tree x)
attr_tree (attr.Recsize size) = t.OfRecsize size
