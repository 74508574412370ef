-- The constructs of a body: the lines that open, divide and close each, and where they may stand.
use Rattle.std.specs.Prelude.{ℕ, List, Bool, true, false, Option, Some, None}
use Rattle.bas_ast.specs.Tree.{LineItem, Nothing, Rem, OfSimple, OfPart, OfDecl, Part, If, Elseif, Else, EndIf, For, Next, Do, Loop, SelectCase, CaseOf, CaseElse, EndSelect, WhenExceptionIn, Use, WhenExceptionUse, EndWhen, Handler, EndHandler, Sub, Function, ExternalSub, ExternalFunction, EndSub, EndFunction, Def, ProgramLine, End, ModuleLine, EndModule}
use Rattle.bas_nest.specs.declared.construct.Construct.{Construct}
use Rattle.bas_nest.specs.declared.construct.Construct.TheVariants as section
use Rattle.bas_nest.specs.declared.construct.Around.{Around}
use Rattle.bas_nest.specs.declared.construct.Around.TheVariants as stands
use Rattle.bas_nest.specs.declared.construct.Divider.{Divider}
use Rattle.bas_nest.specs.declared.construct.Divider.TheVariants as divider
use Rattle.bas_nest.specs.declared.construct.Closer.{Closer}
use Rattle.bas_nest.specs.declared.construct.Closer.TheVariants as closer
use Rattle.bas_nest.specs.declared.construct.Role.{Role}
use Rattle.bas_nest.specs.declared.construct.Role.TheVariants as role

-- what a line of a construct, a procedure or a unit does in the nesting
abbrev pub role_of_part : Part → Role
role_of_part (If c) = role.Opens section.If
role_of_part (Elseif c) = role.Divides divider.Elseif
role_of_part Else = role.Divides divider.Else
role_of_part EndIf = role.Closes closer.EndIf
role_of_part (For name start limit step) = role.Opens section.For
role_of_part (Next name) = role.Closes closer.Next
role_of_part (Do loopc) = role.Opens section.Do
role_of_part (Loop loopc) = role.Closes closer.Loop
role_of_part (SelectCase selector) = role.Opens section.Select
role_of_part (CaseOf cases) = role.Divides divider.Case
role_of_part CaseElse = role.Divides divider.CaseElse
role_of_part EndSelect = role.Closes closer.EndSelect
role_of_part WhenExceptionIn = role.Opens section.When
role_of_part Use = role.Divides divider.Use
role_of_part (WhenExceptionUse handler) = role.Opens section.Detached
role_of_part EndWhen = role.Closes closer.EndWhen
role_of_part (Handler name) = role.Opens section.Handler
role_of_part EndHandler = role.Closes closer.EndHandler
role_of_part (Sub name formals) = role.Opens section.Sub
role_of_part (Function name formals) = role.Opens section.Function
role_of_part (ExternalSub name formals) = role.BeginsSub
role_of_part (ExternalFunction name formals) = role.BeginsFunction
role_of_part EndSub = role.Closes closer.EndSub
role_of_part EndFunction = role.Closes closer.EndFunction
role_of_part (Def name formals value) = role.Defines
role_of_part (ProgramLine name formals) = role.BeginsProgram
role_of_part End = role.EndsProgram
role_of_part (ModuleLine name) = role.BeginsModule
role_of_part EndModule = role.EndsModule

-- what a line does in the nesting
abbrev pub role_of : LineItem → Role
role_of Nothing = role.Remark
role_of (Rem bytes) = role.Remark
role_of (OfSimple simple) = role.Plain
role_of (OfDecl decl) = role.Plain
role_of (OfPart part) = role_of_part part

-- the name that a PROGRAM line gives
abbrev pub named_by : Part → Option (List ℕ)
named_by (ProgramLine name formals) = Some name
named_by _ = None

abbrev pub program_name : LineItem → Option (List ℕ)
program_name (OfPart part) = named_by part
program_name _ = None

-- the section that a line opens a construct with
abbrev pub opens : Role → Option Construct
opens (role.Opens c) = Some c
opens _ = None

-- a section behind IF or ELSEIF, behind SELECT CASE or CASE, and behind WHEN EXCEPTION IN
abbrev pub behind_if : Construct → Construct → Option Construct
behind_if next section.If = Some next
behind_if next _ = None

abbrev pub behind_select : Construct → Construct → Option Construct
behind_select next section.Select = Some next
behind_select next section.Case = Some next
behind_select next _ = None

abbrev pub behind_when : Construct → Construct → Option Construct
behind_when next section.When = Some next
behind_when next _ = None

-- the section that a line begins behind another section of the same construct
abbrev pub divided_by : Construct → Divider → Option Construct
divided_by c divider.Elseif = behind_if section.If c
divided_by c divider.Else = behind_if section.Else c
divided_by c divider.Case = behind_select section.Case c
divided_by c divider.CaseElse = behind_select section.CaseElse c
divided_by c divider.Use = behind_when section.Attached c

abbrev pub divides : Construct → Role → Option Construct
divides c (role.Divides d) = divided_by c d
divides c _ = None

-- the line that closes a construct after a section; WHEN EXCEPTION IN must have its USE
abbrev pub closer_of : Construct → Option Closer
closer_of section.If = Some closer.EndIf
closer_of section.Else = Some closer.EndIf
closer_of section.For = Some closer.Next
closer_of section.Do = Some closer.Loop
closer_of section.Select = Some closer.EndSelect
closer_of section.Case = Some closer.EndSelect
closer_of section.CaseElse = Some closer.EndSelect
closer_of section.When = None
closer_of section.Attached = Some closer.EndWhen
closer_of section.Detached = Some closer.EndWhen
closer_of section.Handler = Some closer.EndHandler
closer_of section.Sub = Some closer.EndSub
closer_of section.Function = Some closer.EndFunction

abbrev pub same_closer : Option Closer → Closer → Bool
same_closer (Some closer.EndIf) closer.EndIf = true
same_closer (Some closer.Next) closer.Next = true
same_closer (Some closer.Loop) closer.Loop = true
same_closer (Some closer.EndSelect) closer.EndSelect = true
same_closer (Some closer.EndWhen) closer.EndWhen = true
same_closer (Some closer.EndHandler) closer.EndHandler = true
same_closer (Some closer.EndSub) closer.EndSub = true
same_closer (Some closer.EndFunction) closer.EndFunction = true
same_closer _ _ = false

abbrev pub closes : Construct → Role → Bool
closes c (role.Closes k) = same_closer (closer_of c) k
closes c _ = false

-- internal procedures stand at the top of a unit, handlers there or at the top of an internal
-- procedure, and neither after SELECT CASE
abbrev pub may_open : Around → Construct → Bool
may_open stands.Unit c = true
may_open stands.Select c = false
may_open stands.Internal section.Sub = false
may_open stands.Internal section.Function = false
may_open stands.Internal _ = true
may_open stands.Block section.Sub = false
may_open stands.Block section.Function = false
may_open stands.Block section.Handler = false
may_open stands.Block _ = true

-- no line is allowed after SELECT CASE
abbrev pub is_select : Around → Bool
is_select stands.Select = true
is_select _ = false

abbrev pub not_select : Around → Bool
not_select stands.Select = false
not_select _ = true

-- DEF stands at the top of a unit alone
abbrev pub is_unit : Around → Bool
is_unit stands.Unit = true
is_unit _ = false

-- a line that stands alone
abbrev pub may_stand : Around → Role → Bool
may_stand around role.Remark = not_select around
may_stand around role.Plain = not_select around
may_stand around role.Defines = is_unit around
may_stand around _ = false

-- a remark that no body has
abbrev pub is_left_out : Around → Role → Bool
is_left_out around role.Remark = is_select around
is_left_out around _ = false

-- where the lines of a section stand
abbrev pub inside : Construct → Around
inside section.Select = stands.Select
inside section.Sub = stands.Internal
inside section.Function = stands.Internal
inside _ = stands.Block

abbrev pub is_remark : Role → Bool
is_remark role.Remark = true
is_remark _ = false

-- the first line of an external procedure
abbrev pub begins_procedure : Role → Bool
begins_procedure role.BeginsSub = true
begins_procedure role.BeginsFunction = true
begins_procedure _ = false

-- the closing line of the external procedure that begins with another
abbrev pub closes_sub : Role → Bool
closes_sub (role.Closes closer.EndSub) = true
closes_sub _ = false

abbrev pub closes_function : Role → Bool
closes_function (role.Closes closer.EndFunction) = true
closes_function _ = false

abbrev pub closes_procedure : (head close : Role) → Bool
closes_procedure role.BeginsSub close = closes_sub close
closes_procedure role.BeginsFunction close = closes_function close
closes_procedure _ close = false
