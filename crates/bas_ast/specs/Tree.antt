-- The plain trees of a program: one type for each production of the line grammar, one constructor
-- for each alternative, and the parts of an alternative in their order. A name and a text are
-- lists of bytes, a line is its number, and digits are the number that they spell.
use Rattle.std.specs.Prelude.{ℕ, ℤ, List, Option, Bool}
use Rattle.bas_dec.specs.Number.{Number}

-- the sign in front of a numeral or of an expression
pub data Sign : Type 0 where
  Plus : Sign
  Minus : Sign

-- what joins the terms of an expression: `+`, `-` and `&`
pub data TermSign : Type 0 where
  Add : TermSign
  Subtract : TermSign
  Join : TermSign

-- what joins the factors of a term: `*` and `/`
pub data FactorSign : Type 0 where
  Multiply : FactorSign
  Divide : FactorSign

-- the six relations
pub data Rel : Type 0 where
  Equal : Rel
  NotEqual : Rel
  Less : Rel
  Greater : Rel
  AtMost : Rel
  AtLeast : Rel

-- a numeral's value, and whether it was written with digits alone
pub record Numeral : Type 0 where
  pub value : Number
  pub digits : Bool

mutual
  -- a sign, a term, and the terms that are added, subtracted or joined behind it
  pub data Expr : Type 0 where
    Sum : (sign : Option Sign) (first : Term) (rest : Terms) → Expr

  pub data Terms : Type 0 where
    NoTerms : Terms
    MoreTerms : (sign : TermSign) (term : Term) (rest : Terms) → Terms

  -- a factor, and the factors that multiply or divide it
  pub data Term : Type 0 where
    Product : (first : Factor) (rest : Factors) → Term

  pub data Factors : Type 0 where
    NoFactors : Factors
    MoreFactors : (sign : FactorSign) (factor : Factor) (rest : Factors) → Factors

  -- a base and its exponents, from the left
  pub data Factor : Type 0 where
    Power : (base : Primary) (exponents : Primaries) → Factor

  pub data Primaries : Type 0 where
    NoPrimaries : Primaries
    MorePrimaries : (primary : Primary) (rest : Primaries) → Primaries

  -- a name with arguments is an element or a call; without parentheses it has no arguments
  pub data Primary : Type 0 where
    Numeric : (numeral : Numeral) → Primary
    Quoted : (text : List ℕ) → Primary
    Group : (expr : Expr) → Primary
    Named : (name : List ℕ) (args : Args) → Primary
    Substring : (target : Target) (first last : Expr) → Primary

  pub data Args : Type 0 where
    NoArgs : Args
    MoreArgs : (actual : Actual) (rest : Args) → Args

  -- an argument: an expression, or the channel of a number
  pub data Actual : Type 0 where
    Argument : (expr : Expr) → Actual
    ChanArgument : (number : Expr) → Actual

  -- a variable, or an element where there are subscripts
  pub data Target : Type 0 where
    Variable : (name : List ℕ) (subscripts : Exprs) → Target

  pub data Exprs : Type 0 where
    NoExprs : Exprs
    MoreExprs : (expr : Expr) (rest : Exprs) → Exprs

mutual
  -- conditions joined by OR
  pub data Cond : Type 0 where
    AnyOf : (first : Conj) (rest : Conjs) → Cond

  pub data Conjs : Type 0 where
    NoConjs : Conjs
    MoreConjs : (conj : Conj) (rest : Conjs) → Conjs

  -- conditions joined by AND
  pub data Conj : Type 0 where
    AllOf : (first : Test) (rest : Tests) → Conj

  pub data Tests : Type 0 where
    NoTests : Tests
    MoreTests : (test : Test) (rest : Tests) → Tests

  pub data Test : Type 0 where
    Not : (test : Test) → Test
    CondGroup : (cond : Cond) → Test
    Compare : (left : Expr) (rel : Rel) (right : Expr) → Test

-- `#` and the channel's number
pub record Chan : Type 0 where
  pub number : Expr

pub data Sep : Type 0 where
  Comma : Sep
  Semicolon : Sep

-- an item of a print list
pub data Pitem : Type 0 where
  Printed : (expr : Expr) → Pitem
  Tab : (column : Expr) → Pitem

-- a print list: perhaps an item, then separators, each perhaps with an item behind it
pub record Plist : Type 0 where
  pub first : Option Pitem
  pub rest : List (Sep × Option Pitem)

-- where a record statement sets the pointer
pub data Setter : Type 0 where
  ToBegin : Setter
  ToEnd : Setter
  ToNext : Setter
  ToSame : Setter
  ToRecord : (number : Expr) → Setter
  ToKey : (key : Expr) → Setter
  ToKeyAtLeast : (key : Expr) → Setter
  ToKeyAbove : (key : Expr) → Setter

-- IF MISSING, IF THERE
pub data MissWhen : Type 0 where
  Missing : MissWhen
  There : MissWhen

-- where it goes: out of a loop, or to a line
pub data MissThen : Type 0 where
  MissExitDo : MissThen
  MissExitFor : MissThen
  MissGoto : (line : ℕ) → MissThen

pub record Miss : Type 0 where
  pub when : MissWhen
  pub goes : MissThen

pub data Organization : Type 0 where
  Stream : Organization
  Sequential : Organization
  Relative : Organization
  Keyed : Organization

pub data Rectype : Type 0 where
  Display : Rectype
  Internal : Rectype

pub data Access : Type 0 where
  AccessInput : Access
  AccessOutput : Access
  AccessOutin : Access

pub data Create : Type 0 where
  CreateNew : Create
  CreateOld : Create
  CreateNewold : Create

-- an attribute of OPEN
pub data Attr : Type 0 where
  OfOrganization : (organization : Organization) → Attr
  OfRectype : (rectype : Rectype) → Attr
  OfAccess : (access : Access) → Attr
  OfCreate : (create : Create) → Attr
  OfRecsize : (size : ℕ) → Attr

-- a statement that may stand in a one-line IF
pub data Plain : Type 0 where
  Let : (targets : List Target) (value : Expr) → Plain
  Print : (list : Plist) → Plain
  PrintChan : (chan : Chan) (list : Option Plist) → Plain
  PrintUsing : (chan : Option Chan) (format first : Expr) (rest : List (Sep × Expr)) (semicolon : Bool) → Plain
  Input : (prompt : Option Expr) (targets : List Target) → Plain
  LineInput : (prompt : Option Expr) (targets : List Target) → Plain
  InputChan : (chan : Chan) (miss : Option Miss) (targets : List Target) → Plain
  LineInputChan : (chan : Chan) (miss : Option Miss) (targets : List Target) → Plain
  Read : (targets : List Target) → Plain
  Restore : (line : Option ℕ) → Plain
  Goto : (line : ℕ) → Plain
  Gosub : (line : ℕ) → Plain
  Return : Plain
  Stop : Plain
  ExitDo : Plain
  ExitFor : Plain
  ExitSub : Plain
  ExitFunction : Plain
  ExitHandler : Plain
  Call : (name : List ℕ) (args : Args) → Plain
  Retry : Plain
  Continue : Plain
  CauseException : (number : Expr) → Plain
  Chain : (program : Expr) (values : List Expr) → Plain
  Open : (chan : Chan) (name : Expr) (attrs : List Attr) → Plain
  Close : (chan : Chan) → Plain
  SetPointer : (chan : Chan) (setter : Setter) → Plain
  ReadChan : (chan : Chan) (setter : Option Setter) (miss : Option Miss) (targets : List Target) → Plain
  Write : (chan : Chan) (setter : Option Setter) (miss : Option Miss) (values : List Expr) → Plain
  Rewrite : (chan : Chan) (setter : Option Setter) (miss : Option Miss) (values : List Expr) → Plain
  Delete : (chan : Chan) (setter : Option Setter) (miss : Option Miss) → Plain

-- a part of a one-line IF: a line to go to, or a statement
pub data Branch : Type 0 where
  ToLine : (line : ℕ) → Branch
  Does : (plain : Plain) → Branch

pub data Simple : Type 0 where
  Alone : (plain : Plain) → Simple
  IfThen : (cond : Cond) (then_part : Branch) (else_part : Option Branch) → Simple
  OnGoto : (index : Expr) (lines : List ℕ) (else_part : Option Plain) → Simple
  OnGosub : (index : Expr) (lines : List ℕ) (else_part : Option Plain) → Simple

-- a constant of a CASE line
pub data Const : Type 0 where
  ConstNumeral : (sign : Option Sign) (numeral : Numeral) → Const
  ConstQuoted : (text : List ℕ) → Const

pub data Case : Type 0 where
  OneOf : (constant : Const) → Case
  FromTo : (low high : Const) → Case
  Is : (rel : Rel) (constant : Const) → Case

-- a formal has no dimensions where it is no array; a channel has a number
pub data Formal : Type 0 where
  FormalName : (name : List ℕ) (dimensions : ℕ) → Formal
  FormalChan : (number : ℕ) → Formal

pub data Loopc : Type 0 where
  While : (cond : Cond) → Loopc
  Until : (cond : Cond) → Loopc

-- a line that opens, divides or closes a construct; no formals stand without parentheses
pub data Part : Type 0 where
  If : (cond : Cond) → Part
  Elseif : (cond : Cond) → Part
  Else : Part
  EndIf : Part
  For : (name : List ℕ) (start limit : Expr) (step : Option Expr) → Part
  Next : (name : List ℕ) → Part
  Do : (loopc : Option Loopc) → Part
  Loop : (loopc : Option Loopc) → Part
  SelectCase : (selector : Expr) → Part
  CaseOf : (cases : List Case) → Part
  CaseElse : Part
  EndSelect : Part
  WhenExceptionIn : Part
  Use : Part
  WhenExceptionUse : (handler : List ℕ) → Part
  EndWhen : Part
  Handler : (name : List ℕ) → Part
  EndHandler : Part
  Sub : (name : List ℕ) (formals : List Formal) → Part
  Function : (name : List ℕ) (formals : List Formal) → Part
  ExternalSub : (name : List ℕ) (formals : List Formal) → Part
  ExternalFunction : (name : List ℕ) (formals : List Formal) → Part
  EndSub : Part
  EndFunction : Part
  Def : (name : List ℕ) (formals : List Formal) (value : Expr) → Part
  ProgramLine : (name : List ℕ) (formals : List Formal) → Part
  End : Part
  ModuleLine : (name : List ℕ) → Part
  EndModule : Part

-- `*` and the digits before and behind the point
pub record TypeSpec : Type 0 where
  pub whole : ℕ
  pub fraction : Option ℕ

-- the bounds of a dimension
pub record Bound : Type 0 where
  pub low : Option ℤ
  pub high : ℤ

-- a name that is declared, an array where it has bounds
pub record DeclaredItem : Type 0 where
  pub name : List ℕ
  pub bounds : List Bound
  pub spec : Option TypeSpec

pub data DeclaredKind : Type 0 where
  NumericKind : DeclaredKind
  StringKind : DeclaredKind

pub data ProcedureKind : Type 0 where
  SubKind : ProcedureKind
  FunctionKind : ProcedureKind

-- an item of DATA
pub record Datum : Type 0 where
  pub quoted : Bool
  pub text : List ℕ

pub data Decl : Type 0 where
  OptionBaseZero : Decl
  OptionBaseOne : Decl
  OptionArithmeticDecimal : Decl
  OptionArithmeticFixed : (spec : TypeSpec) → Decl
  Dim : (items : List DeclaredItem) → Decl
  Declare : (kind : DeclaredKind) (items : List DeclaredItem) → Decl
  Public : (kind : DeclaredKind) (items : List DeclaredItem) → Decl
  Share : (kind : DeclaredKind) (items : List DeclaredItem) → Decl
  DeclarePublic : (kind : DeclaredKind) (items : List DeclaredItem) → Decl
  Private : (names : List (List ℕ)) → Decl
  DeclareExternal : (kind : ProcedureKind) (names : List (List ℕ)) → Decl
  Data : (datums : List Datum) → Decl

-- what stands behind a line's number; a remark has its bytes
pub data LineItem : Type 0 where
  Nothing : LineItem
  Rem : (bytes : List ℕ) → LineItem
  OfSimple : (simple : Simple) → LineItem
  OfPart : (part : Part) → LineItem
  OfDecl : (decl : Decl) → LineItem

-- a numbered line
pub record NumLine : Type 0 where
  pub line : ℕ
  pub item : LineItem

mutual
  -- a line alone, or a construct: its sections, and the line that closes it
  pub data Stmt : Type 0 where
    Single : (line : NumLine) → Stmt
    Nest : (sections : Sections) (close : NumLine) → Stmt

  -- each section begins with a line of the construct
  pub data Sections : Type 0 where
    NoSections : Sections
    MoreSections : (head : NumLine) (body : Block) (rest : Sections) → Sections

  pub data Block : Type 0 where
    NoStmts : Block
    MoreStmts : (stmt : Stmt) (rest : Block) → Block

-- a program; its head is the PROGRAM line, where it is written
pub record Program : Type 0 where
  pub name : List ℕ
  pub head : Option NumLine
  pub body : Block
  pub close : NumLine

-- an external procedure, of its own or of a module
pub record Procedure : Type 0 where
  pub head : NumLine
  pub body : Block
  pub close : NumLine

pub record Module : Type 0 where
  pub head : NumLine
  pub initial : Block
  pub procs : List Procedure
  pub close : NumLine

pub data SourceUnit : Type 0 where
  ProgramUnit : (program : Program) → SourceUnit
  ProcedureUnit : (procedure : Procedure) → SourceUnit
  ModuleUnit : (part : Module) → SourceUnit
