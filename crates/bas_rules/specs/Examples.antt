-- Words to write small units with, for the worked examples; no definition reads them.
use Rattle.std.specs.Prelude.{ℕ, pos, true, List, [], ◌∷◌, Option, Some, None, codes}
use Rattle.bas_ast.specs.Tree.{Equal, Attr, Open, Expr, Primary, Quoted, Variable, Exprs, NoExprs, MoreExprs, AnyOf, NoConjs, AllOf, NoTests, Compare, Let, Print, Printed, Formal, FormalName, Const, ConstNumeral, If, EndIf, For, Next, Do, Loop, SelectCase, CaseOf, EndSelect, Case, Sub, ExternalSub, ExternalFunction, EndSub, EndFunction, Def, Handler, EndHandler, WhenExceptionIn, Use, EndWhen, ProgramLine, End, ModuleLine, EndModule, NumericKind, DeclaredItem, Bound, Dim, Declare, OfPart, Stmt, Single, Nest, NoSections, MoreSections, Procedure, SourceUnit, ProgramUnit, ProcedureUnit, ModuleUnit}
use Rattle.bas_scope.specs.Examples.{whole, sum_of, line_at, does, declares_at, block_of, nest, plain_item}
use Rattle.bas_rules.specs.Well.{Fault}

-- that a line breaks a rule
abbrev pub broken : (line rule : ℕ) → Option Fault
broken line rule = Some (record { line = line; rule = rule })

-- a program without PROGRAM, with END at a line
abbrev pub main_of : List Stmt → (last : ℕ) → SourceUnit
main_of stmts last = ProgramUnit (record { name = codes "MAIN"; head = None; body = block_of stmts; close = line_at last (OfPart End) })

-- a program with PROGRAM P and formals at line 10
abbrev pub program_of : List Formal → List Stmt → (last : ℕ) → SourceUnit
program_of formals stmts last = ProgramUnit (record {
  name = codes "P";
  head = Some (line_at 10 (OfPart (ProgramLine (codes "P") formals)));
  body = block_of stmts;
  close = line_at last (OfPart End);
})

-- EXTERNAL SUB P and EXTERNAL FUNCTION F
abbrev pub sub_of : (line : ℕ) → List Formal → List Stmt → (last : ℕ) → Procedure
sub_of line formals stmts last = record {
  head = line_at line (OfPart (ExternalSub (codes "P") formals));
  body = block_of stmts;
  close = line_at last (OfPart EndSub);
}

abbrev pub function_of : (line : ℕ) → List Formal → List Stmt → (last : ℕ) → Procedure
function_of line formals stmts last = record {
  head = line_at line (OfPart (ExternalFunction (codes "F") formals));
  body = block_of stmts;
  close = line_at last (OfPart EndFunction);
}

abbrev pub alone : Procedure → SourceUnit
alone p = ProcedureUnit p

-- MODULE M at line 10
abbrev pub module_of : List Stmt → List Procedure → (last : ℕ) → SourceUnit
module_of initial procs last = ModuleUnit (record {
  head = line_at 10 (OfPart (ModuleLine (codes "M")));
  initial = block_of initial;
  procs = procs;
  close = line_at last (OfPart EndModule);
})

-- formals: a scalar, and an array of one dimension
abbrev pub formal : List ℕ → Formal
formal name = FormalName name 0

abbrev pub array_formal : List ℕ → Formal
array_formal name = FormalName name 1

-- an operand as an expression
abbrev pub only : Primary → Expr
only p = sum_of p []

abbrev pub text : List ℕ → Expr
text bytes = only (Quoted bytes)

abbrev pub number : ℕ → Expr
number n = only (whole n)

abbrev pub prints : ℕ → Expr → Stmt
prints l e = does l (Print (record { first = Some (Printed e); rest = [] }))

abbrev pub exprs_of : List Expr → Exprs
exprs_of [] = NoExprs
exprs_of (e ∷ es) = MoreExprs e (exprs_of es)

-- LET of an element
abbrev pub sets_element : ℕ → List ℕ → List Expr → Expr → Stmt
sets_element l name subscripts e = does l (Let (Variable name (exprs_of subscripts) ∷ []) e)

-- DIM of one array
abbrev pub dim : ℕ → List ℕ → List Bound → Stmt
dim l name bounds = declares_at l (Dim (record (plain_item name) { bounds = bounds } ∷ []))

-- DECLARE NUMERIC of one name
abbrev pub declares_number : ℕ → List ℕ → Stmt
declares_number l name = declares_at l (Declare NumericKind (plain_item name ∷ []))

-- a definition, and constructs
abbrev pub definition : ℕ → List ℕ → List Formal → Expr → Stmt
definition l name formals e = Single (line_at l (OfPart (Def name formals e)))

abbrev pub sub : ℕ → List ℕ → List Formal → List Stmt → ℕ → Stmt
sub l name formals stmts last = nest l (Sub name formals) stmts last EndSub

abbrev pub loop : ℕ → List Stmt → ℕ → Stmt
loop l stmts last = nest l (Do None) stmts last (Loop None)

abbrev pub for : ℕ → List ℕ → List Stmt → ℕ → List ℕ → Stmt
for l name stmts last other = nest l (For name (number 1) (number 2) None) stmts last (Next other)

abbrev pub selects : ℕ → Expr → (middle : ℕ) → Case → ℕ → Stmt
selects l e middle case last =
    Nest (MoreSections (line_at l (OfPart (SelectCase e))) (block_of [])
    (MoreSections (line_at middle (OfPart (CaseOf (case ∷ [])))) (block_of []) NoSections))
    (line_at last (OfPart EndSelect))

abbrev pub handled : ℕ → List Stmt → (middle : ℕ) → List Stmt → ℕ → Stmt
handled l stmts middle others last =
    Nest (MoreSections (line_at l (OfPart WhenExceptionIn)) (block_of stmts)
    (MoreSections (line_at middle (OfPart Use)) (block_of others) NoSections))
    (line_at last (OfPart EndWhen))

abbrev pub handler : ℕ → List ℕ → List Stmt → ℕ → Stmt
handler l name stmts last = nest l (Handler name) stmts last EndHandler

-- IF a = b THEN .. END IF
abbrev pub decides : ℕ → Expr → Expr → List Stmt → ℕ → Stmt
decides l a b stmts last = nest l (If (AnyOf (AllOf (Compare a Equal b) NoTests) NoConjs)) stmts last EndIf

abbrev pub constant : ℕ → Const
constant n = ConstNumeral None (record { value = record { coefficient = pos n; scale = 0 }; digits = true })

-- a string's length as its type
abbrev pub sized : ℕ → DeclaredItem → DeclaredItem
sized n item = record item { spec = Some (record { whole = n; fraction = None }) }

-- OPEN #1: NAME "x" with attributes
abbrev pub opens : ℕ → List Attr → Stmt
opens l attrs = does l (Open (record { number = number 1 }) (text (codes "x")) attrs)
