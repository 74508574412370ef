-- The units of a file, line by line: what is open behind each line, and the first line that no nesting takes.
use Rattle.std.specs.Prelude.{◌≡◌, ℕ, nat_lt, Bool, true, false, ◌&&◌, if◌then◌else◌, List, [], ◌∷◌, ◌++◌, length, Option, Some, None, Result, Ok, Err}
use Rattle.bas_ast.specs.Tree.{LineItem, NumLine, Stmt, Single, Nest, Block, Program, Procedure, Module, SourceUnit, ProgramUnit, ProcedureUnit, ModuleUnit}
use Rattle.bas_ast.specs.BlockTree.{sections_of, stmts_of}
use Rattle.bas_nest.specs.Constructs.{role_of, program_name, opens, divides, closes, may_open, may_stand, is_left_out, inside, is_remark, begins_procedure, closes_procedure}
use Rattle.bas_nest.specs.Units.{main_name}
use Rattle.bas_nest.specs.declared.TheConstants.{OPEN_BLOCKS}
use Rattle.bas_nest.specs.declared.construct.Construct.{Construct}
use Rattle.bas_nest.specs.declared.construct.Construct.TheVariants as section
use Rattle.bas_nest.specs.declared.construct.Around.{Around}
use Rattle.bas_nest.specs.declared.construct.Around.TheVariants as stands
use Rattle.bas_nest.specs.declared.construct.Role.{Role}
use Rattle.bas_nest.specs.declared.construct.Role.TheVariants as role

-- an open construct: the sections in front of its open one, the line of the open one, and what stands in it so far
pub record Level : Type 0 where
  pub construct : Construct
  pub sections : List (NumLine × Block)
  pub head : NumLine
  pub stmts : List Stmt

-- what the open body is the body of: a program, with the number of its first line, a procedure of its own, a module's initial part, or a
-- procedure of a module
pub data Owner : Type 0 where
  OfProgram : (name : List ℕ) (head : Option NumLine) (first : ℕ) → Owner
  OfProcedure : (head : NumLine) → Owner
  OfInitial : (head : NumLine) → Owner
  OfMember : (part : NumLine) (initial : Block) (procs : List Procedure) (head : NumLine) → Owner

-- what is open behind the lines so far: nothing, with the remarks that wait for the next unit; a body, with
-- its top statements so far and the open constructs, innermost first; or a module behind one of its procedures
pub data Open : Type 0 where
  Outside : (waiting : List NumLine) → Open
  Within : (owner : Owner) (stmts : List Stmt) (levels : List Level) → Open
  Between : (part : NumLine) (initial : Block) (procs : List Procedure) → Open

-- the units so far, and what is open
pub record Reading : Type 0 where
  pub units : List SourceUnit
  pub opened : Open

-- where the top lines of a body stand
abbrev pub around_owner : Owner → Around
around_owner (OfProgram name head first) = stands.Unit
around_owner (OfProcedure head) = stands.Unit
around_owner (OfInitial head) = stands.Block
around_owner (OfMember part initial procs head) = stands.Unit

-- where the next line stands
abbrev pub around : Owner → List Level → Around
around owner [] = around_owner owner
around owner (level ∷ levels) = inside level.construct

-- statements in order as a block
abbrev pub block_of : List Stmt → Block
block_of stmts = stmts_of stmts

-- a construct with one more statement in its open section
abbrev pub level_with : Level → Stmt → Level
level_with level stmt = record level { stmts = level.stmts ++ stmt ∷ [] }

-- a statement at the end of the innermost open list of statements
abbrev pub with_stmt : Owner → List Stmt → List Level → Stmt → Open
with_stmt owner stmts [] stmt = Within owner (stmts ++ stmt ∷ []) []
with_stmt owner stmts (level ∷ levels) stmt = Within owner stmts (level_with level stmt ∷ levels)

-- the sections of a construct, its open one among them
abbrev pub all_sections : Level → List (NumLine × Block)
all_sections level = level.sections ++ (level.head, block_of level.stmts) ∷ []

-- remarks as the first statements of a program
abbrev pub waited : List NumLine → List Stmt
waited [] = []
waited (line ∷ lines) = Single line ∷ waited lines

-- the number of the first of some lines, and of one behind them
abbrev pub first_of_waiting : List NumLine → NumLine → ℕ
first_of_waiting [] line = line.line
first_of_waiting (first ∷ waiting) line = first.line

abbrev pub reading : List SourceUnit → Open → Reading
reading units opened = record { units = units; opened = opened }

-- a unit that is whole, behind those before it
abbrev pub with_unit : List SourceUnit → SourceUnit → Reading
with_unit units unit = reading (units ++ unit ∷ []) (Outside [])

abbrev pub module_of : NumLine → Block → List Procedure → NumLine → Module
module_of part initial procs line = record { head = part; initial = initial; procs = procs; close = line }

-- a procedure of a module begins with a line
abbrev pub member : NumLine → Block → List Procedure → NumLine → Open
member part initial procs head = Within (OfMember part initial procs head) [] []

-- END MODULE
abbrev pub ends_module : List SourceUnit → NumLine → Block → List Procedure → NumLine → Role → Option Reading
ends_module units part initial procs line role.EndsModule = Some (with_unit units (ModuleUnit (module_of part initial procs line)))
ends_module units part initial procs line _ = None

-- a line behind a procedure of a module, or behind its initial part
abbrev pub in_module : List SourceUnit → NumLine → Block → List Procedure → NumLine → Option Reading
in_module units part initial procs line =
    if begins_procedure (role_of line.item) then Some (reading units (member part initial procs line)) else ends_module units part initial procs line (role_of line.item)

-- END behind the body of a program
abbrev pub ends_program : List SourceUnit → List ℕ → Option NumLine → Block → NumLine → Role → Option Reading
ends_program units name head body line role.EndsProgram = Some (with_unit units (ProgramUnit (record { name = name; head = head; body = body; close = line })))
ends_program units name head body line _ = None

-- END SUB or END FUNCTION behind the body of a procedure of its own
abbrev pub ends_procedure : List SourceUnit → NumLine → Block → NumLine → Option Reading
ends_procedure units head body line =
    if closes_procedure (role_of head.item) (role_of line.item) then Some (with_unit units (ProcedureUnit (record { head = head; body = body; close = line }))) else None

-- the same behind the body of a module's procedure
abbrev pub ends_member : List SourceUnit → NumLine → Block → List Procedure → NumLine → Block → NumLine → Option Reading
ends_member units part initial procs head body line =
    if closes_procedure (role_of head.item) (role_of line.item) then Some (reading units (Between part initial (procs ++ record { head = head; body = body; close = line } ∷ []))) else None

-- a line that ends a body
abbrev pub ends_body : List SourceUnit → Owner → Block → NumLine → Option Reading
ends_body units (OfProgram name head first) body line = ends_program units name head body line (role_of line.item)
ends_body units (OfProcedure head) body line = ends_procedure units head body line
ends_body units (OfInitial head) body line = in_module units head body [] line
ends_body units (OfMember part initial procs head) body line = ends_member units part initial procs head body line

-- a construct begins with a line
abbrev pub opened_construct : Owner → List Stmt → List Level → Construct → NumLine → Open
opened_construct owner stmts levels c line = Within owner stmts (record { construct = c; sections = []; head = line; stmts = [] } ∷ levels)

-- a construct with another section, which a line begins
abbrev pub next_section : Level → Construct → NumLine → Level
next_section level c line = record { construct = c; sections = all_sections level; head = line; stmts = [] }

-- a construct goes on with a section that begins with a line
abbrev pub divided_construct : Owner → List Stmt → Level → List Level → Construct → NumLine → Open
divided_construct owner stmts level levels c line = Within owner stmts (next_section level c line ∷ levels)

-- a construct ends with a line
abbrev pub closed_construct : Owner → List Stmt → Level → List Level → NumLine → Open
closed_construct owner stmts level levels line = with_stmt owner stmts levels (Nest (sections_of (all_sections level)) line)

-- a line that divides or closes the innermost construct
abbrev pub in_construct : List SourceUnit → Owner → List Stmt → Level → List Level → NumLine → Option Construct → Option Reading
in_construct units owner stmts level levels line (Some c) =
    Some (reading units (divided_construct owner stmts level levels c line))
in_construct units owner stmts level levels line None =
    if closes level.construct (role_of line.item) then Some (reading units (closed_construct owner stmts level levels line)) else None

-- a line that opens nothing and does not stand alone
abbrev pub turns : List SourceUnit → Owner → List Stmt → List Level → NumLine → Option Reading
turns units owner stmts [] line = ends_body units owner (block_of stmts) line
turns units owner stmts (level ∷ levels) line = in_construct units owner stmts level levels line (divides level.construct (role_of line.item))

-- a line that does not stand alone, by the construct that it opens
abbrev pub nests : List SourceUnit → Owner → List Stmt → List Level → NumLine → Option Construct → Option Reading
nests units owner stmts levels line (Some c) =
    if may_open (around owner levels) c && nat_lt (length levels) OPEN_BLOCKS
    then Some (reading units (opened_construct owner stmts levels c line))
    else None
nests units owner stmts levels line None = turns units owner stmts levels line

-- a line of an open body
abbrev pub in_body : List SourceUnit → Owner → List Stmt → List Level → NumLine → Option Reading
in_body units owner stmts levels line =
    if is_left_out (around owner levels) (role_of line.item) then Some (reading units (Within owner stmts levels))
    else if may_stand (around owner levels) (role_of line.item) then Some (reading units (with_stmt owner stmts levels (Single line)))
    else nests units owner stmts levels line (opens (role_of line.item))

-- a body begins in which nothing stands yet
abbrev pub began : List SourceUnit → Owner → Reading
began units owner = reading units (Within owner [] [])

-- a line begins a program that has no PROGRAM line; the remarks that wait are its first lines
abbrev pub begins_main : List SourceUnit → List NumLine → NumLine → Option Reading
begins_main units waiting line = in_body units (OfProgram main_name None (first_of_waiting waiting line)) (waited waiting) [] line

-- a PROGRAM line, by the name that it gives
abbrev pub begins_program : List SourceUnit → NumLine → Option (List ℕ) → Option Reading
begins_program units line (Some name) = Some (began units (OfProgram name (Some line) line.line))
begins_program units line None = None

-- the first line of a unit; the remarks that wait belong to a program without PROGRAM alone
abbrev pub begins_unit : List SourceUnit → List NumLine → NumLine → Role → Option Reading
begins_unit units waiting line role.BeginsProgram = begins_program units line (program_name line.item)
begins_unit units waiting line role.BeginsSub = Some (began units (OfProcedure line))
begins_unit units waiting line role.BeginsFunction = Some (began units (OfProcedure line))
begins_unit units waiting line role.BeginsModule = Some (began units (OfInitial line))
begins_unit units waiting line _ = begins_main units waiting line

-- a line where nothing is open
abbrev pub outside : List SourceUnit → List NumLine → NumLine → Option Reading
outside units waiting line =
    if is_remark (role_of line.item) then Some (reading units (Outside (waiting ++ line ∷ []))) else begins_unit units waiting line (role_of line.item)

-- a line behind a procedure of a module, where remarks are left out
abbrev pub between : List SourceUnit → NumLine → Block → List Procedure → NumLine → Option Reading
between units part initial procs line =
    if is_remark (role_of line.item) then Some (reading units (Between part initial procs)) else in_module units part initial procs line

-- a line, by what is open before it
abbrev pub at_open : List SourceUnit → Open → NumLine → Option Reading
at_open units (Outside waiting) line = outside units waiting line
at_open units (Within owner stmts levels) line = in_body units owner stmts levels line
at_open units (Between part initial procs) line = between units part initial procs line

-- what is read behind one more line, or nothing where no nesting takes the line
abbrev pub line_read : Reading → NumLine → Option Reading
line_read r line = at_open r.units r.opened line

abbrev pub read_on : Option Reading → ℕ → (Reading → Result Reading ℕ) → Result Reading ℕ
read_on None number go = Err number
read_on (Some r) number go = go r

-- what is read behind some lines, or the number of the first line that no nesting takes
unfoldable pub read : Reading → List NumLine → Result Reading ℕ
read r [] = Ok r
read r (line ∷ lines) = read_on (line_read r line) line.line (λ r1. read r1 lines)

-- before the first line
abbrev pub nothing_read : Reading
nothing_read = reading [] (Outside [])

-- the line that opened a construct
abbrev pub opener : List (NumLine × Block) → NumLine → ℕ
opener [] head = head.line
opener (section ∷ sections) head = section.0.line

-- the first line of what a body belongs to
abbrev pub first_line : Owner → ℕ
first_line (OfProgram name head first) = first
first_line (OfProcedure head) = head.line
first_line (OfInitial head) = head.line
first_line (OfMember part initial procs head) = head.line

abbrev pub innermost : Owner → List Level → ℕ
innermost owner [] = first_line owner
innermost owner (level ∷ levels) = opener level.sections level.head

-- the line that opened the innermost of what is open, if anything is
abbrev pub unclosed : Open → Option ℕ
unclosed (Outside waiting) = None
unclosed (Within owner stmts levels) = Some (innermost owner levels)
unclosed (Between part initial procs) = Some part.line
