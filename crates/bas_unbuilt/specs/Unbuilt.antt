-- The first line of a file that has a construct which is not built.
use Rattle.std.specs.Prelude.{◌≡◌, ℕ, Bool, true, false, ◌&&◌, List, [], ◌∷◌, Option, Some, None}
use Rattle.bas_ast.specs.Tree.{If, Elseif, Else, Do, LineItem, OfPart, NumLine, Stmt, Single, Nest, Sections, NoSections, MoreSections, Block, NoStmts, MoreStmts, Program, SourceUnit, ProgramUnit, ProcedureUnit, ModuleUnit}
use Rattle.bas_ast.specs.Accessors.{line_of}
use Rattle.bas_mean.specs.Built.{is_built_cond, is_built_loopc, is_built_single, is_built_loop, is_end_if, is_end, is_built_program_line, are_built}

-- a line that opens a section
abbrev pub is_built_head : LineItem → Bool
is_built_head (OfPart (If c)) = is_built_cond c
is_built_head (OfPart (Elseif c)) = is_built_cond c
is_built_head (OfPart Else) = true
is_built_head (OfPart (Do loopc)) = is_built_loopc loopc
is_built_head _ = false

-- the line that closes a construct with such a section
abbrev pub is_built_close : (head : LineItem) → (close : LineItem) → Bool
is_built_close (OfPart (Do loopc)) close = is_built_loop close
is_built_close _ close = is_end_if close

-- the same for each section
abbrev pub are_closed : Sections → (close : LineItem) → Bool
are_closed NoSections close = true
are_closed (MoreSections head body rest) close = is_built_close head.item close && are_closed rest close

-- the first answer, else the second
abbrev pub first_found : Option ℕ → Option ℕ → Option ℕ
first_found (Some line) other = Some line
first_found None other = other

-- a line, where it is not built
abbrev pub unless_built : Bool → (line : ℕ) → Option ℕ
unless_built true line = None
unless_built false line = Some line

abbrev mutual
  -- a line alone, or the sections of a construct and the line that closes it
  pub unbuilt_in_stmt : Stmt → Option ℕ
  unbuilt_in_stmt (Single head) = unless_built (is_built_single head.item) head.line
  unbuilt_in_stmt (Nest sections close) =
      first_found (unbuilt_in_sections sections) (unless_built (are_closed sections close.item) close.line)

  -- the line of a section, then its block, then the next sections
  pub unbuilt_in_sections : Sections → Option ℕ
  unbuilt_in_sections NoSections = None
  unbuilt_in_sections (MoreSections head body rest) =
      first_found (first_found (unless_built (is_built_head head.item) head.line) (unbuilt_in_block body)) (unbuilt_in_sections rest)

  -- the statements of a block in order
  pub unbuilt_in_block : Block → Option ℕ
  unbuilt_in_block NoStmts = None
  unbuilt_in_block (MoreStmts s rest) = first_found (unbuilt_in_stmt s) (unbuilt_in_block rest)

-- a section: its line, then its block
abbrev pub unbuilt_in_section : NumLine × Block → Option ℕ
unbuilt_in_section x = first_found (unless_built (is_built_head x.0.item) x.0.line) (unbuilt_in_block x.1)

-- the PROGRAM line, where it is written
abbrev pub line_of_head : Option NumLine → Option ℕ
line_of_head None = None
line_of_head (Some head) = Some head.line

-- the first line of a block
abbrev pub line_of_block : Block → Option ℕ
line_of_block NoStmts = None
line_of_block (MoreStmts s rest) = Some (line_of s)

-- the PROGRAM line, where it is written and not built
abbrev pub unbuilt_in_head : Option NumLine → Option ℕ
unbuilt_in_head None = None
unbuilt_in_head (Some head) = unless_built (is_built_program_line head.item) head.line

-- a program: its PROGRAM line, its statements, and END
abbrev pub unbuilt_in_program : Program → Option ℕ
unbuilt_in_program p =
    first_found (unbuilt_in_head p.head) (first_found (unbuilt_in_block p.body) (unless_built (is_end p.close.item) p.close.line))

-- a procedure and a module are not built from their first line on
abbrev pub unbuilt_in_unit : SourceUnit → Option ℕ
unbuilt_in_unit (ProgramUnit p) = unbuilt_in_program p
unbuilt_in_unit (ProcedureUnit p) = Some p.head.line
unbuilt_in_unit (ModuleUnit m) = Some m.head.line

-- the first line of a program
abbrev pub line_of_program : Program → Option ℕ
line_of_program p = first_found (line_of_head p.head) (first_found (line_of_block p.body) (Some p.close.line))

-- the first line of a unit
abbrev pub line_of_unit : SourceUnit → Option ℕ
line_of_unit (ProgramUnit p) = line_of_program p
line_of_unit (ProcedureUnit p) = Some p.head.line
line_of_unit (ModuleUnit m) = Some m.head.line

-- no unit behind the first is built
abbrev pub line_of_next : List SourceUnit → Option ℕ
line_of_next [] = None
line_of_next (u ∷ rest) = line_of_unit u

-- the first line of a file that has a construct which is not built
abbrev pub unbuilt_line : List SourceUnit → Option ℕ
unbuilt_line [] = None
unbuilt_line (u ∷ rest) = first_found (unbuilt_in_unit u) (line_of_next rest)

-- a file of one or more units has no such line exactly where it is built
pub record TellsBuilt : Type 0 where
  pub none : (u : SourceUnit) (rest : List SourceUnit) → unbuilt_line (u ∷ rest) ≡ None → are_built (u ∷ rest) ≡ true
  pub built : (u : SourceUnit) (rest : List SourceUnit) → are_built (u ∷ rest) ≡ true → unbuilt_line (u ∷ rest) ≡ None
