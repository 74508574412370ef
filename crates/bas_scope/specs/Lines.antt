-- The lines of a body and of a unit, in the order of the text.
use Rattle.std.specs.Prelude.{Bool, true, false, ◌&&◌, not, if◌then◌else◌, List, [], ◌∷◌, ◌++◌}
use Rattle.std.specs.Option.{option_to_list}
use Rattle.bas_ast.specs.Tree.{LineItem, OfPart, Sub, Function, NumLine, Stmt, Single, Nest, Sections, NoSections, MoreSections, Block, NoStmts, MoreStmts, Procedure, SourceUnit, ProgramUnit, ProcedureUnit, ModuleUnit}

-- what a function gives of each item, in a row
abbrev pub gathered : {X Y : Type 0} → (X → List Y) → List X → List Y
gathered f [] = []
gathered f (x ∷ xs) = f x ++ gathered f xs

-- the first line of an internal procedure with lines of its own
abbrev pub opens_procedure : LineItem → Bool
opens_procedure (OfPart (Sub name formals)) = true
opens_procedure (OfPart (Function name formals)) = true
opens_procedure _ = false

-- the lines of a text in order, with those inside of its internal procedures where `inside` is set
abbrev mutual
  pub lines_of_stmt : (inside : Bool) → Stmt → List NumLine
  lines_of_stmt inside (Single line) = line ∷ []
  lines_of_stmt inside (Nest sections close) = lines_of_sections inside sections close

  -- of an internal procedure that is left out the first line stays, which is a line of the body around it
  pub lines_of_sections : (inside : Bool) → Sections → (close : NumLine) → List NumLine
  lines_of_sections inside NoSections close = close ∷ []
  lines_of_sections inside (MoreSections head body rest) close =
      if opens_procedure head.item && not inside then head ∷ []
      else head ∷ (lines_of_block inside body ++ lines_of_sections inside rest close)

  pub lines_of_block : (inside : Bool) → Block → List NumLine
  lines_of_block inside NoStmts = []
  lines_of_block inside (MoreStmts stmt rest) = lines_of_stmt inside stmt ++ lines_of_block inside rest

-- the lines of a body, without those inside of its internal procedures
abbrev pub own_lines : Block → List NumLine
own_lines = lines_of_block false

-- the lines of an external procedure
abbrev pub procedure_lines : Procedure → List NumLine
procedure_lines p = p.head ∷ (lines_of_block true p.body ++ p.close ∷ [])

-- every line of a unit
abbrev pub unit_lines : SourceUnit → List NumLine
unit_lines (ProgramUnit p) = option_to_list p.head ++ (lines_of_block true p.body ++ p.close ∷ [])
unit_lines (ProcedureUnit p) = procedure_lines p
unit_lines (ModuleUnit m) = m.head ∷ (lines_of_block true m.initial ++ (gathered procedure_lines m.procs ++ m.close ∷ []))
