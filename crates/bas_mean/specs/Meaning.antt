-- The meaning of statements, blocks and programs, by recursion on the lines left and then on the trees.
use Rattle.std.specs.Prelude.{ℕ, zero, suc, List, [], ◌∷◌, Option, Some, None}
use Rattle.bas_ast.specs.Tree.{NumLine, Stmt, Single, Nest, Sections, NoSections, MoreSections, Block, NoStmts, MoreStmts, Program, SourceUnit, ProgramUnit, ProcedureUnit, ModuleUnit}
use Rattle.bas_mean.specs.World.{Variable, Ref, World, seen, with_cells, with_fresh, first_world}
use Rattle.bas_mean.specs.Outcome.{RunEnd, Ended, Stopped, GoesOn, Lost, Raised, Halted, Finished, Chained, Beyond, Undefined, Outcome, Normal, Jumps, Leaves, Away, Retries, Continues, PassesOn, Returns, Ends}
use Rattle.bas_mean.specs.Place.{Around, ClosedBy, Region, OfBody, Place, Lower}
use Rattle.bas_mean.specs.Block.{next_line}
use Rattle.bas_mean.specs.Construct.{not_built, section, closing_line, single}

abbrev mutual
  -- a line alone, or a construct from its first section on
  pub stmt : Lower → Place → Around → Stmt → World → Outcome
  stmt low p around (Single head) w = single low p around head (Single head) w
  stmt low p around (Nest sections close) w = sections_from low p around sections close w

  -- the sections of a construct from some of them on
  pub sections_from : Lower → Place → Around → Sections → (close : NumLine) → World → Outcome
  sections_from low p around NoSections close w = Normal w
  sections_from low p around (MoreSections head body rest) close w =
      section low p around head close (Nest (MoreSections head body rest) close)
      (λ inner closing w1. lines low p inner (record { block = body; closing = closing }) body w1)
      (λ w1. sections_from low p around rest close w1)
      w

  -- the lines of a region from some of them on
  pub lines : Lower → Place → Around → Region → Block → World → Outcome
  lines low p around r NoStmts w = closing_line low p around r w
  lines low p around r (MoreStmts s rest) w =
      next_line r (low.lines p around r) (λ w1. lines low p around r rest w1) (stmt low p around s w)

-- with n levels whatever takes fewer than n lines is whole
unfoldable pub level : ℕ → Lower
level zero = record { stmt = λ p around s w. Ends Beyond w; lines = λ p around r rest w. Ends Beyond w }
level (suc n) = record {
  stmt = λ p around s w. stmt (level n) p around s w;
  lines = λ p around r rest w. lines (level n) p around r rest w;
}

-- the variables of a program's invocation are its own
abbrev pub own_refs : ℕ → Variable → Ref
own_refs invocation x = record { invocation = invocation; variable = x }

-- END is the last line of a program's block
abbrev pub program_region : Program → Region
program_region p = record { block = p.body; closing = ClosedBy 0 p.close }

-- no loop stands around the top of a body
abbrev pub outermost : Around
outermost = record { do_line = None; for_line = None }

-- a program's own invocation is the first one
abbrev pub program_place : Program → Place
program_place p = record { handlers = []; run = OfBody; depth = 1; unit = p.name; refs = own_refs 1 }

-- a program's run from a world: its invocation begins with fresh cells
abbrev pub run_program : Program → World → Outcome
run_program p w = lines (level w.left) (program_place p) outermost (program_region p) p.body (with_cells (with_fresh 1 w.cells) w)

-- the first program of a list of units
abbrev pub first_program : List SourceUnit → Option Program
first_program [] = None
first_program (ProgramUnit p ∷ units) = Some p
first_program (ProcedureUnit p ∷ units) = first_program units
first_program (ModuleUnit m ∷ units) = first_program units

-- a list of units without a program has no meaning
abbrev pub run_first : Option Program → World → Outcome
run_first None w = not_built w
run_first (Some p) w = run_program p w

-- how a run ends with an outcome of its program
abbrev pub end_of : Outcome → RunEnd
end_of (Normal w) = Ended (seen w)
end_of (Ends (Raised x) w) = Stopped x (seen w)
end_of (Ends Halted w) = Ended (seen w)
end_of (Ends Finished w) = Ended (seen w)
end_of (Ends (Chained program values) w) = Lost
end_of (Ends Beyond w) = GoesOn (seen w)
end_of (Ends Undefined w) = Lost
end_of (Jumps target w) = Lost
end_of (Leaves k w) = Lost
end_of (Away k target w) = Lost
end_of (Retries w) = Lost
end_of (Continues w) = Lost
end_of (PassesOn w) = Lost
end_of (Returns w) = Lost

-- what a list of units means for n lines, with that input
unfoldable pub mean : List SourceUnit → (n : ℕ) → (input : List ℕ) → RunEnd
mean units n input = end_of (run_first (first_program units) (first_world n input))
