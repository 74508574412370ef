-- Which exceptions can stop a program, and at which of its lines.
use Rattle.std.specs.Prelude.{◌≡◌, ℕ, true, ◌⊎◌, List, [], ◌∷◌, Contains, Some}
use Rattle.bas_ast.specs.Tree.{Stmt, Single, Nest, Sections, NoSections, MoreSections, Block, NoStmts, MoreStmts, Program, SourceUnit}
use Rattle.bas_mean.specs.World.{Seen}
use Rattle.bas_mean.specs.Outcome.{Exception, Stopped}
use Rattle.bas_mean.specs.Meaning.{first_program, mean}
use Rattle.bas_mean.specs.Built.{are_built}

-- the exceptions that can stop a program
abbrev pub raised_numbers : List ℕ
raised_numbers =
    1002  -- overflow
    ∷ 3001  -- division by zero
    ∷ 3003  -- zero to a power below zero
    ∷ 3010  -- exponent with a fraction
    ∷ []

abbrev mutual
  -- l is the line of a statement that stands alone, or a line of a construct
  pub StmtHas : Stmt → (l : ℕ) → Type 0
  StmtHas (Single line) l = l ≡ line.line
  StmtHas (Nest sections close) l = SectionsHave sections l ⊎ (l ≡ close.line)

  -- l is the line of a section, or stands in its block
  pub SectionsHave : Sections → (l : ℕ) → Type 0
  SectionsHave NoSections l = ⊥
  SectionsHave (MoreSections head body rest) l = (l ≡ head.line) ⊎ (BlockHas body l ⊎ SectionsHave rest l)

  -- l is a line of one of the statements
  pub BlockHas : Block → (l : ℕ) → Type 0
  BlockHas NoStmts l = ⊥
  BlockHas (MoreStmts s rest) l = StmtHas s l ⊎ BlockHas rest l

-- l is a line of the program's body, at whatever depth, or its END
abbrev pub HasLine : Program → (l : ℕ) → Type 0
HasLine p l = BlockHas p.body l ⊎ (l ≡ p.close.line)

-- what a program can raise: an exception of the table, at a line of its own
pub record MayRaise (p : Program) (x : Exception) : Type 0 where
  pub number : Contains raised_numbers x.number
  pub unit : x.unit ≡ p.name
  pub line : HasLine p x.line

-- whatever the number of lines and the input, what stops units is what their first program can raise
abbrev pub StopsAreKnown : Type 0
StopsAreKnown = (units : List SourceUnit) (n : ℕ) (input : List ℕ) (x : Exception) (seen : Seen) → mean units n input ≡ Stopped x seen →
    (p : Program) × (first_program units ≡ Some p) × MayRaise p x

-- some units, with built constructs alone, are stopped by the exception of that number
pub record CanCome (number : ℕ) : Type 0 where
  pub units : List SourceUnit
  pub built : are_built units ≡ true
  pub lines : ℕ
  pub exception : Exception
  pub seen : Seen
  pub stops : mean units lines [] ≡ Stopped exception seen
  pub numbered : exception.number ≡ number

-- each exception of the table can come
abbrev pub EachCanCome : Type 0
EachCanCome = (number : ℕ) → Contains raised_numbers number → CanCome number
