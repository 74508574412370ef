-- Where a line is executed, and what can be executed with fewer lines left.
use Rattle.std.specs.Prelude.{ℕ, suc, Bool, List, Option, nat_lt}
use Rattle.bas_ast.specs.Tree.{NumLine, Stmt, Block}
use Rattle.bas_mean.specs.World.{Variable, Ref, World}
use Rattle.bas_mean.specs.Outcome.{Outcome}

-- the lines of the innermost DO and FOR around a line in the text
pub record Around : Type 0 where
  pub do_line : Option ℕ
  pub for_line : Option ℕ

-- the line that closes a block is a line of the block; it belongs to the construct that a line opens
pub data Closing : Type 0 where
  Bare : Closing
  ClosedBy : (opener : ℕ) (line : NumLine) → Closing

-- a block and the line that closes it
pub record Region : Type 0 where
  pub block : Block
  pub closing : Closing

-- a handler: its block, and the loops around that in the text
pub record Handler : Type 0 where
  pub block : Block
  pub around : Around

-- a run is an invocation of a body, or a GOSUB's
pub data RunKind : Type 0 where
  OfBody : RunKind
  OfGosub : RunKind

-- the handlers around a line in the present run, innermost first; the run; the number of live
-- invocations, GOSUB runs and handler activations; the unit's name; what each variable stands for
pub record Place : Type 0 where
  pub handlers : List Handler
  pub run : RunKind
  pub depth : ℕ
  pub unit : List ℕ
  pub refs : Variable → Ref

-- inside a handler that is started at the place; the handlers after it are its list
abbrev pub in_handler : Place → List Handler → Place
in_handler p behind = record p { handlers = behind; depth = suc p.depth }

-- whether one more would be too deep
unfoldable pub is_full : ℕ → Bool
is_full depth = nat_lt 4095 depth

-- what the words of a line may know of its place
pub record Here : Type 0 where
  pub line : ℕ
  pub unit : List ℕ
  pub around : Around
  pub refs : Variable → Ref

-- what the words of line l know at a place
abbrev pub here_at : Place → Around → ℕ → Here
here_at p around l = record { line = l; unit = p.unit; around = around; refs = p.refs }

-- the meaning with fewer lines left: of a statement, and of the lines of a region from one of them on
pub record Lower : Type 0 where
  pub stmt : Place → Around → Stmt → World → Outcome
  pub lines : Place → Around → Region → Block → World → Outcome
