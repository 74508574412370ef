-- Blocks: where a jump continues, and what a loop does at the end of its block.
use Rattle.std.specs.Prelude.{ℕ, Bool, true, false, Option, Some, None, nat_eq}
use Rattle.bas_ast.specs.Tree.{Block, NoStmts, MoreStmts}
use Rattle.bas_ast.specs.Accessors.{line_of}
use Rattle.bas_mean.specs.World.{World}
use Rattle.bas_mean.specs.Outcome.{Target, LineOf, EndOf, TurnOf, Outcome, Normal, Jumps, takes_none, route}
use Rattle.bas_mean.specs.Place.{Closing, Bare, ClosedBy, Region}

-- a where the test holds, else the option
abbrev pub first_or : {A : Type 0} → Bool → A → Option A → Option A
first_or true a o = Some a
first_or false a o = o

-- the statements of a block from that of line l on
abbrev pub from_line : ℕ → Block → Option Block
from_line l NoStmts = None
from_line l (MoreStmts s rest) = first_or (nat_eq l (line_of s)) (MoreStmts s rest) (from_line l rest)

-- a block's closing line comes after its statements
abbrev pub at_closing : ℕ → Closing → Option Block
at_closing l Bare = None
at_closing l (ClosedBy opener line) = first_or (nat_eq l line.line) NoStmts None

-- the first option that is there
abbrev pub or_at : Option Block → Option Block → Option Block
or_at (Some b) o = Some b
or_at None o = o

-- where a jump continues in a region, if it goes to a line of it
abbrev pub landing : Target → Region → Option Block
landing (LineOf l) r = or_at (from_line l r.block) (at_closing l r.closing)
landing (EndOf l) r = None
landing (TurnOf l) r = None

-- continues within the region, or jumps outwards
abbrev pub jump_within : Option Block → Target → (Block → World → Outcome) → World → Outcome
jump_within None target go w = Jumps target w
jump_within (Some rest) target go w = go rest w

-- after a line of a region: its next line, or the one that a jump names, or outwards
abbrev pub next_line : Region → (go : Block → World → Outcome) → (rest : World → Outcome) → Outcome → Outcome
next_line r go rest = route (record takes_none { normal = rest; jumps = λ target w. jump_within (landing target r) target go w })

-- what a jump is for the loop that a line opens
pub data Hit : Type 0 where
  Past : Hit
  Round : Hit
  Elsewhere : Hit

-- a hit where the test holds
abbrev pub hit_if : Bool → Hit → Hit
hit_if true h = h
hit_if false h = Elsewhere

-- whether a jump goes past the end of the loop of line l, or to its next iteration
abbrev pub hit : Target → ℕ → Hit
hit (LineOf m) l = Elsewhere
hit (EndOf m) l = hit_if (nat_eq m l) Past
hit (TurnOf m) l = hit_if (nat_eq m l) Round

-- a jump at the end of a loop's block
abbrev pub loop_jump : Hit → Target → (round : World → Outcome) → World → Outcome
loop_jump Past target round w = Normal w
loop_jump Round target round w = round w
loop_jump Elsewhere target round w = Jumps target w

-- after the block of the loop that line l opens: `normal` after its last line, `round` for the next iteration
abbrev pub loop_end : ℕ → (normal round : World → Outcome) → Outcome → Outcome
loop_end l normal round = route (record takes_none { normal = normal; jumps = λ target w. loop_jump (hit target l) target round w })
