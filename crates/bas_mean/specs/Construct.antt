-- The rows of the constructs: what a section does, and what a line does that closes a block.
use Rattle.std.specs.Prelude.{ℕ, Bool, true, false, not, Option, Some, None}
use Rattle.bas_ast.specs.Tree.{Cond, Loopc, While, Until, If, Elseif, Else, Do, Loop, End, LineItem, Nothing, Rem, OfSimple, OfPart, NumLine, Simple, Stmt, NoStmts}
use Rattle.bas_mean.specs.World.{World}
use Rattle.bas_mean.specs.Outcome.{Evaluated, Gives, then_with, EndOf, Onward, Halt, Undefined, Outcome, Normal, Jumps, Ends, follow}
use Rattle.bas_mean.specs.Place.{Around, Closing, Bare, ClosedBy, Region, Place, Here, here_at, Lower}
use Rattle.bas_mean.specs.Condition.{holds}
use Rattle.bas_mean.specs.Line.{line}
use Rattle.bas_mean.specs.Simple.{simple_words}
use Rattle.bas_mean.specs.Block.{loop_end}

-- nothing is claimed of a construct that is not built
abbrev pub not_built : World → Outcome
not_built w = Ends Undefined w

-- one way where a condition holds, another where it does not
abbrev pub decided : Bool → (held failed : World → Outcome) → World → Outcome
decided true held failed w = held w
decided false held failed w = failed w

-- the meaning of a section's block, at a place, with the loops around it and the line that closes it
abbrev pub BlockMeaning : Type 0
BlockMeaning = Around → Closing → World → Outcome

-- a simple line
abbrev pub simple_line : Lower → Place → Around → (l : ℕ) → Simple → Stmt → World → Outcome
simple_line low p around l s whole w = line low p l (low.stmt p around whole) Normal (simple_words (here_at p around l) s) follow w

-- a remark or an empty line takes a line, and does nothing
abbrev pub remark_line : Lower → Place → Around → (l : ℕ) → Stmt → World → Outcome
remark_line low p around l whole w = line low p l (low.stmt p around whole) Normal (Gives Onward) follow w

-- whether WHILE or UNTIL continues the loop; without either it continues
abbrev pub goes_round : Here → Option Loopc → World → Evaluated Bool
goes_round here None w = Gives true w
goes_round here (Some (While c)) w = holds here c w
goes_round here (Some (Until c)) w = then_with (holds here c w) (λ b w1. Gives (not b) w1)

-- IF and ELSEIF: the block, or the sections after it
abbrev pub if_section : Lower → Place → Around → (l : ℕ) → Cond → Stmt → BlockMeaning → (rest : World → Outcome) → World → Outcome
if_section low p around l c whole block rest w =
    line low p l (low.stmt p around whole) Normal (holds (here_at p around l) c) (λ b w1. decided b (block around Bare) rest w1) w

-- inside the DO that line l opens
abbrev pub in_do : ℕ → Around → Around
in_do l around = record around { do_line = Some l }

-- DO: an iteration of the block and the LOOP line, and the DO line again
abbrev pub do_section : Lower → Place → Around → (l : ℕ) → Option Loopc → (close : NumLine) → Stmt → BlockMeaning → World → Outcome
do_section low p around l loopc close whole block w =
    line low p l (low.stmt p around whole) Normal (goes_round (here_at p around l) loopc)
    (λ b w1. decided b (λ w2. loop_end l (low.stmt p around whole) (low.stmt p around whole) (block (in_do l around) (ClosedBy l close) w2)) Normal w1) w

-- what the line of a section does, with its block and the sections after it
abbrev pub section : Lower → Place → Around → NumLine → (close : NumLine) → Stmt → BlockMeaning → (rest : World → Outcome) → World → Outcome
section low p around head close whole block rest = section_of head.item
  where
    section_of : LineItem → World → Outcome
    section_of (OfPart (If c)) w = if_section low p around head.line c whole block rest w
    section_of (OfPart (Elseif c)) w = if_section low p around head.line c whole block rest w
    section_of (OfPart Else) w = block around Bare w
    section_of (OfPart (Do loopc)) w = do_section low p around head.line loopc close whole block w
    section_of _ w = not_built w

-- LOOP: the next iteration, or out of the loop
abbrev pub loop_line : Lower → Place → Around → Region → (opener l : ℕ) → Option Loopc → World → Outcome
loop_line low p around r opener l loopc w =
    line low p l (low.lines p around r NoStmts) (Jumps (EndOf opener)) (goes_round (here_at p around l) loopc) (λ b w1. decided b Normal (Jumps (EndOf opener)) w1) w

-- END of a program ends the whole run
abbrev pub end_line : Lower → Place → Around → Region → (l : ℕ) → World → Outcome
end_line low p around r l w = line low p l (low.lines p around r NoStmts) Normal (Gives Halt) follow w

-- the end of a region's statements: the line that closes it
abbrev pub closing_line : Lower → Place → Around → Region → World → Outcome
closing_line low p around r = closing_of r.closing
  where
    item_of : (opener l : ℕ) → LineItem → World → Outcome
    item_of opener l (OfPart (Loop loopc)) w = loop_line low p around r opener l loopc w
    item_of opener l (OfPart End) w = end_line low p around r l w
    item_of opener l _ w = not_built w

    closing_of : Closing → World → Outcome
    closing_of Bare w = Normal w
    closing_of (ClosedBy opener close) w = item_of opener close.line close.item w

-- a line alone
abbrev pub single : Lower → Place → Around → NumLine → Stmt → World → Outcome
single low p around head whole = item_of head.item
  where
    item_of : LineItem → World → Outcome
    item_of Nothing w = remark_line low p around head.line whole w
    item_of (Rem bytes) w = remark_line low p around head.line whole w
    item_of (OfSimple s) w = simple_line low p around head.line s whole w
    item_of _ w = not_built w
