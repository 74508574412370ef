-- Where jumps may go: to a line of the same or an enclosing block, and out of a DO around them.
use Rattle.std.specs.Prelude.{ℕ, Bool, true, false, ◌&&◌, ◌||◌, Option, Some, None, is_some}
use Rattle.bas_ast.specs.Tree.{Plain, Goto, ExitDo, Alone, Do, LineItem, OfSimple, OfPart, NumLine, Stmt, Single, Nest, Sections, NoSections, MoreSections, Block, NoStmts, MoreStmts, Program}
use Rattle.bas_mean.specs.Outcome.{Target, LineOf, EndOf}
use Rattle.bas_mean.specs.Place.{Around, Closing, Bare, ClosedBy, Region}
use Rattle.bas_mean.specs.Block.{landing, Hit, Past, Round, Elsewhere, hit}
use Rattle.bas_mean.specs.Construct.{in_do}
use Rattle.bas_mean.specs.Meaning.{outermost, program_region}

-- a target may be reached from within a region where it is a line of that, or may be reached outside
abbrev pub near_in : Region → (Target → Bool) → Target → Bool
near_in r near t = is_some (landing t r) || near t

-- whether a jump goes to the loop
abbrev pub is_hit : Hit → Bool
is_hit Past = true
is_hit Round = true
is_hit Elsewhere = false

-- within the loop that line l opens
abbrev pub near_in_loop : ℕ → (Target → Bool) → Target → Bool
near_in_loop l near t = is_hit (hit t l) || near t

-- EXIT DO stands in a DO whose end may be reached
abbrev pub may_exit : Option ℕ → (Target → Bool) → Bool
may_exit None near = false
may_exit (Some l) near = near (EndOf l)

-- GOTO and EXIT DO are the jumps
abbrev pub jumps_in_plain : Around → (Target → Bool) → Plain → Bool
jumps_in_plain around near (Goto l) = near (LineOf l)
jumps_in_plain around near ExitDo = may_exit around.do_line near
jumps_in_plain around near _ = true

-- a line alone
abbrev pub jumps_in_item : Around → (Target → Bool) → LineItem → Bool
jumps_in_item around near (OfSimple (Alone plain)) = jumps_in_plain around near plain
jumps_in_item around near _ = true

-- what a section's block sees, by the line of the section
abbrev pub jumps_in_section : Around → (Target → Bool) → (l : ℕ) → LineItem → (close : NumLine) → (Around → (Target → Bool) → Closing → Bool) → Bool
jumps_in_section around near l (OfPart (Do loopc)) close block = block (in_do l around) (near_in_loop l near) (ClosedBy l close)
jumps_in_section around near l _ close block = block around near Bare

-- whether every jump of a part goes where it may
abbrev mutual
  pub jumps_in_stmt : Around → (Target → Bool) → Stmt → Bool
  jumps_in_stmt around near (Single head) = jumps_in_item around near head.item
  jumps_in_stmt around near (Nest sections close) = jumps_in_sections around near sections close

  -- the sections of a construct
  pub jumps_in_sections : Around → (Target → Bool) → Sections → (close : NumLine) → Bool
  jumps_in_sections around near NoSections close = true
  jumps_in_sections around near (MoreSections head body rest) close =
      jumps_in_section around near head.line head.item close (λ inner reached closing. jumps_in_block inner (near_in (record { block = body; closing = closing }) reached) body)
      && jumps_in_sections around near rest close

  -- every statement of a block
  pub jumps_in_block : Around → (Target → Bool) → Block → Bool
  jumps_in_block around near NoStmts = true
  jumps_in_block around near (MoreStmts s rest) = jumps_in_stmt around near s && jumps_in_block around near rest

-- at the top of a program nothing is reached outside
abbrev pub jumps_are_right : Program → Bool
jumps_are_right p = jumps_in_block outermost (near_in (program_region p) (λ t. false)) p.body
