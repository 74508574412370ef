-- The line table of a program, and the address of each target, as functions. The address of a
-- target is the one paired with it in the list of all targets.
use Rattle.std.specs.Prelude.{◌≡◌, ℕ, suc, ◌+◌, Bool, true, false, ◌&&◌, List, [], ◌∷◌, ◌++◌, length, Option, Some, nat_eq, nat_lt, slice_get, if◌then◌else◌}
use Rattle.bas_ast.specs.Tree.{Cond, Loopc, Alone, If, Elseif, Else, Do, Loop, End, LineItem, Nothing, Rem, OfSimple, OfPart, NumLine, Stmt, Single, Nest, Sections, NoSections, MoreSections, Block, NoStmts, MoreStmts, Program, SourceUnit}
use Rattle.bas_mean.specs.Outcome.{Target, LineOf, EndOf, TurnOf}
use Rattle.bas_ast.specs.Accessors.{line_of}
use Rattle.bas_mean.specs.Built.{is_built_block, is_end}
use Rattle.bas_mean.specs.Jumps.{jumps_are_right}
use Rattle.bas_code.specs.declared.body.LineEntry.{LineEntry}
use Rattle.bas_code.specs.declared.body.Proc.{Proc}
use Rattle.bas_code.specs.declared.body.Image.{Image}
use Rattle.bas_mean.specs.Meaning.{first_program}
use Rattle.bas_carry.specs.Carries.{Carries}
use Rattle.bas_carry.specs.Constructs.{is_last}
use Rattle.bas_carry.specs.Slots.{slots_of}
use Rattle.bas_carry.specs.Codes.{cond_size, loopc_size, single_size, closing_size, part_end_size, sections_size, stmt_size, block_size, program_code}

-- an entry of the line table
abbrev pub entry : (line start end next : ℕ) → LineEntry
entry l start end next = record { line = l; start = start; end = end; next = next }

-- the line table

-- a line alone: CONTINUE continues after it
abbrev pub single_rows : (l : ℕ) → LineItem → (from : ℕ) → List LineEntry
single_rows l Nothing from = entry l from (suc from) (suc from) ∷ []
single_rows l (Rem bytes) from = entry l from (suc from) (suc from) ∷ []
single_rows l (OfSimple (Alone plain)) from = entry l from (from + single_size (OfSimple (Alone plain))) (from + single_size (OfSimple (Alone plain))) ∷ []
single_rows l _ from = []

-- the line that closes a block; `behind` is the address after its construct
abbrev pub closing_rows : (l : ℕ) → LineItem → (from behind : ℕ) → List LineEntry
closing_rows l (OfPart (Loop loopc)) from behind = entry l from (suc (from + closing_size (OfPart (Loop loopc)))) behind ∷ []
closing_rows l (OfPart End) from behind = entry l from (from + 2) from ∷ []
closing_rows l _ from behind = []

-- IF and ELSEIF: CONTINUE continues after the construct
abbrev pub if_section_rows : (l : ℕ) → Cond → (final : Bool) → (size : ℕ) → (block rest : ℕ → List LineEntry) → (from finish : ℕ) → List LineEntry
if_section_rows l c final size block rest from finish =
    entry l from (suc from + cond_size c) finish ∷ (block (suc from + cond_size c) ++ rest (suc from + (cond_size c + (size + part_end_size final))))

-- DO: CONTINUE continues after the loop
abbrev pub do_section_rows : (l : ℕ) → Option Loopc → (close : NumLine) → (size : ℕ) → (block : ℕ → List LineEntry) → (from finish : ℕ) → List LineEntry
do_section_rows l loopc close size block from finish =
    entry l from (suc from + loopc_size loopc) finish ∷ (block (suc from + loopc_size loopc) ++ closing_rows close.line close.item (suc from + (loopc_size loopc + size)) finish)

-- a section, by its line
abbrev pub section_rows : (l : ℕ) → LineItem → (close : NumLine) → (final : Bool) → (size : ℕ) → (block rest : ℕ → List LineEntry) → (from finish : ℕ) → List LineEntry
section_rows l (OfPart (If c)) close final size block rest from finish = if_section_rows l c final size block rest from finish
section_rows l (OfPart (Elseif c)) close final size block rest from finish = if_section_rows l c final size block rest from finish
section_rows l (OfPart Else) close final size block rest from finish = block from
section_rows l (OfPart (Do loopc)) close final size block rest from finish = do_section_rows l loopc close size block from finish
section_rows l _ close final size block rest from finish = []

abbrev mutual
  -- a statement of a block
  pub stmt_rows : Stmt → (from : ℕ) → List LineEntry
  stmt_rows (Single head) from = single_rows head.line head.item from
  stmt_rows (Nest sections close) from = sections_rows sections close from (from + sections_size sections close)

  -- the sections of a construct from some of them on
  pub sections_rows : Sections → (close : NumLine) → (from finish : ℕ) → List LineEntry
  sections_rows NoSections close from finish = []
  sections_rows (MoreSections head body rest) close from finish =
      section_rows head.line head.item close (is_last rest) (block_size body) (λ from1. block_rows body from1) (λ from1. sections_rows rest close from1 finish) from finish

  -- a block, without the line that closes it
  pub block_rows : Block → (from : ℕ) → List LineEntry
  block_rows NoStmts from = []
  block_rows (MoreStmts s rest) from = stmt_rows s from ++ block_rows rest (from + stmt_size s)

-- a program: CONTINUE at END continues at END
abbrev pub program_rows : Program → List LineEntry
program_rows p = block_rows p.body 0 ++ closing_rows p.close.line p.close.item (block_size p.body) 0

-- the targets with their addresses

-- targets, each with its address
abbrev pub Labels : Type 0
Labels = List (Target × ℕ)

-- a line that closes a block may be the target of a jump
abbrev pub closing_labels : (l : ℕ) → LineItem → (from : ℕ) → Labels
closing_labels l (OfPart (Loop loopc)) from = (LineOf l, from) ∷ []
closing_labels l (OfPart End) from = (LineOf l, from) ∷ []
closing_labels l _ from = []

-- a section, by its line; a loop has an end and a next turn
abbrev pub section_labels : (l : ℕ) → LineItem → (close : NumLine) → (final : Bool) → (size : ℕ) → (block rest : ℕ → Labels) → (from finish : ℕ) → Labels
section_labels l (OfPart (If c)) close final size block rest from finish =
    block (suc from + cond_size c) ++ rest (suc from + (cond_size c + (size + part_end_size final)))
section_labels l (OfPart (Elseif c)) close final size block rest from finish =
    block (suc from + cond_size c) ++ rest (suc from + (cond_size c + (size + part_end_size final)))
section_labels l (OfPart Else) close final size block rest from finish = block from
section_labels l (OfPart (Do loopc)) close final size block rest from finish =
    (EndOf l, finish) ∷ ((TurnOf l, from) ∷ (block (suc from + loopc_size loopc) ++ closing_labels close.line close.item (suc from + (loopc_size loopc + size))))
section_labels l _ close final size block rest from finish = []

abbrev mutual
  -- what stands inside a statement of a block
  pub stmt_labels : Stmt → (from : ℕ) → Labels
  stmt_labels (Single head) from = []
  stmt_labels (Nest sections close) from = sections_labels sections close from (from + sections_size sections close)

  -- the sections of a construct from some of them on
  pub sections_labels : Sections → (close : NumLine) → (from finish : ℕ) → Labels
  sections_labels NoSections close from finish = []
  sections_labels (MoreSections head body rest) close from finish =
      section_labels head.line head.item close (is_last rest) (block_size body) (λ from1. block_labels body from1) (λ from1. sections_labels rest close from1 finish) from finish

  -- each statement of a block is a target
  pub block_labels : Block → (from : ℕ) → Labels
  block_labels NoStmts from = []
  block_labels (MoreStmts s rest) from = (LineOf (line_of s), from) ∷ (stmt_labels s from ++ block_labels rest (from + stmt_size s))

-- a program: its block, and END
abbrev pub program_labels : Program → Labels
program_labels p = block_labels p.body 0 ++ closing_labels p.close.line p.close.item (block_size p.body)

-- whether two targets are the same
abbrev pub same_target : Target → Target → Bool
same_target (LineOf l) (LineOf m) = nat_eq l m
same_target (EndOf l) (EndOf m) = nat_eq l m
same_target (TurnOf l) (TurnOf m) = nat_eq l m
same_target (LineOf l) (EndOf m) = false
same_target (LineOf l) (TurnOf m) = false
same_target (EndOf l) (LineOf m) = false
same_target (EndOf l) (TurnOf m) = false
same_target (TurnOf l) (LineOf m) = false
same_target (TurnOf l) (EndOf m) = false

-- the address paired with a target; 0 if there is none
abbrev pub address_in : Labels → Target → ℕ
address_in [] t = 0
address_in (label ∷ labels) t = if same_target t label.0 then label.1 else address_in labels t

-- the address of each target of a program
unfoldable pub addresses_of : Program → Target → ℕ
addresses_of p = address_in (program_labels p)

-- the numbers of the lines, in the order in which they stand
abbrev mutual
  -- a statement of a block, with the lines inside
  pub stmt_numbers : Stmt → List ℕ
  stmt_numbers (Single head) = head.line ∷ []
  stmt_numbers (Nest sections close) = sections_numbers sections ++ close.line ∷ []

  -- the sections of a construct
  pub sections_numbers : Sections → List ℕ
  sections_numbers NoSections = []
  sections_numbers (MoreSections head body rest) = head.line ∷ (block_numbers body ++ sections_numbers rest)

  -- a block
  pub block_numbers : Block → List ℕ
  block_numbers NoStmts = []
  block_numbers (MoreStmts s rest) = stmt_numbers s ++ block_numbers rest

-- a program, with its END line
abbrev pub program_numbers : Program → List ℕ
program_numbers p = block_numbers p.body ++ p.close.line ∷ []

-- each number is above the one before it
abbrev pub rise_above : ℕ → List ℕ → Bool
rise_above low [] = true
rise_above low (n ∷ ns) = nat_lt low n && rise_above n ns

-- a program of the form: its constructs are built and closed by their own lines, its jumps go where
-- they may, and its line numbers rise
pub record Sound (p : Program) : Type 0 where
  pub built : is_built_block p.body ≡ true
  pub closes : is_end p.close.item ≡ true
  pub jumps : jumps_are_right p ≡ true
  pub rises : rise_above 0 (program_numbers p) ≡ true

-- the body that the functions make of a program
pub record IsMade (proc : Proc) (p : Program) : Type 0 where
  pub unit : proc.unit ≡ p.name
  pub slots : proc.slots ≡ length (slots_of p)
  pub code : proc.code ≡ program_code (slots_of p) (addresses_of p) p
  pub lines : proc.lines ≡ program_rows p
  pub guards : proc.guards ≡ []

-- an image whose first program is that of the units, sound, with the body that the functions make
pub record ImageIsMade (image : Image) (units : List SourceUnit) : Type 0 where
  pub program : Program
  pub is_first : first_program units ≡ Some program
  pub sound : Sound program
  pub body : ℕ
  pub rest : List (List ℕ × ℕ)
  pub is_program : image.programs ≡ (program.name, body) ∷ rest
  pub proc : Proc
  pub is_body : slice_get image.procs body ≡ Some proc
  pub made : IsMade proc program

-- what the functions make of a program carries it
abbrev pub MadeIsCarried : Type 0
MadeIsCarried = (image : Image) (units : List SourceUnit) → ImageIsMade image units → Carries image units
