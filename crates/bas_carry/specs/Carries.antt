-- Which images carry a program, and what that promises.
use Rattle.std.specs.Prelude.{◌≡◌, ◌≢◌, ℕ, List, [], ◌∷◌, length, Option, Some, None, is_some, true, slice_get}
use Rattle.bas_ast.specs.Tree.{End, OfPart, NumLine, Stmt, Single, Nest, Sections, NoSections, MoreSections, Block, NoStmts, MoreStmts, Program, SourceUnit}
use Rattle.bas_mean.specs.World.{Variable}
use Rattle.bas_mean.specs.Outcome.{Target, LineOf, RunEnd, Lost}
use Rattle.bas_mean.specs.Place.{Closing}
use Rattle.bas_ast.specs.Accessors.{line_of}
use Rattle.bas_mean.specs.Meaning.{outermost, program_region, first_program, mean}
use Rattle.bas_code.specs.declared.instr.Place.{Place}
use Rattle.bas_code.specs.declared.instr.Space.TheVariants.{Own}
use Rattle.bas_code.specs.declared.body.Proc.{Proc}
use Rattle.bas_code.specs.declared.body.Image.{Image}
use Rattle.bas_code.specs.Machine.{Runs}
use Rattle.bas_carry.specs.Text.{Text, Static, inside}
use Rattle.bas_carry.specs.Slots.{in_block, index_of}
use Rattle.bas_carry.specs.Constructs.{is_last, SectionAt, ClosingAt, SingleAt}

module _ (text : Text) where
  -- a statement of a region, at the address of its line, and those behind it
  pub record StmtsAt (l : ℕ) (First Rest : ℕ → ℕ → Type 0) (from to : ℕ) : Type 0 where
    pub here : text.addr (LineOf l) ≡ from
    pub middle : ℕ
    pub first : First from middle
    pub rest : Rest middle to

  abbrev mutual
    -- a line alone, or a construct from its first section on
    pub StmtAt : Static → Stmt → ℕ → ℕ → Type 0
    StmtAt st (Single head) from to = SingleAt text st head from to
    StmtAt st (Nest sections close) from to = SectionsAt st sections close from to

    -- the sections of a construct from some of them on
    pub SectionsAt : Static → Sections → (close : NumLine) → ℕ → ℕ → Type 0
    SectionsAt st NoSections close from to = from ≡ to
    SectionsAt st (MoreSections head body rest) close from to =
        SectionAt text st head close (is_last rest)
        (λ inner closing from1 to1. LinesAt (inside (record { block = body; closing = closing }) inner) closing body from1 to1)
        (λ from1 to1. SectionsAt st rest close from1 to1)
        from to

    -- the statements of a region from some of them on, and the line that closes it
    pub LinesAt : Static → Closing → Block → ℕ → ℕ → Type 0
    LinesAt st closing NoStmts from to = ClosingAt text st closing from to
    LinesAt st closing (MoreStmts s rest) from to = StmtsAt (line_of s) (StmtAt st s) (LinesAt st closing rest) from to

-- at the top of a body no jump goes outwards
abbrev pub top_static : Static
top_static = record { around = outermost; drops = λ t. None }

-- a numbering of variables in slots: each has one slot, and each slot one variable
pub record Numbered (text : Text) : Type 0 where
  pub order : List Variable
  pub distinct : (s t : ℕ) (x : Variable) → slice_get order s ≡ Some x → slice_get order t ≡ Some x → s ≡ t
  pub slots : text.proc.slots ≡ length order
  pub placed : (x : Variable) (p : Place) → text.places x ≡ Some p → (s : ℕ) × (p ≡ record { space = Own; number = s }) × (slice_get order s ≡ Some x)

-- the body carries the program: its lines stand from address 0 to the end of the code, its slots are
-- the variables that stand in it, and it has no WHEN block
pub record ProgramAt (text : Text) (p : Program) : Type 0 where
  pub end : ℕ
  pub code : LinesAt text (inside (program_region p) top_static) (program_region p).closing p.body 0 end
  pub closes : p.close.item ≡ OfPart End
  pub size : length text.proc.code ≡ end
  pub numbered : Numbered text
  pub used : (s : ℕ) (x : Variable) → slice_get numbered.order s ≡ Some x → is_some (index_of (in_block p.body) x) ≡ true
  pub unit : text.proc.unit ≡ p.name
  pub guards : text.proc.guards ≡ []

-- the image's first program is carried by its body, for some numbering of slots and some addresses
pub record Carries (image : Image) (units : List SourceUnit) : Type 0 where
  pub program : Program
  pub is_first : first_program units ≡ Some program
  pub body : ℕ
  pub rest : List (List ℕ × ℕ)
  pub is_program : image.programs ≡ (program.name, body) ∷ rest
  pub proc : Proc
  pub is_body : slice_get image.procs body ≡ Some proc
  pub places : Variable → Option Place
  pub addr : Target → ℕ
  pub at : ProgramAt (record { body = body; proc = proc; unit = program.name; places = places; addr = addr }) program

-- for each number of lines and each input, the image runs to the end that the units mean, and to no other
pub record Agrees (image : Image) (units : List SourceUnit) : Type 0 where
  pub does : (n : ℕ) (input : List ℕ) → Runs image n input (mean units n input)
  pub only : (n : ℕ) (input : List ℕ) (e : RunEnd) → Runs image n input e → e ≡ mean units n input
  pub defined : (n : ℕ) (input : List ℕ) → mean units n input ≢ Lost

-- an image that carries a program does for n lines exactly what the program means for n lines
abbrev pub CarriedAgrees : Type 0
CarriedAgrees = (image : Image) (units : List SourceUnit) → Carries image units → Agrees image units
