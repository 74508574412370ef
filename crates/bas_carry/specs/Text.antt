-- Which code is at an address of a body.
use Rattle.std.specs.Prelude.{◌≡◌, ℕ, suc, zero, ◌<◌, ◌≤◌, List, Option, Some, None, slice_get}
use Rattle.bas_ast.specs.Tree.{Block}
use Rattle.bas_mean.specs.World.{Variable}
use Rattle.bas_mean.specs.Outcome.{Target}
use Rattle.bas_mean.specs.Place.{Around, Region}
use Rattle.bas_mean.specs.Block.{landing, Hit, Past, Round, Elsewhere, hit}
use Rattle.bas_code.specs.declared.instr.Place.{Place}
use Rattle.bas_code.specs.declared.instr.Instr.{Instr}
use Rattle.bas_code.specs.declared.instr.Instr.TheVariants as instr
use Rattle.bas_code.specs.declared.instr.JumpInstr.TheVariants.{Jump}
use Rattle.bas_code.specs.declared.body.Proc.{Proc}
use Rattle.bas_code.specs.Guards.{entry_at}

-- a body of an image, as the code of a program's text: its unit, the place of each variable, and the address
-- of each target
pub record Text : Type 0 where
  pub body : ℕ
  pub proc : Proc
  pub unit : List ℕ
  pub places : Variable → Option Place
  pub addr : Target → ℕ

-- what is known at a place of a text: the loops around it, and how many in-line handlers a jump
-- leaves, or None where it may not go
pub record Static : Type 0 where
  pub around : Around
  pub drops : Target → Option ℕ

-- a region's own lines are reached without leaving a handler
abbrev pub near_if : Option Block → Option ℕ → Option ℕ
near_if None d = d
near_if (Some b) d = Some 0

-- within a region
abbrev pub inside : Region → Static → Static
inside r st = record st { drops = λ t. near_if (landing t r) (st.drops t) }

-- a loop's own targets are reached without leaving a handler
abbrev pub near_hit : Hit → Option ℕ → Option ℕ
near_hit Past d = Some 0
near_hit Round d = Some 0
near_hit Elsewhere d = d

-- inside the loop that line l opens, with the loops that are then around
abbrev pub looped : ℕ → Around → Static → Static
looped l around st = record { around = around; drops = λ t. near_hit (hit t l) (st.drops t) }

module _ (text : Text) where
  -- the instruction at an address
  abbrev pub At : ℕ → Instr → Type 0
  At pc i = slice_get text.proc.code pc ≡ Some i

  -- no code
  pub record NoneAt (from to : ℕ) : Type 0 where
    pub none : from ≡ to

  -- one instruction
  pub record OneAt (i : Instr) (from to : ℕ) : Type 0 where
    pub at : At from i
    pub end : suc from ≡ to

  -- one piece of code, and another after it
  pub record ThenAt (A B : ℕ → ℕ → Type 0) (from to : ℕ) : Type 0 where
    pub middle : ℕ
    pub first : A from middle
    pub second : B middle to

  -- an instruction on the place of a variable
  pub record PlaceAt (i : Place → Instr) (x : Variable) (from to : ℕ) : Type 0 where
    pub place : Place
    pub is : text.places x ≡ Some place
    pub at : At from (i place)
    pub end : suc from ≡ to

  -- no code is that of a construct that is not built
  abbrev pub NotBuiltAt : ℕ → ℕ → Type 0
  NotBuiltAt from to = ⊥

  -- a jump that leaves no handler, and none where it may not go; no handler is built
  abbrev pub JumpFrom : Option ℕ → Target → ℕ → Type 0
  JumpFrom None t pc = ⊥
  JumpFrom (Some zero) t pc = At pc (instr.Jump (Jump (text.addr t)))
  JumpFrom (Some (suc d)) t pc = ⊥

  -- a jump to a target
  pub record JumpAt (d : Option ℕ) (t : Target) (from to : ℕ) : Type 0 where
    pub jump : JumpFrom d t from
    pub end : suc from ≡ to

  -- the line table gives this entry at each address of the line
  abbrev pub RowAt : (line start end next : ℕ) → Type 0
  RowAt l start end next = (pc : ℕ) → start ≤ pc → pc < end → entry_at text.proc.lines pc ≡ Some (record { line = l; start = start; end = end; next = next })

  -- a line: its mark, its code, and its entry
  pub record LineAt (l next : ℕ) (Code : ℕ → ℕ → Type 0) (from to : ℕ) : Type 0 where
    pub mark : At from (instr.Mark l)
    pub row : RowAt l from to next
    pub code : Code (suc from) to
