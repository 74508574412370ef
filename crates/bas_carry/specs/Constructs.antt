-- The code of the constructs: of a section, and of a line that closes a block.
use Rattle.std.specs.Prelude.{◌≡◌, ℕ, suc, Bool, true, false, Option, Some}
use Rattle.bas_ast.specs.Tree.{Cond, Loopc, If, Elseif, Else, Do, Loop, End, LineItem, Nothing, Rem, OfSimple, OfPart, NumLine, Sections, NoSections, MoreSections}
use Rattle.bas_mean.specs.Outcome.{LineOf, EndOf, TurnOf}
use Rattle.bas_mean.specs.Place.{Closing, Bare, ClosedBy}
use Rattle.bas_mean.specs.Construct.{in_do}
use Rattle.bas_code.specs.declared.instr.Instr.TheVariants as instr
use Rattle.bas_code.specs.declared.instr.JumpInstr.TheVariants.{Jump}
use Rattle.bas_code.specs.declared.instr.RunInstr.TheVariants as run
use Rattle.bas_carry.specs.Text.{Text, Static, looped, At, NoneAt, OneAt, NotBuiltAt, RowAt, LineAt}
use Rattle.bas_carry.specs.Conditions.{UnlessAt, LoopcAt}
use Rattle.bas_carry.specs.Simples.{SimpleAt}

-- whether no section follows
abbrev pub is_last : Sections → Bool
is_last NoSections = true
is_last (MoreSections head body rest) = false

-- the code of a section's block, by what is known there and by the line that closes it
abbrev pub BlockCode : Type 1
BlockCode = Static → Closing → ℕ → ℕ → Type 0

module _ (text : Text) where
  -- after a part of a block IF: a jump to its end, and none after the last part
  abbrev pub PartEndAt : Bool → (last other to : ℕ) → Type 0
  PartEndAt true last other to = last ≡ other
  PartEndAt false last other to = At text last (instr.Jump (Jump to)) × (suc last ≡ other)

  -- IF and ELSEIF
  pub record IfSectionAt (l : ℕ) (c : Cond) (final : Bool) (Code Rest : ℕ → ℕ → Type 0) (from to : ℕ) : Type 0 where
    pub mark : At text from (instr.Mark l)
    pub start : ℕ
    pub row : RowAt text l from start to
    pub other : ℕ
    pub test : UnlessAt text c (suc from) start other
    pub last : ℕ
    pub code : Code start last
    pub past : PartEndAt final last other to
    pub rest : Rest other to

  -- DO, its block with the LOOP line, and the jump back
  pub record DoSectionAt (l : ℕ) (loopc : Option Loopc) (Code : ℕ → ℕ → Type 0) (from to : ℕ) : Type 0 where
    pub mark : At text from (instr.Mark l)
    pub start : ℕ
    pub row : RowAt text l from start to
    pub test : LoopcAt text loopc (suc from) start to
    pub last : ℕ
    pub code : Code start last
    pub back : At text last (instr.Jump (Jump from))
    pub end : suc last ≡ to
    pub behind : text.addr (EndOf l) ≡ to
    pub again : text.addr (TurnOf l) ≡ from

  -- a section, by its line
  abbrev pub SectionAt : Static → NumLine → (close : NumLine) → Bool → BlockCode → (Rest : ℕ → ℕ → Type 0) → ℕ → ℕ → Type 0
  SectionAt st head close final Code Rest = section_of head.item
    where
      section_of : LineItem → ℕ → ℕ → Type 0
      section_of (OfPart (If c)) from to = IfSectionAt head.line c final (Code st Bare) Rest from to
      section_of (OfPart (Elseif c)) from to = IfSectionAt head.line c final (Code st Bare) Rest from to
      section_of (OfPart Else) from to = Code st Bare from to
      section_of (OfPart (Do loopc)) from to =
          DoSectionAt head.line loopc (Code (looped head.line (in_do head.line st.around) st) (ClosedBy head.line close)) from to
      section_of _ from to = NotBuiltAt text from to

  -- LOOP: its range includes the jump back, and CONTINUE continues after it
  pub record LoopLineAt (st : Static) (opener l : ℕ) (loopc : Option Loopc) (from to : ℕ) : Type 0 where
    pub here : text.addr (LineOf l) ≡ from
    pub mark : At text from (instr.Mark l)
    pub row : RowAt text l from (suc to) (text.addr (EndOf opener))
    pub test : LoopcAt text loopc (suc from) to (text.addr (EndOf opener))
    pub near : st.drops (EndOf opener) ≡ Some 0

  -- END of a program
  pub record EndLineAt (l : ℕ) (from to : ℕ) : Type 0 where
    pub here : text.addr (LineOf l) ≡ from
    pub line : LineAt text l from (OneAt text (instr.Run run.End)) from to

  -- the line that closes a block, or its end where none does
  abbrev pub ClosingAt : Static → Closing → ℕ → ℕ → Type 0
  ClosingAt st closing = closing_of closing
    where
      item_of : (opener l : ℕ) → LineItem → ℕ → ℕ → Type 0
      item_of opener l (OfPart (Loop loopc)) from to = LoopLineAt st opener l loopc from to
      item_of opener l (OfPart End) from to = EndLineAt l from to
      item_of opener l _ from to = NotBuiltAt text from to

      closing_of : Closing → ℕ → ℕ → Type 0
      closing_of Bare from to = from ≡ to
      closing_of (ClosedBy opener close) from to = item_of opener close.line close.item from to

  -- a line alone; a remark is its mark and nothing else; CONTINUE continues at the next line
  abbrev pub SingleAt : Static → NumLine → ℕ → ℕ → Type 0
  SingleAt st head = item_of head.item
    where
      item_of : LineItem → ℕ → ℕ → Type 0
      item_of Nothing from to = LineAt text head.line to (NoneAt text) from to
      item_of (Rem bytes) from to = LineAt text head.line to (NoneAt text) from to
      item_of (OfSimple s) from to = LineAt text head.line to (SimpleAt text st s) from to
      item_of _ from to = NotBuiltAt text from to
