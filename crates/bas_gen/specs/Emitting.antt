-- What was appended to the code and the line table; and what one section adds to those of its construct.
use Rattle.std.specs.Prelude.{◌≡◌, ℕ, suc, ◌+◌, ◌≤◌, Bool, true, false, List, [], ◌∷◌, ◌++◌, length, Option, None}
use Rattle.bas_ast.specs.Tree.{Cond, If, Elseif, Else, Do, Loop, LineItem, OfPart, NumLine}
use Rattle.bas_mean.specs.World.{Variable}
use Rattle.bas_mean.specs.Outcome as outcome
use Rattle.bas_mean.specs.Place.{Around}
use Rattle.bas_mean.specs.Construct.{in_do}
use Rattle.bas_code.specs.declared.instr.Instr.{Instr}
use Rattle.bas_code.specs.declared.instr.Instr.TheVariants as instr
use Rattle.bas_code.specs.declared.instr.JumpInstr.TheVariants as jump
use Rattle.bas_code.specs.declared.body.LineEntry.{LineEntry}
use Rattle.bas_carry.specs.Codes.{cond_size, part_end_size, closing_size, unless_code, do_section_code}
use Rattle.bas_carry.specs.Tables.{entry, closing_rows, do_section_rows}
use Rattle.bas_genexpr.specs.Counts.{code_limit}
use Rattle.bas_genexpr.specs.Sizes.{IsNext}
use Rattle.bas_gen.specs.declared.output.Output.{Output}

-- the sizes in front were read, and code and lines were appended
pub record Appended (old new : Output) (rest : List ℕ) (made : List Instr) (rows : List LineEntry) : Type 0 where
  pub sizes : new.sizes ≡ rest
  pub code : new.code ≡ old.code ++ made
  pub lines : new.lines.items ≡ old.lines.items ++ rows

-- where the sizes begin with these and there is room, code and lines were appended
abbrev pub Emits : (old new : Output) → (sizes : List ℕ) → (size : ℕ) → (code : ℕ → List Instr) → (lines : ℕ → List LineEntry) → Type 0
Emits old new sizes size code lines =
    (rest : List ℕ) → old.sizes ≡ sizes ++ rest → length old.code + size ≤ code_limit → Appended old new rest (code (length old.code)) (lines (length old.code))

-- the code of a line that closes a block, with the jump back of LOOP
abbrev pub closing_end : LineItem → ℕ
closing_end (OfPart (Loop loopc)) = closing_size (OfPart (Loop loopc)) + 1
closing_end item = closing_size item

-- a size was read
pub record Took (old new : Output) (size : ℕ) : Type 0 where
  pub next : IsNext old.sizes size new.sizes
  pub code : new.code ≡ old.code
  pub lines : new.lines.items ≡ old.lines.items

-- a line was entered, where its addresses are some
pub record Entered (old new : Output) (line start end next : ℕ) : Type 0 where
  pub sizes : new.sizes ≡ old.sizes
  pub code : new.code ≡ old.code
  pub lines : start ≤ code_limit → end ≤ code_limit → next ≤ code_limit → new.lines.items ≡ old.lines.items ++ entry line start end next ∷ []

-- the row of a line that closes a block was entered, where its addresses are some
abbrev pub EntersClosing : (old new : Output) → (line : ℕ) → LineItem → (from finish : ℕ) → Type 0
EntersClosing old new line item from finish =
    from + closing_end item ≤ code_limit → finish ≤ code_limit → Appended old new old.sizes [] (closing_rows line item from finish)

-- inside a loop, or in none
abbrev pub around_of : Option ℕ → Around
around_of do_line = record { do_line = do_line; for_line = None }

-- the jump behind a part of a block IF
abbrev pub part_end_of : (final : Bool) → (finish : ℕ) → List Instr
part_end_of true finish = []
part_end_of false finish = instr.Jump (jump.Jump finish) ∷ []

-- the line of an IF or ELSEIF, before its block
abbrev pub test_rows : (l : ℕ) → Cond → (block : ℕ → List LineEntry) → (from finish : ℕ) → List LineEntry
test_rows l c block from finish = entry l from (suc from + cond_size c) finish ∷ block (suc from + cond_size c)

module _ (order : List Variable) (addr : outcome.Target → ℕ) where
  -- IF or ELSEIF, its block, and the jump behind that
  abbrev pub test_code : Around → (l : ℕ) → Cond → (final : Bool) → (size : ℕ) → (block : Around → ℕ → List Instr) → (from finish : ℕ) → List Instr
  test_code around l c final size block from finish =
      instr.Mark l ∷ (unless_code order c (suc from) (suc from + (cond_size c + (size + part_end_size final))) ++ (block around (suc from + cond_size c) ++ part_end_of final finish))

  -- what one section adds to the code
  abbrev pub own_code : (going : Bool) → Around → (l : ℕ) → LineItem → (close : NumLine) → (final : Bool) → (size : ℕ) → (block : Around → ℕ → List Instr) → (from finish : ℕ) → List Instr
  own_code true around l (OfPart (If c)) close final size block from finish = test_code around l c final size block from finish
  own_code true around l (OfPart (Elseif c)) close final size block from finish = test_code around l c final size block from finish
  own_code true around l (OfPart Else) close final size block from finish = block around from
  own_code true around l (OfPart (Do loopc)) close final size block from finish = do_section_code order addr l loopc close size (block (in_do l around)) from finish
  own_code true around l _ close final size block from finish = []
  own_code false around l _ close final size block from finish = []

-- to the lines
abbrev pub own_rows : (going : Bool) → (l : ℕ) → LineItem → (close : NumLine) → (size : ℕ) → (block : ℕ → List LineEntry) → (from finish : ℕ) → List LineEntry
own_rows true l (OfPart (If c)) close size block from finish = test_rows l c block from finish
own_rows true l (OfPart (Elseif c)) close size block from finish = test_rows l c block from finish
own_rows true l (OfPart Else) close size block from finish = block from
own_rows true l (OfPart (Do loopc)) close size block from finish = do_section_rows l loopc close size block from finish
own_rows true l _ close size block from finish = []
own_rows false l _ close size block from finish = []
