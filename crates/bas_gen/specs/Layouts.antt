-- The sizes of blocks and constructs in the order of the text, each before those inside it; and what
-- one section adds to the sizes and targets of its construct. A section is built while all those
-- before it were IF or ELSEIF.
use Rattle.std.specs.Prelude.{◌≡◌, ℕ, suc, ◌+◌, ◌≤◌, Bool, true, false, List, [], ◌∷◌, ◌++◌, map, length, Option, slice_set}
use Rattle.bas_ast.specs.Tree.{Loopc, If, Elseif, Else, Do, LineItem, OfPart, NumLine, Stmt, Single, Nest, Sections, NoSections, MoreSections, Block, NoStmts, MoreStmts}
use Rattle.bas_mean.specs.Outcome.{EndOf, TurnOf, LineOf}
use Rattle.bas_mean.specs.Outcome as outcome
use Rattle.bas_carry.specs.Codes.{cond_size, loopc_size, closing_size, part_end_size, sections_size, block_size}
use Rattle.bas_carry.specs.Tables.{Labels, closing_labels}
use Rattle.bas_genexpr.specs.Counts.{code_limit, counted}
use Rattle.bas_gen.specs.declared.layout.Label.{Label}
use Rattle.bas_gen.specs.declared.layout.Target.{Target}
use Rattle.bas_gen.specs.declared.layout.Target.TheVariants as target
use Rattle.bas_gen.specs.declared.layout.Layout.{Layout}

-- a section's list, from the size and the list of its block and the list of the sections behind it
abbrev pub section_list : LineItem → (size : ℕ) → (block rest : List ℕ) → List ℕ
section_list (OfPart (If c)) size block rest = size ∷ (block ++ rest)
section_list (OfPart (Elseif c)) size block rest = size ∷ (block ++ rest)
section_list (OfPart Else) size block rest = size ∷ block
section_list (OfPart (Do loopc)) size block rest = size ∷ block
section_list _ size block rest = []

abbrev mutual
  -- a line alone has no list, a construct its size and those of its sections
  pub stmt_list : Stmt → List ℕ
  stmt_list (Single head) = []
  stmt_list (Nest sections close) = counted (sections_size sections close) ∷ sections_list sections

  -- the sections of a construct from some of them on
  pub sections_list : Sections → List ℕ
  sections_list NoSections = []
  sections_list (MoreSections head body rest) = section_list head.item (counted (block_size body)) (block_list body) (sections_list rest)

  -- the statements of a block
  pub block_list : Block → List ℕ
  block_list NoStmts = []
  block_list (MoreStmts s rest) = stmt_list s ++ block_list rest

-- the target and its address
abbrev pub target_of : Target → outcome.Target
target_of (target.Line l) = LineOf l
target_of (target.End l) = EndOf l
target_of (target.Turn l) = TurnOf l

abbrev pub labels_of : List Label → Labels
labels_of = map (λ label. (target_of label.target, label.address))

-- whether the sections behind a section are built too
abbrev pub goes_on : (going : Bool) → LineItem → Bool
goes_on true (OfPart (If c)) = true
goes_on true (OfPart (Elseif c)) = true
goes_on true _ = false
goes_on false _ = false

-- what is left, where it is built
abbrev pub if_going : {A : Type 0} → (going : Bool) → (left none : A) → A
if_going true left none = left
if_going false left none = none

-- what one section adds to the size
abbrev pub own_size : (going : Bool) → LineItem → (close : LineItem) → (final : Bool) → (block : ℕ) → ℕ
own_size true (OfPart (If c)) close final block = 1 + (cond_size c + (block + part_end_size final))
own_size true (OfPart (Elseif c)) close final block = 1 + (cond_size c + (block + part_end_size final))
own_size true (OfPart Else) close final block = block
own_size true (OfPart (Do loopc)) close final block = 1 + (loopc_size loopc + (block + (closing_size close + 1)))
own_size true _ close final block = 0
own_size false _ close final block = 0

-- to the list
abbrev pub own_list : (going : Bool) → LineItem → (size : ℕ) → (block : List ℕ) → List ℕ
own_list true (OfPart (If c)) size block = size ∷ block
own_list true (OfPart (Elseif c)) size block = size ∷ block
own_list true (OfPart Else) size block = size ∷ block
own_list true (OfPart (Do loopc)) size block = size ∷ block
own_list true _ size block = []
own_list false _ size block = []

-- the targets of a loop
abbrev pub do_labels : (l : ℕ) → Option Loopc → (close : NumLine) → (size : ℕ) → (block : ℕ → Labels) → (from : ℕ) → Labels
do_labels l loopc close size block from =
    (EndOf l, from + (1 + (loopc_size loopc + (size + (closing_size close.item + 1))))) ∷ ((TurnOf l, from) ∷ (block (suc from + loopc_size loopc) ++ closing_labels close.line close.item (suc from + (loopc_size loopc + size))))

-- to the targets
abbrev pub own_labels : (going : Bool) → (l : ℕ) → LineItem → (close : NumLine) → (size : ℕ) → (block : ℕ → Labels) → (from : ℕ) → Labels
own_labels true l (OfPart (If c)) close size block from = block (suc from + cond_size c)
own_labels true l (OfPart (Elseif c)) close size block from = block (suc from + cond_size c)
own_labels true l (OfPart Else) close size block from = block from
own_labels true l (OfPart (Do loopc)) close size block from = do_labels l loopc close size block from
own_labels true l _ close size block from = []
own_labels false l _ close size block from = []

-- a part was laid out: its size was counted, its sizes were listed, and where it fits its targets too
pub record Laid (old new : Layout) (from size whole : ℕ) (sizes : List ℕ) (labels : Labels) : Type 0 where
  pub same : size ≡ counted whole
  pub listed : new.sizes.items ≡ old.sizes.items ++ sizes
  pub labelled : from + whole ≤ code_limit → labels_of new.labels.items ≡ labels_of old.labels.items ++ labels

-- targets were added alone, where their address is one
pub record Relabelled (old new : Layout) (address : ℕ) (added : Labels) : Type 0 where
  pub sizes : new.sizes.items ≡ old.sizes.items
  pub labels : address ≤ code_limit → labels_of new.labels.items ≡ labels_of old.labels.items ++ added

-- a size was added that is not known yet
pub record Reserved (old new : Layout) (at : ℕ) : Type 0 where
  pub index : at ≡ length old.sizes.items
  pub sizes : new.sizes.items ≡ old.sizes.items ++ 0 ∷ []
  pub labels : new.labels.items ≡ old.labels.items

-- a size was written
pub record Refilled (old new : Layout) (at size : ℕ) : Type 0 where
  pub sizes : new.sizes.items ≡ slice_set old.sizes.items at size
  pub labels : new.labels.items ≡ old.labels.items
