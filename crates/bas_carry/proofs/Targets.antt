-- Where line numbers rise, each target has the address that stands with it.
use Rattle.std.proofs.Common.{◌≡◌, ℕ, suc, ◌+◌, ◌*◌, ◌<◌, ◌≤◌, Bool, true, false, List, [], ◌∷◌, ◌++◌, refl, ap, ◌∙◌, arith}
use Rattle.std.specs.Prelude.{nat_lt, if◌then◌else◌}
use Rattle.std.proofs.lemmas.Bool.{eqb-true, eq-eqb, ltb-true}
use Rattle.bas_ast.specs.Tree.{If, Elseif, Else, Do, Loop, End, LineItem, OfPart, NumLine, Stmt, Single, Nest, Sections, NoSections, MoreSections, Block, NoStmts, MoreStmts}
use Rattle.bas_mean.specs.Outcome.{Target, LineOf, EndOf, TurnOf}
use Rattle.bas_ast.specs.Accessors.{line_of}
use Rattle.bas_carry.specs.Constructs.{is_last}
use Rattle.bas_carry.specs.Codes.{cond_size, loopc_size, part_end_size, sections_size, stmt_size, block_size}
use Rattle.bas_carry.specs.Tables.{Labels, closing_labels, section_labels, stmt_labels, sections_labels, block_labels, same_target, address_in, stmt_numbers, sections_numbers, block_numbers, rise_above}
use Rattle.bas_carry.proofs.Stands.{both_left, both_right}

-- the order in which targets stand in the list
abbrev key : Target → ℕ
key (LineOf l) = 3 * l
key (EndOf l) = 3 * l + 1
key (TurnOf l) = 3 * l + 2

same_key : (t u : Target) → same_target t u ≡ true → key t ≡ key u
same_key (LineOf l) (LineOf m) e = let q = eqb-true l m e in omega (arith, q)
same_key (EndOf l) (EndOf m) e = let q = eqb-true l m e in omega (arith, q)
same_key (TurnOf l) (TurnOf m) e = let q = eqb-true l m e in omega (arith, q)
same_key (LineOf l) (EndOf m) e = let bad : false ≡ true = e in absurd cc
same_key (LineOf l) (TurnOf m) e = let bad : false ≡ true = e in absurd cc
same_key (EndOf l) (LineOf m) e = let bad : false ≡ true = e in absurd cc
same_key (EndOf l) (TurnOf m) e = let bad : false ≡ true = e in absurd cc
same_key (TurnOf l) (LineOf m) e = let bad : false ≡ true = e in absurd cc
same_key (TurnOf l) (EndOf m) e = let bad : false ≡ true = e in absurd cc

same_self : (t : Target) → same_target t t ≡ true
same_self (LineOf l) = eq-eqb l l refl
same_self (EndOf l) = eq-eqb l l refl
same_self (TurnOf l) = eq-eqb l l refl

-- labels whose keys rise from above one number to at most another
abbrev Ascends : ℕ → ℕ → Labels → Type 0
Ascends low high [] = low ≤ high
Ascends low high (label ∷ labels) = (low < key label.0) × Ascends (key label.0) high labels

ascends_both : (a b c : ℕ) (xs ys : Labels) → Ascends a b xs → Ascends b c ys → Ascends a c (xs ++ ys)
ascends_both a b c [] [] p q = omega (arith, p, q)
ascends_both a b c [] (y ∷ ys) p q = (let h = q.0 in omega (arith, p, h), q.1)
ascends_both a b c (x ∷ xs) ys p q = (p.0, ascends_both (key x.0) b c xs ys p.1 q)

ascends_lower : (a b c : ℕ) (xs : Labels) → a ≤ b → Ascends b c xs → Ascends a c xs
ascends_lower a b c [] h p = omega (arith, h, p)
ascends_lower a b c (x ∷ xs) h p = (let k = p.0 in omega (arith, h, k), p.1)

-- each target has its address
abbrev pub Solves : (Target → ℕ) → Labels → Type 0
Solves addr [] = Unit {0}
Solves addr (label ∷ labels) = (addr label.0 ≡ label.1) × Solves addr labels

pub solves_front : (addr : Target → ℕ) (xs ys : Labels) → Solves addr (xs ++ ys) → Solves addr xs
solves_front addr [] ys s = tt
solves_front addr (x ∷ xs) ys s = (s.0, solves_front addr xs ys s.1)

pub solves_back : (addr : Target → ℕ) (xs ys : Labels) → Solves addr (xs ++ ys) → Solves addr ys
solves_back addr [] ys s = s
solves_back addr (x ∷ xs) ys s = solves_back addr xs ys s.1

passed : (label : Target × ℕ) (table : Labels) (t : Target) (b : Bool) → same_target t label.0 ≡ b → key label.0 < key t → address_in (label ∷ table) t ≡ address_in table t
passed label table t true e h = let q = same_key t label.0 e in absurd (omega (arith, q, h))
passed label table t false e h = ap (λ b. if b then label.1 else address_in table t) e

after : (label : Target × ℕ) (table labels : Labels) (low high : ℕ) → key label.0 ≤ low → Ascends low high labels → Solves (address_in table) labels → Solves (address_in (label ∷ table)) labels
after label table [] low high h a s = tt
after label table (x ∷ xs) low high h a s = (
  passed label table x.0 (same_target x.0 label.0) refl (let k = a.0 in omega (arith, h, k)) ∙ s.0,
  after label table xs (key x.0) high (let k = a.0 in omega (arith, h, k)) a.1 s.1,
)

own_addresses : (labels : Labels) (low high : ℕ) → Ascends low high labels → Solves (address_in labels) labels
own_addresses [] low high a = tt
own_addresses (x ∷ xs) low high a =
    (ap (λ b. if b then x.1 else address_in xs x.0) (same_self x.0), after x xs xs (key x.0) high (omega arith) a.1 (own_addresses xs (key x.0) high a.1))

-- numbers that rise from above one number to at most another
abbrev pub Rises : ℕ → ℕ → List ℕ → Type 0
Rises low high [] = low ≤ high
Rises low high (n ∷ ns) = (low < n) × Rises n high ns

pub rises_of : (low : ℕ) (ns : List ℕ) → rise_above low ns ≡ true → (high : ℕ) × Rises low high ns
rises_of low [] e = (low, omega arith)
rises_of low (n ∷ ns) e =
    let r = rises_of n ns (both_right (nat_lt low n) _ e) in
    (r.0, (ltb-true low n (both_left (nat_lt low n) _ e), r.1))

rises_split : (xs ys : List ℕ) (low high : ℕ) → Rises low high (xs ++ ys) → (middle : ℕ) × Rises low middle xs × Rises middle high ys
rises_split [] ys low high r = (low, omega arith, r)
rises_split (x ∷ xs) ys low high r = let s = rises_split xs ys x high r.1 in (s.0, (r.0, s.1), s.2)

rises_le : (ns : List ℕ) (low high : ℕ) → Rises low high ns → low ≤ high
rises_le [] low high r = r
rises_le (n ∷ ns) low high r = let h = rises_le ns n high r.1 in let k = r.0 in omega (arith, h, k)

closing_ascends : (l : ℕ) (item : LineItem) (from low high : ℕ) → low < l → l ≤ high → Ascends (3 * low + 2) (3 * high + 2) (closing_labels l item from)
closing_ascends l (OfPart (Loop loopc)) from low high h k = (omega (arith, h, k), omega (arith, h, k))
closing_ascends l (OfPart End) from low high h k = (omega (arith, h, k), omega (arith, h, k))
closing_ascends l _ from low high h k = omega (arith, h, k)

-- the labels of a section and of those behind it, whose first line is l
section_ascends : (l : ℕ) (item : LineItem) (close : NumLine) (final : Bool) (size : ℕ) (block rest : ℕ → Labels) (from finish : ℕ) (middle last high : ℕ) → l ≤ middle → middle ≤ last → last < close.line → close.line ≤ high → ((f : ℕ) → Ascends (3 * l + 2) (3 * middle + 2) (block f)) → ((f : ℕ) → Ascends (3 * middle + 2) (3 * high + 2) (rest f)) → Ascends (3 * l) (3 * high + 2) (section_labels l item close final size block rest from finish)
section_ascends l (OfPart (If c)) close final size block rest from finish middle last high h1 h2 h3 h4 b r =
    ascends_lower (3 * l) (3 * l + 2) (3 * high + 2) _ (omega arith)
    (ascends_both (3 * l + 2) (3 * middle + 2) (3 * high + 2) (block (suc from + cond_size c)) (rest (suc from + (cond_size c + (size + part_end_size final)))) (b (suc from + cond_size c)) (r (suc from + (cond_size c + (size + part_end_size final)))))
section_ascends l (OfPart (Elseif c)) close final size block rest from finish middle last high h1 h2 h3 h4 b r =
    ascends_lower (3 * l) (3 * l + 2) (3 * high + 2) _ (omega arith)
    (ascends_both (3 * l + 2) (3 * middle + 2) (3 * high + 2) (block (suc from + cond_size c)) (rest (suc from + (cond_size c + (size + part_end_size final)))) (b (suc from + cond_size c)) (r (suc from + (cond_size c + (size + part_end_size final)))))
section_ascends l (OfPart Else) close final size block rest from finish middle last high h1 h2 h3 h4 b r =
    ascends_lower (3 * l) (3 * l + 2) (3 * high + 2) _ (omega arith) (ascends_higher (3 * l + 2) (3 * middle + 2) (3 * high + 2) (block from) (omega (arith, h2, h3, h4)) (b from))
  where
    ascends_higher : (a c d : ℕ) (xs : Labels) → c ≤ d → Ascends a c xs → Ascends a d xs
    ascends_higher a c d [] h p = omega (arith, h, p)
    ascends_higher a c d (x ∷ xs) h p = (p.0, ascends_higher (key x.0) c d xs h p.1)
section_ascends l (OfPart (Do loopc)) close final size block rest from finish middle last high h1 h2 h3 h4 b r = (
  omega arith,
  (
    omega arith,
    ascends_both (3 * l + 2) (3 * middle + 2) (3 * high + 2) (block (suc from + loopc_size loopc)) (closing_labels close.line close.item (suc from + (loopc_size loopc + size))) (b (suc from + loopc_size loopc)) (closing_ascends close.line close.item (suc from + (loopc_size loopc + size)) middle high (omega (arith, h2, h3)) h4),
  ),
)
section_ascends l _ close final size block rest from finish middle last high h1 h2 h3 h4 b r = omega (arith, h1, h2, h3, h4)

abbrev BlockAscends : Block → Type 0
BlockAscends b = (low high from : ℕ) → Rises low high (block_numbers b) → Ascends (3 * low + 2) (3 * high + 2) (block_labels b from)

abbrev SectionsAscend : Sections → NumLine → Type 0
SectionsAscend sections close = (from finish low last high : ℕ) → Rises low last (sections_numbers sections) → last < close.line → close.line ≤ high → Ascends (3 * low + 2) (3 * high + 2) (sections_labels sections close from finish)

more_ascends : (head : NumLine) (body : Block) (rest : Sections) (close : NumLine) → BlockAscends body → SectionsAscend rest close → (from finish last high : ℕ) → Rises head.line last (block_numbers body ++ sections_numbers rest) → last < close.line → close.line ≤ high → Ascends (3 * head.line) (3 * high + 2) (sections_labels (MoreSections head body rest) close from finish)
more_ascends head body rest close hb hr from finish last high r h k =
    let s = rises_split (block_numbers body) (sections_numbers rest) head.line last r in
    section_ascends head.line head.item close (is_last rest) (block_size body) (λ from1. block_labels body from1) (λ from1. sections_labels rest close from1 finish) from finish s.0 last high (rises_le (block_numbers body) head.line s.0 s.1) (rises_le (sections_numbers rest) s.0 last s.2) h k
    (λ f. hb head.line s.0 f s.1)
    (λ f. hr f finish s.0 last high s.2 h k)

mutual
  -- with the label of the statement's own line
  stmt_ascends : (s : Stmt) (low high from : ℕ) → Rises low high (stmt_numbers s) → Ascends (3 * low + 2) (3 * high + 2) ((LineOf (line_of s), from) ∷ stmt_labels s from)
  stmt_ascends (Single head) low high from r = (let h = r.0 in omega (arith, h), let h = r.0 in let k = r.1 in omega (arith, h, k))
  stmt_ascends (Nest NoSections close) low high from r = (let h = r.0 in omega (arith, h), let h = r.0 in let k = r.1 in omega (arith, h, k))
  stmt_ascends (Nest (MoreSections head body rest) close) low high from r =
      let s = rises_split (sections_numbers (MoreSections head body rest)) (close.line ∷ []) low high r in
      let h = s.1.0 in
      (omega (arith, h), more_ascends head body rest close (block_ascends body) (sections_ascends rest close) from (from + sections_size (MoreSections head body rest) close) s.0 high s.1.1 s.2.0 s.2.1)

  sections_ascends : (sections : Sections) (close : NumLine) → SectionsAscend sections close
  sections_ascends NoSections close from finish low last high r h k = omega (arith, r, h, k)
  sections_ascends (MoreSections head body rest) close from finish low last high r h k =
      let g = r.0 in
      ascends_lower (3 * low + 2) (3 * head.line) (3 * high + 2) _ (omega (arith, g)) (more_ascends head body rest close (block_ascends body) (sections_ascends rest close) from finish last high r.1 h k)

  block_ascends : (b : Block) → BlockAscends b
  block_ascends NoStmts low high from r = omega (arith, r)
  block_ascends (MoreStmts s rest) low high from r =
      let p = rises_split (stmt_numbers s) (block_numbers rest) low high r in
      ascends_both (3 * low + 2) (3 * p.0 + 2) (3 * high + 2) ((LineOf (line_of s), from) ∷ stmt_labels s from) (block_labels rest (from + stmt_size s)) (stmt_ascends s low p.0 from p.1) (block_ascends rest p.0 high (from + stmt_size s) p.2)

-- each target of a program whose line numbers rise has its address
pub program_solves : (b : Block) (close : NumLine) (from : ℕ) → rise_above 0 (block_numbers b ++ close.line ∷ []) ≡ true → Solves (address_in (block_labels b 0 ++ closing_labels close.line close.item from)) (block_labels b 0 ++ closing_labels close.line close.item from)
program_solves b close from e =
    let r = rises_of 0 (block_numbers b ++ close.line ∷ []) e in
    let s = rises_split (block_numbers b) (close.line ∷ []) 0 r.0 r.1 in
    own_addresses (block_labels b 0 ++ closing_labels close.line close.item from) (3 * 0 + 2) (3 * r.0 + 2)
    (ascends_both (3 * 0 + 2) (3 * s.0 + 2) (3 * r.0 + 2) (block_labels b 0) (closing_labels close.line close.item from) (block_ascends b 0 s.0 0 s.1) (closing_ascends close.line close.item from s.0 r.0 s.2.0 s.2.1))
