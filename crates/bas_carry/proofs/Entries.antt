-- The line table that the functions make gives each line's entry at each of its addresses.
use Rattle.std.proofs.Common.{◌≡◌, ℕ, suc, ◌+◌, ◌<◌, ◌≤◌, Bool, true, false, List, [], ◌∷◌, ◌++◌, Some, refl, ap, ◌∙◌, arith}
use Rattle.std.specs.Prelude.{◌&&◌, nat_le, nat_lt, if◌then◌else◌}
use Rattle.std.proofs.lemmas.Bool.{le-leb, lt-ltb, ltb-true}
use Rattle.bas_ast.specs.Tree.{Alone, IfThen, OnGoto, OnGosub, If, Elseif, Else, Do, Loop, End, LineItem, Nothing, Rem, OfSimple, OfPart, NumLine, Stmt, Single, Nest, Sections, NoSections, MoreSections, Block, NoStmts, MoreStmts}
use Rattle.bas_code.specs.declared.body.LineEntry.{LineEntry}
use Rattle.bas_code.specs.Guards.{entry_at}
use Rattle.bas_carry.specs.Constructs.{is_last}
use Rattle.bas_carry.specs.Codes.{cond_size, loopc_size, single_size, closing_size, part_end_size, section_size, sections_size, stmt_size, block_size}
use Rattle.bas_carry.specs.Tables.{single_rows, closing_rows, section_rows, stmt_rows, sections_rows, block_rows}

-- a table gives an entry at each of its addresses
abbrev pub Finds : List LineEntry → LineEntry → Type 0
Finds table e = (pc : ℕ) → e.start ≤ pc → pc < e.end → entry_at table pc ≡ Some e

abbrev pub FindsAll : List LineEntry → List LineEntry → Type 0
FindsAll table [] = Unit {0}
FindsAll table (e ∷ es) = Finds table e × FindsAll table es

pub finds_front : (table xs ys : List LineEntry) → FindsAll table (xs ++ ys) → FindsAll table xs
finds_front table [] ys f = tt
finds_front table (x ∷ xs) ys f = (f.0, finds_front table xs ys f.1)

pub finds_back : (table xs ys : List LineEntry) → FindsAll table (xs ++ ys) → FindsAll table ys
finds_back table [] ys f = f
finds_back table (x ∷ xs) ys f = finds_back table xs ys f.1

-- entries that stand behind one another between two addresses
abbrev pub Within : ℕ → ℕ → List LineEntry → Type 0
Within a b [] = a ≤ b
Within a b (e ∷ es) = (a ≤ e.start) × (e.start ≤ e.end) × Within e.end b es

pub within_both : (a b c : ℕ) (xs ys : List LineEntry) → Within a b xs → Within b c ys → Within a c (xs ++ ys)
within_both a b c [] [] p q = omega (arith, p, q)
within_both a b c [] (y ∷ ys) p q = (let h = q.0 in omega (arith, p, h), q.1, q.2)
within_both a b c (x ∷ xs) ys p q = (p.0, p.1, within_both x.end b c xs ys p.2 q)

pub within_more : (a b c : ℕ) (xs : List LineEntry) → b ≤ c → Within a b xs → Within a c xs
within_more a b c [] h p = omega (arith, p, h)
within_more a b c (x ∷ xs) h p = (p.0, p.1, within_more x.end b c xs h p.2)

finds_first : (e : LineEntry) (es : List LineEntry) → Finds (e ∷ es) e
finds_first e es pc h k = ap (λ b. if b && nat_lt pc e.end then Some e else entry_at es pc) (le-leb e.start pc h) ∙ ap (λ b. if b then Some e else entry_at es pc) (lt-ltb pc e.end k)

past : (e : LineEntry) (es : List LineEntry) (pc : ℕ) (b : Bool) → nat_lt pc e.end ≡ b → e.end ≤ pc → entry_at (e ∷ es) pc ≡ entry_at es pc
past e es pc true q h = let k = ltb-true pc e.end q in absurd (omega (arith, k, h))
past e es pc false q h = ap (λ b. if nat_le e.start pc && b then Some e else entry_at es pc) q ∙ none (nat_le e.start pc)
  where
    none : (c : Bool) → (if c && false then Some e else entry_at es pc) ≡ entry_at es pc
    none true = refl
    none false = refl

behind : (e : LineEntry) (table es : List LineEntry) (a b : ℕ) → e.end ≤ a → Within a b es → FindsAll table es → FindsAll (e ∷ table) es
behind e table [] a b h w f = tt
behind e table (x ∷ xs) a b h w f = (
  (λ pc p q. past e table pc (nat_lt pc e.end) refl (let s = w.0 in omega (arith, h, s, p)) ∙ f.0 pc p q),
  behind e table xs x.end b (let s = w.0 in let t = w.1 in omega (arith, h, s, t)) w.2 f.1,
)

-- a table whose entries stand behind one another gives each of them
pub finds_own : (es : List LineEntry) (a b : ℕ) → Within a b es → FindsAll es es
finds_own [] a b w = tt
finds_own (e ∷ es) a b w = (finds_first e es, behind e es es e.end b (omega arith) w.2 (finds_own es e.end b w.2))

single_within : (l : ℕ) (item : LineItem) (from : ℕ) → Within from (from + single_size item) (single_rows l item from)
single_within l Nothing from = (omega arith, omega arith, omega arith)
single_within l (Rem bytes) from = (omega arith, omega arith, omega arith)
single_within l (OfSimple (Alone plain)) from = (omega arith, omega arith, omega arith)
single_within l (OfSimple (IfThen c a b)) from = omega arith
single_within l (OfSimple (OnGoto x ls e)) from = omega arith
single_within l (OfSimple (OnGosub x ls e)) from = omega arith
single_within l _ from = omega arith

-- the row of LOOP has the jump back behind it
pub closing_within : (l : ℕ) (item : LineItem) (from behind to : ℕ) → suc (from + closing_size item) ≤ to → Within from to (closing_rows l item from behind)
closing_within l (OfPart (Loop loopc)) from behind to h = (omega arith, omega arith, omega (arith, h))
closing_within l (OfPart End) from behind to h = (omega arith, omega arith, omega (arith, h))
closing_within l _ from behind to h = omega (arith, h)

section_within : (l : ℕ) (item : LineItem) (close : NumLine) (final : Bool) (size rest_size : ℕ) (block rest : ℕ → List LineEntry) (from finish : ℕ) → ((f : ℕ) → Within f (f + size) (block f)) → ((f : ℕ) → Within f (f + rest_size) (rest f)) → Within from (from + section_size item close.item final size rest_size) (section_rows l item close final size block rest from finish)
section_within l (OfPart (If c)) close final size rest_size block rest from finish b r = (
  omega arith,
  omega arith,
  within_both (suc from + cond_size c) (suc from + (cond_size c + (size + part_end_size final))) (from + (1 + (cond_size c + (size + (part_end_size final + rest_size))))) (block (suc from + cond_size c)) (rest (suc from + (cond_size c + (size + part_end_size final))))
      (within_more (suc from + cond_size c) (suc from + cond_size c + size) (suc from + (cond_size c + (size + part_end_size final))) (block (suc from + cond_size c)) (omega arith) (b (suc from + cond_size c)))
      (within_more (suc from + (cond_size c + (size + part_end_size final))) (suc from + (cond_size c + (size + part_end_size final)) + rest_size) (from + (1 + (cond_size c + (size + (part_end_size final + rest_size))))) (rest (suc from + (cond_size c + (size + part_end_size final)))) (omega arith) (r (suc from + (cond_size c + (size + part_end_size final))))),
)
section_within l (OfPart (Elseif c)) close final size rest_size block rest from finish b r = (
  omega arith,
  omega arith,
  within_both (suc from + cond_size c) (suc from + (cond_size c + (size + part_end_size final))) (from + (1 + (cond_size c + (size + (part_end_size final + rest_size))))) (block (suc from + cond_size c)) (rest (suc from + (cond_size c + (size + part_end_size final))))
      (within_more (suc from + cond_size c) (suc from + cond_size c + size) (suc from + (cond_size c + (size + part_end_size final))) (block (suc from + cond_size c)) (omega arith) (b (suc from + cond_size c)))
      (within_more (suc from + (cond_size c + (size + part_end_size final))) (suc from + (cond_size c + (size + part_end_size final)) + rest_size) (from + (1 + (cond_size c + (size + (part_end_size final + rest_size))))) (rest (suc from + (cond_size c + (size + part_end_size final)))) (omega arith) (r (suc from + (cond_size c + (size + part_end_size final))))),
)
section_within l (OfPart Else) close final size rest_size block rest from finish b r = b from
section_within l (OfPart (Do loopc)) close final size rest_size block rest from finish b r = (
  omega arith,
  omega arith,
  within_both (suc from + loopc_size loopc) (suc from + (loopc_size loopc + size)) (from + (1 + (loopc_size loopc + (size + (closing_size close.item + 1))))) (block (suc from + loopc_size loopc)) (closing_rows close.line close.item (suc from + (loopc_size loopc + size)) finish)
      (within_more (suc from + loopc_size loopc) (suc from + loopc_size loopc + size) (suc from + (loopc_size loopc + size)) (block (suc from + loopc_size loopc)) (omega arith) (b (suc from + loopc_size loopc)))
      (closing_within close.line close.item (suc from + (loopc_size loopc + size)) finish (from + (1 + (loopc_size loopc + (size + (closing_size close.item + 1))))) (omega arith)),
)
section_within l _ close final size rest_size block rest from finish b r = omega arith

mutual
  pub stmt_within : (s : Stmt) (from : ℕ) → Within from (from + stmt_size s) (stmt_rows s from)
  stmt_within (Single head) from = single_within head.line head.item from
  stmt_within (Nest sections close) from = sections_within sections close from (from + sections_size sections close)

  pub sections_within : (sections : Sections) (close : NumLine) (from finish : ℕ) → Within from (from + sections_size sections close) (sections_rows sections close from finish)
  sections_within NoSections close from finish = omega arith
  sections_within (MoreSections head body rest) close from finish =
      section_within head.line head.item close (is_last rest) (block_size body) (sections_size rest close) (λ from1. block_rows body from1) (λ from1. sections_rows rest close from1 finish) from finish
      (λ f. block_within body f) (λ f. sections_within rest close f finish)

  pub block_within : (b : Block) (from : ℕ) → Within from (from + block_size b) (block_rows b from)
  block_within NoStmts from = omega arith
  block_within (MoreStmts s rest) from =
      within_both from (from + stmt_size s) (from + (stmt_size s + block_size rest)) (stmt_rows s from) (block_rows rest (from + stmt_size s)) (stmt_within s from)
      (within_more (from + stmt_size s) (from + stmt_size s + block_size rest) (from + (stmt_size s + block_size rest)) (block_rows rest (from + stmt_size s)) (omega arith) (block_within rest (from + stmt_size s)))
