-- Laws of the layout.
use Rattle.std.proofs.Common.{◌≡◌, ℕ, suc, ◌+◌, ◌-◌, ◌%◌, ◌<◌, ◌≤◌, true, false, cond, eqb, ltb, List, [], ◌∷◌, length, ap, sym, ◌∙◌, subst, zero-add, arith, inl, inr}
use Rattle.std.proofs.lemmas.Bool.{lt-ltb, le-ltb, ne_eqb, and_from, and_right, cases_Bool, ltb-true}
use Rattle.std.proofs.Math.Nat.{mod-lt, mod-eq_of_lt}
use Rattle.bas_console.specs.Layout.{Printed, nothing, placed, line_end, spaced_to, ended_where, sequence, needs_end, wrapped, item, comma, tab, next_zone}
use Rattle.bas_console.specs.Laws.{HasLineEnds, Empty, OnLine, OnNext}
use Rattle.bas_console.proofs.Wrapping.{not-ended, ended-first, wrapped-fits, item-empty}

-- wrapped text has line ends before some bytes
wrapped-bytes : (margin : ℕ) (text : List ℕ) (column : ℕ) → HasLineEnds text (wrapped margin text column).bytes
unfolding wrapped
wrapped-bytes margin [] column = Empty
wrapped-bytes margin (b ∷ bs) column =
    elim (eqb column margin) as (λ t. HasLineEnds (b ∷ bs) (sequence (λ c. cond t (line_end c) (nothing c)) (sequence (placed (b ∷ [])) (wrapped margin bs)) column).bytes) [
      | true ↦ OnNext (wrapped-bytes margin bs 1)
      | false ↦ OnLine (wrapped-bytes margin bs (column + 1))
    ]

-- so has text on a new line
ended-bytes : (margin b : ℕ) (bs : List ℕ) → 1 ≤ margin → HasLineEnds (b ∷ bs) (10 ∷ (wrapped margin (b ∷ bs) 0).bytes)
unfolding wrapped
ended-bytes margin b bs room =
    let start = not-ended (λ c. eqb c margin) (sequence (placed (b ∷ [])) (wrapped margin bs)) 0 (ne_eqb 0 margin (λ e. absurd (omega arith))) in
    subst (λ (p : Printed). HasLineEnds (b ∷ bs) (10 ∷ p.bytes)) (sym start) (OnNext (wrapped-bytes margin bs 1))

pub item_bytes : (margin column : ℕ) (text : List ℕ) → 1 ≤ margin → column ≤ margin → HasLineEnds text (item margin text column).bytes
unfolding item
item_bytes margin column [] room within = subst (λ (p : Printed). HasLineEnds [] p.bytes) (sym (item-empty margin column within)) Empty
item_bytes margin column (b ∷ bs) room within =
    elim (needs_end margin (suc (length bs)) column) as (λ t. HasLineEnds (b ∷ bs) (sequence (λ c. cond t (line_end c) (nothing c)) (wrapped margin (b ∷ bs)) column).bytes) [
      | true ↦ ended-bytes margin b bs room
      | false ↦ wrapped-bytes margin (b ∷ bs) column
    ]

pub item_here : (margin column : ℕ) (text : List ℕ) → column + length text ≤ margin → item margin text column ≡ placed text column
unfolding item
item_here margin column text fits = not-ended (needs_end margin (length text)) (wrapped margin text) column (and_right _ _ (le-ltb margin (column + length text) fits)) ∙ wrapped-fits margin text column fits

pub item_below : (margin column : ℕ) (text : List ℕ) → 0 < column → margin < column + length text → length text ≤ margin → item margin text column ≡ record { bytes = 10 ∷ text; column = length text }
unfolding item
item_below margin column text begun past short =
    ended-first (needs_end margin (length text)) (wrapped margin text) column (and_from _ _ (lt-ltb 0 column begun) (lt-ltb margin (column + length text) past))
    ∙ ap (λ (p : Printed). record { bytes = 10 ∷ p.bytes; column = p.column }) (wrapped-fits margin text 0 (subst (λ k. k ≤ margin) (sym (zero-add (length text))) short))
    ∙ ap (λ (k : ℕ). record { bytes = 10 ∷ text; column = k }) (zero-add (length text))

pub comma_before : (margin column : ℕ) → 1 ≤ margin → (comma margin column).column < margin
unfolding comma
comma_before margin column room = elim (cases_Bool (ltb (next_zone column) margin)) [
  | inl e ↦ subst (λ b. (cond b (spaced_to (next_zone column) column) (line_end column)).column < margin) (sym e) (ltb-true (next_zone column) margin e)
  | inr e ↦ subst (λ b. (cond b (spaced_to (next_zone column) column) (line_end column)).column < margin) (sym e) room
]

pub tab_before : (margin n column : ℕ) → 1 ≤ margin → (tab margin n column).column < margin
unfolding tab
tab_before margin n column room = mod-lt (n - 1) room

pub tab_place : (margin n column : ℕ) → 1 ≤ n → n ≤ margin → (tab margin n column).column ≡ n - 1
unfolding tab
tab_place margin n column from to = mod-eq_of_lt {n = n - 1} {m = margin} (omega arith)

pub tab_reduced : (margin n column : ℕ) → 1 ≤ margin → tab margin ((n - 1) % margin + 1) column ≡ tab margin n column
unfolding tab
tab_reduced margin n column room =
    let below : (n - 1) % margin < margin = mod-lt (n - 1) room in
    let same : ((n - 1) % margin + 1 - 1) % margin ≡ (n - 1) % margin = ap (λ k. k % margin) (omega arith) ∙ mod-eq_of_lt below in
    ap (λ t. sequence (ended_where (λ c. ltb t c)) (spaced_to t) column) same
