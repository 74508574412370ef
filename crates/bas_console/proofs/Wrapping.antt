-- How an item falls into lines.
use Rattle.std.proofs.Common.{◌≡◌, ℕ, zero, suc, ◌+◌, ◌<◌, ◌≤◌, min, Bool, true, false, cond, eqb, ltb, inl, inr, List, [], ◌∷◌, ◌++◌, length, refl, ap, sym, ◌∙◌, subst, append_assoc, append-nil, length-append, add-zero, arith}
use Rattle.std.proofs.lemmas.Bool.{lt-ltb, le-ltb, eq-eqb, ne_eqb, and_from, and_right, cases_eq, cases_lt}
use Rattle.std.proofs.Math.Nat.{min-eq_left, min-eq_right}
use Rattle.bas_console.specs.Layout.{Printed, Step, nothing, placed, line_end, ended_where, sequence, needs_end, wrapped, item}

-- where the column does not call for the end of the line, the step that follows is all
pub not-ended : (test : ℕ → Bool) (next : Step) (column : ℕ) → test column ≡ false → sequence (ended_where test) next column ≡ next column
not-ended test next column h = ap (λ b. sequence (λ c. cond b (line_end c) (nothing c)) next column) h

-- where it does, the line ends before the step that follows
pub ended-first : (test : ℕ → Bool) (next : Step) (column : ℕ) → test column ≡ true → sequence (ended_where test) next column ≡ sequence line_end next column
ended-first test next column h = ap (λ b. sequence (λ c. cond b (line_end c) (nothing c)) next column) h

-- tests that are the same at the column end the same line
pub ended-same : (test other : ℕ → Bool) (next : Step) (column : ℕ) → test column ≡ other column → sequence (ended_where test) next column ≡ sequence (ended_where other) next column
ended-same test other next column h = ap (λ b. sequence (λ c. cond b (line_end c) (nothing c)) next column) h

-- only what the second step does at the column after the first one matters
pub sequence-next : (first second other : Step) (column : ℕ) → second (first column).column ≡ other (first column).column → sequence first second column ≡ sequence first other column
sequence-next first second other column h = ap (λ (q : Printed). record { bytes = (first column).bytes ++ q.bytes; column = q.column }) h

-- three steps one after the other
pub sequence-assoc : (first second third : Step) (column : ℕ) → sequence (sequence first second) third column ≡ sequence first (sequence second third) column
sequence-assoc first second third column =
    let p : Printed = first column in
    let q : Printed = second p.column in
    let r : Printed = third q.column in
    ap (λ (bytes : List ℕ). record { bytes = bytes; column = r.column }) (append_assoc p.bytes q.bytes r.bytes)

-- bytes that fit are placed
pub wrapped-fits : (margin : ℕ) (text : List ℕ) (column : ℕ) → column + length text ≤ margin → wrapped margin text column ≡ placed text column
unfolding wrapped
wrapped-fits margin [] column h = ap (λ (k : ℕ). record { bytes = []; column = k }) (sym (add-zero column))
wrapped-fits margin (b ∷ bs) column h =
    let below : column + suc (length bs) ≤ margin = h in
    not-ended (λ c. eqb c margin) (sequence (placed (b ∷ [])) (wrapped margin bs)) column (ne_eqb column margin (λ e. absurd (omega arith)))
    ∙ ap (λ (p : Printed). record { bytes = b ∷ p.bytes; column = p.column }) (wrapped-fits margin bs (column + 1) (omega arith))
    ∙ ap (λ (k : ℕ). record { bytes = b ∷ bs; column = k }) (omega arith)

-- bytes that fit after the line has ended where it has to
pub item-piece : (margin : ℕ) (text : List ℕ) (column : ℕ) → (ended_where (needs_end margin (length text)) column).column + length text ≤ margin → item margin text column ≡ sequence (ended_where (needs_end margin (length text))) (placed text) column
unfolding item
item-piece margin text column h =
    sequence-next (ended_where (needs_end margin (length text))) (wrapped margin text) (placed text) column (wrapped-fits margin text _ h)

-- text is wrapped part by part
pub wrapped-append : (margin : ℕ) (first rest : List ℕ) (column : ℕ) → wrapped margin (first ++ rest) column ≡ sequence (wrapped margin first) (wrapped margin rest) column
unfolding wrapped
wrapped-append margin [] rest column = refl
wrapped-append margin (b ∷ bs) rest column =
    let ended : Step = ended_where (λ c. eqb c margin) in
    let byte : Step = placed (b ∷ []) in
    sequence-next ended (sequence byte (wrapped margin (bs ++ rest))) (sequence byte (sequence (wrapped margin bs) (wrapped margin rest))) column
    (sequence-next byte (wrapped margin (bs ++ rest)) (sequence (wrapped margin bs) (wrapped margin rest)) (ended column).column (wrapped-append margin bs rest _))
    ∙ sequence-next ended (sequence byte (sequence (wrapped margin bs) (wrapped margin rest))) (sequence (sequence byte (wrapped margin bs)) (wrapped margin rest)) column
    (sym (sequence-assoc byte (wrapped margin bs) (wrapped margin rest) (ended column).column))
    ∙ sym (sequence-assoc ended (sequence byte (wrapped margin bs)) (wrapped margin rest) column)

-- at the margin the line ends before the next byte, and so it does before an item
pub full-line : (margin : ℕ) (rest : List ℕ) → 1 ≤ margin → 0 < length rest → wrapped margin rest margin ≡ item margin rest margin
unfolding item wrapped
full-line margin [] room some = absurd (omega arith)
full-line margin (b ∷ bs) room some =
    let more : 0 < suc (length bs) = some in
    let next : Step = sequence (placed (b ∷ [])) (wrapped margin bs) in
    ended-first (λ c. eqb c margin) next margin (eq-eqb margin margin refl)
    ∙ ap (λ (p : Printed). record { bytes = 10 ∷ p.bytes; column = p.column }) (sym (not-ended (λ c. eqb c margin) next 0 (ne_eqb 0 margin (λ e. absurd (omega arith)))))
    ∙ sym (ended-first (needs_end margin (suc (length bs))) (wrapped margin (b ∷ bs)) margin (and_from _ _ (lt-ltb 0 margin (omega arith)) (lt-ltb margin (margin + suc (length bs)) (omega arith))))

-- an item of just the margin leaves the column at the margin
pub column-item-margin : (margin : ℕ) (text : List ℕ) (column : ℕ) → length text ≡ margin → (item margin text column).column ≡ margin
unfolding item wrapped
column-item-margin margin text zero e =
    ap (λ (p : Printed). p.column) (wrapped-fits margin text 0 (omega arith)) ∙ (omega arith)
column-item-margin margin text (suc c) e =
    ap (λ (p : Printed). p.column) (ended-first (needs_end margin (length text)) (wrapped margin text) (suc c) (and_from _ _ (lt-ltb 0 (suc c) (omega arith)) (lt-ltb margin (suc c + length text) (omega arith))))
    ∙ ap (λ (p : Printed). p.column) (wrapped-fits margin text 0 (omega arith)) ∙ (omega arith)

-- an item past the margin needs the end of the line where an item of just the margin does
needs_end-margin : (margin count column : ℕ) → margin ≤ count → needs_end margin count column ≡ needs_end margin margin column
needs_end-margin margin count zero h = refl
needs_end-margin margin count (suc c) h =
    let begun : ltb 0 (suc c) ≡ true = lt-ltb 0 (suc c) (omega arith) in
    and_from _ _ begun (lt-ltb margin (suc c + count) (omega arith)) ∙ sym (and_from _ _ begun (lt-ltb margin (suc c + margin) (omega arith)))

-- an item that is longer than the margin is its first piece of the margin, and then the rest
pub item_cut : (margin column : ℕ) (first rest : List ℕ) → 1 ≤ margin → length first ≡ margin → 0 < length rest → item margin (first ++ rest) column ≡ sequence (item margin first) (item margin rest) column
unfolding item wrapped
item_cut margin column first rest room size some =
    ended-same (needs_end margin (length (first ++ rest))) (needs_end margin (length first)) (wrapped margin (first ++ rest)) column
    (needs_end-margin margin (length (first ++ rest)) column (omega (arith, length-append first rest)) ∙ ap (λ n. needs_end margin n column) (sym size))
    ∙ sequence-next (ended_where (needs_end margin (length first))) (wrapped margin (first ++ rest)) (sequence (wrapped margin first) (wrapped margin rest)) column (wrapped-append margin first rest _)
    ∙ sym (sequence-assoc (ended_where (needs_end margin (length first))) (wrapped margin first) (wrapped margin rest) column)
    ∙ sequence-next (item margin first) (wrapped margin rest) (item margin rest) column
    (subst (λ k. wrapped margin rest k ≡ item margin rest k) (sym (column-item-margin margin first column size)) (full-line margin rest room some))

-- the column after an end of the line is no further than before
pub column-ended_where : (test : ℕ → Bool) (column : ℕ) → (ended_where test column).column ≤ column
column-ended_where test column = elim (test column) as (λ b. (cond b (line_end column) (nothing column)).column ≤ column) [ true ↦ omega arith | false ↦ omega arith ]

-- a byte stays within the margin
pub column-byte : (margin column : ℕ) → 1 ≤ margin → column ≤ margin → (ended_where (λ c. eqb c margin) column).column + 1 ≤ margin
column-byte margin column room within = elim (cases_eq column margin) [
  | inl e ↦ subst (λ b. (cond b (line_end column) (nothing column)).column + 1 ≤ margin) (sym (eq-eqb column margin e)) room
  | inr ne ↦ subst (λ b. (cond b (line_end column) (nothing column)).column + 1 ≤ margin) (sym (ne_eqb column margin ne)) (grind arith)
]

-- wrapped text stays within the margin
pub column-wrapped : (margin : ℕ) (text : List ℕ) (column : ℕ) → 1 ≤ margin → column ≤ margin → (wrapped margin text column).column ≤ margin
unfolding wrapped
column-wrapped margin [] column room within = within
column-wrapped margin (b ∷ bs) column room within = column-wrapped margin bs ((ended_where (λ c. eqb c margin) column).column + 1) room (column-byte margin column room within)

-- an item stays within the margin
pub column_item : (margin : ℕ) (text : List ℕ) (column : ℕ) → 1 ≤ margin → column ≤ margin → (item margin text column).column ≤ margin
unfolding item
column_item margin text column room within =
    let ended : ℕ = (ended_where (needs_end margin (length text)) column).column in
    let less : ended ≤ column = column-ended_where (needs_end margin (length text)) column in
    column-wrapped margin text ended room (omega arith)

-- an empty item is nothing
pub item-empty : (margin column : ℕ) → column ≤ margin → item margin [] column ≡ nothing column
unfolding item wrapped
item-empty margin column within = not-ended (needs_end margin 0) nothing column (and_right _ _ (le-ltb margin (column + 0) (omega arith)))

-- some more is more
more_than : (n k : ℕ) → n < n + suc k
more_than n k = omega arith

pub some-more : (n : ℕ) → 0 < suc n
some-more n = omega arith

-- a piece with more behind it is of just the margin
whole-piece : (margin size total : ℕ) → size ≡ min margin total → size < total → size ≡ margin
whole-piece margin size total e more = elim (cases_lt total margin) [
  | inl less ↦ absurd (omega (arith, min-eq_right {n = margin} {m = total} (omega arith)))
  | inr le ↦ e ∙ min-eq_left le
]

-- an item is its first piece, and then the rest
pub item-chunk : (margin column : ℕ) (piece rest : List ℕ) → 1 ≤ margin → column ≤ margin → length piece ≡ min margin (length (piece ++ rest)) → item margin (piece ++ rest) column ≡ sequence (item margin piece) (item margin rest) column
item-chunk margin column piece [] room within size =
    let first : Printed = item margin piece column in
    let behind : item margin [] first.column ≡ nothing first.column = item-empty margin first.column (column_item margin piece column room within) in
    ap (λ text. item margin text column) (append-nil piece)
    ∙ ap (λ (bytes : List ℕ). record { bytes = bytes; column = first.column }) (sym (append-nil first.bytes))
    ∙ sequence-next (item margin piece) nothing (item margin []) column (sym behind)
item-chunk margin column piece (b ∷ bs) room within size =
    let longer : length piece < length (piece ++ b ∷ bs) = subst (λ n. length piece < n) (sym (length-append piece (b ∷ bs))) (more_than (length piece) (length bs)) in
    item_cut margin column piece (b ∷ bs) room (whole-piece margin (length piece) (length (piece ++ b ∷ bs)) size longer) (some-more (length bs))
