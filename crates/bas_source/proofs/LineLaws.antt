-- A text, line by line.
use Rattle.std.proofs.Common.{◌≡◌, ℕ, ◌+◌, ◌<◌, Bool, true, false, not, cond, List, [], ◌∷◌, ◌++◌, length, take, drop, refl, ap, sym, ◌∙◌, arith, suc, append_assoc, append-nil, eqb}
use Rattle.std.proofs.lemmas.Bool.{eqb-true}
use Rattle.std.specs.List.{filter, position_or_len, before_first, after_first, onto_first}
use Rattle.bas_source.specs.Lines.{are_joined, is_line_end, is_written, joined_from, lines_of, onto_line, share}

-- where the first line ends
abbrev place : List ℕ → ℕ
place text = position_or_len is_line_end text

one_more : (p : ℕ) → 1 + p ≡ suc p
one_more p = omega arith

two_more : (p : ℕ) → 1 + p + 1 ≡ suc (p + 1)
two_more p = omega arith

lines_at : (c d : ℕ) (cs : List ℕ) (v : Bool) → is_line_end c ≡ v → lines_of (d ∷ cs) ≡ take (place (d ∷ cs)) (d ∷ cs) ∷ lines_of (drop (place (d ∷ cs) + 1) (d ∷ cs)) →
    lines_of (c ∷ d ∷ cs) ≡ take (cond (not v) (1 + place (d ∷ cs)) 0) (c ∷ d ∷ cs) ∷ lines_of (drop (cond (not v) (1 + place (d ∷ cs)) 0 + 1) (c ∷ d ∷ cs))
unfolding lines_of
lines_at c d cs true h e = rw h refl
lines_at c d cs false h e =
    let p : ℕ = place (d ∷ cs) in
    ap (λ (b : Bool). cond b ([] ∷ lines_of (d ∷ cs)) (onto_first c (lines_of (d ∷ cs)))) h
    ∙ ap (onto_first c) e
    ∙ ap (λ (n : ℕ). take n (c ∷ d ∷ cs) ∷ lines_of (drop (p + 1) (d ∷ cs))) (sym (one_more p))
    ∙ ap (λ (n : ℕ). take (1 + p) (c ∷ d ∷ cs) ∷ lines_of (drop n (c ∷ d ∷ cs))) (sym (two_more p))

last_at : (c : ℕ) (v : Bool) → is_line_end c ≡ v → lines_of (c ∷ []) ≡ take (cond (not v) 1 0) (c ∷ []) ∷ lines_of (drop (cond (not v) 1 0 + 1) (c ∷ []))
unfolding lines_of
last_at c true h = rw h refl
last_at c false h = rw h refl

-- the first line, and the lines behind it
lines_first : (c : ℕ) (cs : List ℕ) → lines_of (c ∷ cs) ≡ before_first is_line_end (c ∷ cs) ∷ lines_of (after_first is_line_end (c ∷ cs))
lines_first c [] = last_at c (is_line_end c) refl
lines_first c (d ∷ cs) = lines_at c d cs (is_line_end c) refl (lines_first d cs)

pub next_line : (rest : List ℕ) → 0 < length rest → lines_of rest ≡ before_first is_line_end rest ∷ lines_of (after_first is_line_end rest)
next_line [] h = absurd (omega arith)
next_line (c ∷ cs) h = lines_first c cs

pub no_lines : (rest : List ℕ) → length rest ≡ 0 → lines_of rest ≡ []
unfolding lines_of
no_lines [] h = refl
no_lines (c ∷ cs) h = absurd (omega arith)

-- a first line that is written is one of the written lines
pub next_written : (rest : List ℕ) → 0 < length rest → is_written (before_first is_line_end rest) ≡ true →
    filter is_written (lines_of rest) ≡ before_first is_line_end rest ∷ filter is_written (lines_of (after_first is_line_end rest))
next_written rest h w =
    let others : List (List ℕ) = filter is_written (lines_of (after_first is_line_end rest)) in
    ap (filter is_written) (next_line rest h) ∙ ap (λ (b : Bool). cond b (before_first is_line_end rest ∷ others) others) w

pub none_written : (rest : List ℕ) → length rest ≡ 0 → filter is_written (lines_of rest) ≡ []
none_written rest h = ap (filter is_written) (no_lines rest h)

onto_twice : (text : List ℕ) (lines : List (List ℕ)) → onto_line [] (onto_line text lines) ≡ onto_line text lines
onto_twice text [] = refl
onto_twice text (line ∷ lines) = refl

onto_by : (b joint : Bool) (line next : List ℕ) (lines : List (List ℕ)) →
    let found : List (List ℕ) = cond joint (onto_line (share b true line) (joined_from true next lines)) (share b false line ∷ joined_from false next lines) in
    onto_line [] found ≡ found
onto_by b true line next lines = onto_twice (share b true line) (joined_from true next lines)
onto_by b false line next lines = refl

-- nothing in front of the first line changes nothing
pub onto_nothing : (before : Bool) (line : List ℕ) (lines : List (List ℕ)) → onto_line [] (joined_from before line lines) ≡ joined_from before line lines
unfolding joined_from
onto_nothing before line [] = refl
onto_nothing before line (next ∷ lines) = onto_by before (are_joined line next) line next lines

-- one more written line, and those behind it
pub written_more : (lines : List (List ℕ)) (rest line others : List ℕ) → 0 < length rest → line ≡ before_first is_line_end rest → others ≡ after_first is_line_end rest → is_written line ≡ true →
    (lines ++ line ∷ []) ++ filter is_written (lines_of others) ≡ lines ++ filter is_written (lines_of rest)
written_more lines rest line others h l o w =
    append_assoc lines (line ∷ []) (filter is_written (lines_of others))
    ∙ ap (λ (xs : List (List ℕ)). lines ++ xs) (
    ap (λ (t : List ℕ). line ∷ filter is_written (lines_of t)) o
    ∙ ap (λ (t : List ℕ). t ∷ filter is_written (lines_of (after_first is_line_end rest))) l
    ∙ sym (next_written rest h (ap is_written (sym l) ∙ w)))

-- no line is left
pub written_end : (lines : List (List ℕ)) (rest : List ℕ) → length rest ≡ 0 → lines ≡ lines ++ filter is_written (lines_of rest)
written_end lines rest h = sym (ap (λ (xs : List (List ℕ)). lines ++ xs) (none_written rest h) ∙ append-nil lines)

pub some_left : (xs : List ℕ) → eqb (length xs) 0 ≡ false → 0 < length xs
some_left [] h = absurd (cc)
some_left (x ∷ xs) h = omega arith

pub none_left : (xs : List ℕ) → eqb (length xs) 0 ≡ true → length xs ≡ 0
none_left xs h = eqb-true (length xs) 0 h

-- a line that does not go on in the next
pub line_ends : (done : List (List ℕ)) (front text line next : List ℕ) (before : Bool) (lines : List (List ℕ)) → are_joined line next ≡ false → text ≡ front ++ share before false line →
    (done ++ text ∷ []) ++ onto_line [] (joined_from false next lines) ≡ done ++ onto_line front (joined_from before line (next ∷ lines))
unfolding joined_from
line_ends done front text line next before lines j t =
    append_assoc done (text ∷ []) (onto_line [] (joined_from false next lines))
    ∙ ap (λ (xs : List (List ℕ)). done ++ text ∷ xs) (onto_nothing false next lines)
    ∙ ap (λ (x : List ℕ). done ++ x ∷ joined_from false next lines) t
    ∙ sym (ap (λ (b : Bool). done ++ onto_line front (cond b (onto_line (share before true line) (joined_from true next lines)) (share before false line ∷ joined_from false next lines))) j)
