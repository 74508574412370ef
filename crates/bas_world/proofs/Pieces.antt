-- Pieces of files, and lists of numbers.
use Rattle.std.proofs.Common.{◌≡◌, ℕ, suc, ◌+◌, ◌-◌, ◌^◌, ◌<◌, ◌≤◌, ◌==◌, false, List, [], ◌∷◌, ◌++◌, length, take, drop, replicate, get_or, max, refl, ap, sym, ◌∙◌, arith, ⊎_elim}
use Rattle.std.specs.List.{list_any}
use Rattle.std.proofs.lemmas.List.{take-append-le, take-replicate, take_all, drop_all, append-nil, length-replicate, length-append}
use Rattle.std.proofs.Math.Seq.{take-append-add, take-append_seam}
use Rattle.std.proofs.lemmas.Bool.{ne_eqb, cases_lt}
use Rattle.bas_world.specs.Files.{overwritten}

-- no number of 64 bits is one past them
pub unlisted : (listed : List ℕ) (number : ℕ) → ((i : ℕ) → get_or listed i 0 < 2 ^ 64) → 2 ^ 64 ≤ number
    → false ≡ list_any (λ n. n == number) listed
unlisted [] number fits past = refl
unlisted (n ∷ listed) number fits past =
    let small : n < 2 ^ 64 = fits 0 in
    let rest : false ≡ list_any (λ n. n == number) listed = unlisted listed number (λ i. fits (suc i)) past in
    rw (ne_eqb n number (λ same. omega arith)) rest

-- the front of a file with zeros behind it, where there are enough of them
front-filled : (old : List ℕ) (at zeros : ℕ) → at ≤ length old + zeros
    → take at (old ++ replicate zeros 0) ≡ take at (old ++ replicate (at - length old) 0)
front-filled old at zeros enough =
    ⊎_elim
    (λ (past : length old < at).
    let gap : at ≡ length old + (at - length old) = omega arith in
    let few : at - length old ≤ zeros = omega arith in
    let through : (k : ℕ) → at - length old ≤ k → take (length old + (at - length old)) (old ++ replicate k 0) ≡ old ++ replicate (at - length old) 0 =
    λ k enough. take-append-add old (replicate k 0) (at - length old) ∙ ap (λ l. old ++ l) (take-replicate (at - length old) k 0 enough) in
    ap (λ n. take n (old ++ replicate zeros 0)) gap ∙ through zeros few
    ∙ sym (through (at - length old) (omega arith)) ∙ ap (λ n. take n (old ++ replicate (at - length old) 0)) (sym gap))
    (λ (inside : at ≤ length old). take-append-le at old _ inside ∙ sym (take-append-le at old _ inside))
    (cases_lt (length old) at)

-- what lies behind a write
back-filled : (old : List ℕ) (end : ℕ)
    → drop end (old ++ replicate (max (length old) end - length old) 0) ≡ drop end old
back-filled old end =
    ⊎_elim
    (λ (past : length old < end).
    drop_all end _ (simp (length-append, length-replicate) (omega arith)) ∙ sym (drop_all end old (omega arith)))
    (λ (inside : end ≤ length old).
    let none : max (length old) end - length old ≡ 0 = omega arith in
    rw none (ap (drop end) (append-nil old)))
    (cases_lt (length old) end)

-- a file that is filled up with zeros and then overwritten
pub filled-overwritten : (old piece : List ℕ) (at size len : ℕ) → (whole : List ℕ)
    → size ≡ max (length old) (at + length piece) → len ≡ length old → whole ≡ take size old ++ replicate (size - len) 0
    → take at whole ++ piece ++ drop (at + length piece) whole ≡ overwritten old at piece
filled-overwritten old piece at size len whole grown long is =
    let end : ℕ = at + length piece in
    let zeros : ℕ = max (length old) end - length old in
    let filled : whole ≡ old ++ replicate zeros 0 =
    is ∙ ap (λ n. take n old ++ replicate (n - len) 0) grown ∙ ap (λ n. take (max (length old) end) old ++ replicate (max (length old) end - n) 0) long
    ∙ ap (λ l. l ++ replicate zeros 0) (take_all (max (length old) end) old (omega arith)) in
    rw filled (
    rw (front-filled old at zeros (omega arith))
    (ap (λ l. take at (old ++ replicate (at - length old) 0) ++ piece ++ l) (back-filled old end)))

-- what a buffer holds after all of it was written
pub written-back : (n : ℕ) (new old : List ℕ) → length new ≡ n → take n (new ++ drop (length new) old) ≡ new
written-back n new old long = rw (sym long) (take-append_seam new (drop (length new) old))
