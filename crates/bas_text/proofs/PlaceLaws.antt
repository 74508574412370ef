-- The least place at which a string stands in another.
use Rattle.std.proofs.Common.{◌≡◌, ℕ, zero, suc, ◌+◌, ◌-◌, ◌<◌, ◌≤◌, max, Bool, true, false, List, ◌++◌, length, drop, Option, Some, None, refl, sym, ap, subst, ◌∙◌, arith, ⊎_elim, length-drop, drop-drop, ℤ}
use Rattle.std.specs.List.{range_with_len, find}
use Rattle.std.specs.Option.{unwrap_or}
use Rattle.std.proofs.lemmas.Bool.{cases_Bool, cases_eq, cond-true, cond-false}
use Rattle.std.proofs.lemmas.Bool.Decides.{Decides-eqb}
use Rattle.std.proofs.lemmas.Slice.Eq.{starts_is}
use Rattle.std.proofs.lemmas.List.Prefix.{at_from_reads, at_reads, front_fits}
use Rattle.memchr.specs.Find.{OccursAt, Nowhere, FindsNeedle}
use Rattle.bas_text.specs.Strings.{natural, stands_at, position}

-- ---- the first number of a range that passes a test

module _ (test : ℕ → Bool) where
  pub none_passes : (from count : ℕ) → ((k : ℕ) → from ≤ k → k < from + count → test k ≡ false) → find test (range_with_len from count) ≡ None
  none_passes from zero fails = refl
  none_passes from (suc count) fails =
      cond-false _ _ _ (fails from (omega arith) (omega arith))
      ∙ none_passes (from + 1) count (λ k low high. fails k (omega arith) (omega arith))

  pub first_passes : (from count k : ℕ) → from ≤ k → k < from + count → test k ≡ true → ((j : ℕ) → from ≤ j → j < k → test j ≡ false) → find test (range_with_len from count) ≡ Some k
  first_passes from zero k low high passes fails = absurd (omega arith)
  first_passes from (suc count) k low high passes fails =
      ⊎_elim
      (λ (same : from ≡ k). cond-true _ _ _ (subst (λ n. test n ≡ true) (sym same) passes) ∙ ap Some same)
      (λ other.
      cond-false _ _ _ (fails from (omega arith) (omega arith))
      ∙ first_passes (from + 1) count k (omega arith) (omega arith) passes (λ j l h. fails j (omega arith) h))
      (cases_eq from k)

-- what a search of a range by a test gives
pub record IsFirstOf (test : ℕ → Bool) (from count k : ℕ) : Type 0 where
  pub low : from ≤ k
  pub high : k < from + count
  pub passes : test k ≡ true
  pub before : (j : ℕ) → from ≤ j → j < k → test j ≡ false

abbrev pub Found : (ℕ → Bool) → ℕ → ℕ → Option ℕ → Type 0
Found test from count None = (k : ℕ) → from ≤ k → k < from + count → test k ≡ false
Found test from count (Some k) = IsFirstOf test from count k

module _ (test : ℕ → Bool) where
  later : (from count : ℕ) → test from ≡ false → (o : Option ℕ) → Found test (from + 1) count o → Found test from (suc count) o
  later from count fails None more = λ k low high.
      ⊎_elim (λ (same : k ≡ from). subst (λ n. test n ≡ false) (sym same) fails) (λ other. more k (omega arith) (omega arith)) (cases_eq k from)
  later from count fails (Some k) more = record {
    low = omega (arith, more.low);
    high = omega (arith, more.high);
    passes = more.passes;
    before = λ j low below. ⊎_elim (λ (same : j ≡ from). subst (λ n. test n ≡ false) (sym same) fails) (λ other. more.before j (omega arith) below) (cases_eq j from);
  }

  pub found_in_range : (from count : ℕ) → Found test from count (find test (range_with_len from count))
  found_in_range from zero = λ k low high. absurd (omega arith)
  found_in_range from (suc count) =
      let rest = find test (range_with_len (from + 1) count) in
      ⊎_elim
      (λ (passes : test from ≡ true).
      let here : IsFirstOf test from (suc count) from = record { low = omega arith; high = omega arith; passes = passes; before = λ j low below. absurd (omega arith) } in
      subst (Found test from (suc count)) (sym (cond-true (test from) (Some from) rest passes)) here)
      (λ (fails : test from ≡ false).
      subst (Found test from (suc count)) (sym (cond-false (test from) (Some from) rest fails)) (later from count fails rest (found_in_range (from + 1) count)))
      (cases_Bool (test from))

-- ---- where a string stands

module _ (text b : List ℕ) where
  pub stands : (place : ℕ) → (rest : List ℕ) → drop (place - 1) text ≡ b ++ rest → stands_at text b place ≡ true
  stands place rest e = (starts_is Decides-eqb (drop (place - 1) text) b (stands_at text b place) refl).1 rest e

  pub stood : (place : ℕ) → stands_at text b place ≡ true → drop (place - 1) text ≡ b ++ drop (length b) (drop (place - 1) text)
  stood place e = (starts_is Decides-eqb (drop (place - 1) text) b (stands_at text b place) refl).0 e

  module _ (start : ℕ) where
    occurs_stands : (at : ℕ) → OccursAt (drop start text) b at → stands_at text b (start + at + 1) ≡ true
    occurs_stands at h =
        let place : start + at + 1 - 1 ≡ start + at = omega arith in
        stands (start + at + 1) (drop (at + length b) (drop start text))
        (ap (λ n. drop n text) place ∙ sym (drop-drop at start text) ∙ at_from_reads 0 (drop start text) b at h.fits h.reads)

    stands_occurs : (at : ℕ) → at ≤ length (drop start text) → stands_at text b (start + at + 1) ≡ true → OccursAt (drop start text) b at
    stands_occurs at within e =
        let place : start + at ≡ start + at + 1 - 1 = omega arith in
        let rest = drop (length b) (drop (start + at + 1 - 1) text) in
        let here : drop at (drop start text) ≡ b ++ rest = drop-drop at start text ∙ ap (λ n. drop n text) place ∙ stood (start + at + 1) e in
        let fits : length b ≤ length (drop at (drop start text)) = front_fits (drop at (drop start text)) b rest here in
        record {
          fits = omega (arith, length-drop at (drop start text));
          reads = at_reads 0 (drop start text) b at rest here;
        }

  misses : (start at : ℕ) → at ≤ length (drop start text) → ¬ OccursAt (drop start text) b at → stands_at text b (start + at + 1) ≡ false
  misses start at within apart =
      ⊎_elim (λ yes. absurd (apart (stands_occurs start at within yes))) (λ (fails : stands_at text b (start + at + 1) ≡ false). fails) (cases_Bool (stands_at text b (start + at + 1)))

  module _ (m : ℤ) where
    pub position_past : length text < natural m - 1 → position text b m ≡ 0
    unfolding position
    position_past past =
        let none : length text + 2 - max (natural m) 1 ≡ 0 = omega arith in
        ap (λ n. unwrap_or (find (stands_at text b) (range_with_len (max (natural m) 1) n)) 0) none

    missed : (k : ℕ) → Nowhere (OccursAt (drop (natural m - 1) text) b) 0 k → k ≤ length (drop (natural m - 1) text) + 1 →
        (j : ℕ) → max (natural m) 1 ≤ j → j < natural m - 1 + k + 1 → stands_at text b j ≡ false
    missed k nowhere within j low high =
        let at = j - 1 - (natural m - 1) in
        let place : natural m - 1 + at + 1 ≡ j = omega arith in
        subst (λ n. stands_at text b n ≡ false) place (misses (natural m - 1) at (omega arith) (nowhere at (omega arith) (omega arith)))

    pub position_none : natural m - 1 ≤ length text → FindsNeedle (drop (natural m - 1) text) b 0 None → position text b m ≡ 0
    unfolding position
    position_none within nowhere =
        let size = length-drop (natural m - 1) text in
        ap (λ o. unwrap_or o 0)
        (none_passes (stands_at text b) (max (natural m) 1) (length text + 2 - max (natural m) 1)
        (λ k low high. missed (length (drop (natural m - 1) text) + 1) nowhere (omega arith) k low (omega arith)))

    pub position_some : (at : ℕ) → natural m - 1 ≤ length text → FindsNeedle (drop (natural m - 1) text) b 0 (Some at) → position text b m ≡ natural m - 1 + at + 1
    unfolding position
    position_some at within found =
        let size = length-drop (natural m - 1) text in
        let high : at < length (drop (natural m - 1) text) + 1 = found.0.high in
        ap (λ o. unwrap_or o 0)
        (first_passes (stands_at text b) (max (natural m) 1) (length text + 2 - max (natural m) 1) (natural m - 1 + at + 1)
        (omega arith) (omega arith) (occurs_stands (natural m - 1) at found.1)
        (λ j low below. missed at found.0.before (omega arith) j low (omega arith)))
