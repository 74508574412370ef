-- Bytes from one place to another, and spaces at the end of a text.
use Rattle.std.proofs.Common.{◌≡◌, ℕ, zero, suc, ◌+◌, ◌-◌, ◌<◌, ◌≤◌, ◌==◌, Bool, true, false, List, [], ◌∷◌, ◌++◌, map, get_or, length, take, take_all, le_refl, refl, sym, ap, ◌∙◌, arith}
use Rattle.std.proofs.lemmas.Bool.Decides.{nat_tests}
use Rattle.std.proofs.lemmas.Bool.{ne_eqb}
use Rattle.std.proofs.lemmas.List.{map-append, take_more}
use Rattle.bas_form.specs.declared.byte_class.ByteClass.TheVariants.{Space}
use Rattle.bas_form.specs.Bytes.{is_of_class}
use Rattle.bas_text.specs.Trim.{as_space, unless_space, trim_right, bytes_from, between}

module _ (text : List ℕ) where
  from_on : (n at : ℕ) → bytes_from text (suc n) at ≡ bytes_from text n at ++ get_or text (at + n) 0 ∷ []
  from_on zero at = let same : at + 0 ≡ at = omega arith in ap (λ k. get_or text k 0 ∷ []) (sym same)
  from_on (suc n) at =
      let same : at + 1 + n ≡ at + suc n = omega arith in
      ap (λ more. get_or text at 0 ∷ more) (from_on n (at + 1) ∙ ap (λ k. bytes_from text n (at + 1) ++ get_or text k 0 ∷ []) same)

  pub between_none : (at : ℕ) → between text at at ≡ []
  unfolding between
  between_none at = let none : at - at ≡ 0 = omega arith in ap (λ n. bytes_from text n at) none

  pub between_on : (from to : ℕ) → from ≤ to → between text from (to + 1) ≡ between text from to ++ get_or text to 0 ∷ []
  unfolding between
  between_on from to l =
      let count : to + 1 - from ≡ suc (to - from) = omega arith in
      let last : from + (to - from) ≡ to = omega arith in
      ap (λ n. bytes_from text n from) count ∙ from_on (to - from) from ∙ ap (λ k. bytes_from text (to - from) from ++ get_or text k 0 ∷ []) last

  pub between_cons : (from to : ℕ) → from < to → between text from to ≡ get_or text from 0 ∷ between text (from + 1) to
  unfolding between
  between_cons from to l =
      let count : to - from ≡ suc (to - (from + 1)) = omega arith in
      ap (λ n. bytes_from text n from) count

unless_more : (b : ℕ) (xs : List ℕ) (c : ℕ) → unless_space b (xs ++ c ∷ []) ≡ b ∷ (xs ++ c ∷ [])
unless_more b [] c = refl
unless_more b (x ∷ xs) c = refl

pub trim_space : (xs : List ℕ) → trim_right (xs ++ 32 ∷ []) ≡ trim_right xs
trim_space [] = refl
trim_space (x ∷ xs) = ap (unless_space x) (trim_space xs)

pub trim_other : (xs : List ℕ) (b : ℕ) → (b == 32) ≡ false → trim_right (xs ++ b ∷ []) ≡ xs ++ b ∷ []
trim_other [] b e = rw e refl
trim_other (x ∷ xs) b e = ap (unless_space x) (trim_other xs b e) ∙ unless_more x xs b

space_is : (b : ℕ) → is_of_class Space b ≡ true → as_space b ≡ 32
space_is b h = by_test (b == 9) refl
  where
    by_test : (t : Bool) → (b == 9) ≡ t → as_space b ≡ 32
    by_test true e = rw e refl
    by_test false e = let same : b ≡ 32 = grind (arith, nat_tests) in rw e same

space_is_not : (b : ℕ) → is_of_class Space b ≡ false → (as_space b == 32) ≡ false
space_is_not b h = by_test (b == 9) refl
  where
    by_test : (t : Bool) → (b == 9) ≡ t → (as_space b == 32) ≡ false
    by_test true e = let f = rw e at h in grind (arith, nat_tests)
    by_test false e = rw e (let other : (b == 32) ≡ false = grind (arith, nat_tests) in other)

module _ (text : List ℕ) where
  -- a copy with one byte more
  pub copied_on : (from to : ℕ) → from ≤ to → map as_space (between text from (to + 1)) ≡ map as_space (between text from to) ++ as_space (get_or text to 0) ∷ []
  copied_on from to l = ap (map as_space) (between_on text from to l) ∙ map-append as_space (between text from to) (get_or text to 0 ∷ [])

  next_end : (end : ℕ) → 0 < end → end ≡ end - 1 + 1
  next_end end l = omega arith

  pub trim_on : (from end : ℕ) → from < end → is_of_class Space (get_or text (end - 1) 0) ≡ true →
      trim_right (map as_space (between text from end)) ≡ trim_right (map as_space (between text from (end - 1)))
  trim_on from end l h =
      ap (λ n. trim_right (map as_space (between text from n))) (next_end end (omega arith))
      ∙ ap trim_right (copied_on from (end - 1) (omega arith) ∙ ap (λ b. map as_space (between text from (end - 1)) ++ b ∷ []) (space_is (get_or text (end - 1) 0) h))
      ∙ trim_space (map as_space (between text from (end - 1)))

  pub trim_stops : (from end : ℕ) → from < end → is_of_class Space (get_or text (end - 1) 0) ≡ false →
      trim_right (map as_space (between text from end)) ≡ map as_space (between text from end)
  trim_stops from end l h =
      ap (λ n. trim_right (map as_space (between text from n))) (next_end end (omega arith))
      ∙ ap trim_right (copied_on from (end - 1) (omega arith))
      ∙ trim_other (map as_space (between text from (end - 1))) (as_space (get_or text (end - 1) 0)) (space_is_not (get_or text (end - 1) 0) h)
      ∙ sym (copied_on from (end - 1) (omega arith))
      ∙ ap (λ n. map as_space (between text from n)) (sym (next_end end (omega arith)))

-- ---- a text read from its end

to_last : (text : List ℕ) → 1 ≤ length text → text ≡ take (length text - 1) text ++ get_or text (length text - 1) 0 ∷ []
to_last text some =
    let count : length text - 1 + 1 ≡ length text = omega arith in
    sym (take_all (length text) text (le_refl (length text))) ∙ ap (λ n. take n text) (sym count) ∙ take_more text (length text - 1) 0 (omega arith)

pub last_space : (text : List ℕ) → 1 ≤ length text → get_or text (length text - 1) 0 ≡ 32 → trim_right (take (length text - 1) text) ≡ trim_right text
last_space text some space =
    let front = take (length text - 1) text in
    sym (trim_space front) ∙ ap (λ b. trim_right (front ++ b ∷ [])) (sym space) ∙ ap trim_right (sym (to_last text some))

pub last_other : (text : List ℕ) → 1 ≤ length text → (get_or text (length text - 1) 0 ≡ 32 → ⊥) → trim_right text ≡ text
last_other text some other =
    let front = take (length text - 1) text in
    let last = get_or text (length text - 1) 0 in
    let apart : (last == 32) ≡ false = ne_eqb _ _ other in
    ap trim_right (to_last text some) ∙ trim_other front last apart ∙ sym (to_last text some)
