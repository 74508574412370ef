-- The laws of strings.
use Rattle.std.proofs.Common.{◌≡◌, ◌≢◌, ◌↔◌, ℕ, zero, suc, ◌+◌, ◌-◌, ◌<◌, ◌≤◌, min, max, ℤ, pos, Bool, true, false, List, [], ◌∷◌, ◌++◌, length, map, take, drop, Option, Some, None, refl, sym, ap, ◌∙◌, arith, ⊎_elim, le_refl, append_assoc, length-append, length-take, length-drop, drop-drop, take_all, zero-add}
use Rattle.std.proofs.lemmas.Bool.{cases_lt, cases_eq}
use Rattle.std.proofs.lemmas.Bool.Decides.{nat_tests}
use Rattle.std.proofs.lemmas.List.{take-take, take_min, drop-take, length-take-le, take-append-drop, drop_at, take_at, drop_all, length-map}
use Rattle.std.specs.Char.{to_ascii_uppercase, to_ascii_lowercase}
use Rattle.std.specs.Option.{unwrap_or}
use Rattle.std.specs.Ordering.{ordering_then, nat_cmp, is_eq}
use Rattle.std.specs.declared.cmp.Ordering.TheVariants.{Less, Equal}
use Rattle.std.specs.Cmp.{Equal-is}
use Rattle.std.proofs.lemmas.Cmp.{nat_list_cmp_total}
use Rattle.std.proofs.lemmas.Map.Text.{is_eq-slice_cmp}
use Rattle.std.proofs.lemmas.Slice.Eq.{bytes_eq-Decides}
use Rattle.bas_text.specs.Strings.{natural, join, repeat, part, stands_at, position, compare}
use Rattle.bas_text.specs.StringLaws.{JoinLaw, RepeatLaw, PartEndsLaw, PartOfPartLaw, StandsAt, IsLeastPlace, PositionLaw, PositionOfPartLaw, LetterLaw, OrderLaw}
use Rattle.bas_text.proofs.JoinLaws.{length-repeat}
use Rattle.bas_text.proofs.PlaceLaws.{stands, stood, Found, found_in_range}

pub join_law : JoinLaw
join_law a b c = (append_assoc a b c, length-append a b)

repeat_sum : (m n : ℕ) (text : List ℕ) → repeat (m + n) text ≡ join (repeat m text) (repeat n text)
repeat_sum zero n text = ap (λ k. repeat k text) (zero-add n)
repeat_sum (suc m) n text =
    let count : suc m + n ≡ suc (m + n) = omega arith in
    ap (λ k. repeat k text) count ∙ ap (λ more. text ++ more) (repeat_sum m n text) ∙ sym (append_assoc text (repeat m text) (repeat n text))

pub repeat_law : RepeatLaw
repeat_law m n text = (repeat_sum m n text, length-repeat n text)

pub part_ends_law : PartEndsLaw
part_ends_law text m n = (
  ap (λ k. drop k (take (natural n) text)) (omega arith) ∙ ap (λ t. drop (max (natural m) 1 - 1) t) (sym (take_min (natural n) text)),
  omega (arith, length-drop (natural m - 1) (take (natural n) text), length-take (natural n) text),
)

taken_twice : (k n : ℕ) (text : List ℕ) → take k (take n text) ≡ take (min n k) text
taken_twice k n text =
    ⊎_elim
    (λ (l : k < n). take-take k n text (omega arith) ∙ ap (λ i. take i text) (omega arith))
    (λ (l : n ≤ k). take_all k (take n text) (omega (arith, length-take n text)) ∙ ap (λ i. take i text) (omega arith))
    (cases_lt k n)

pub part_of_part_law : PartOfPartLaw
part_of_part_law text m n k l low_m low_k =
    ap (drop (k - 1)) (sym (drop-take (m - 1) l (take n text)))
    ∙ drop-drop (k - 1) (m - 1) (take (m - 1 + l) (take n text))
    ∙ ap (drop (m - 1 + (k - 1))) (taken_twice (m - 1 + l) n text)
    ∙ ap (λ i. drop i (take (min n (m - 1 + l)) text)) (omega arith)
    ∙ ap (λ i. drop (m + k - 1 - 1) (take (min n i) text)) (omega arith)

-- ---- places

module _ (text b : List ℕ) where
  to_stands : (q : ℕ) → 1 ≤ q → q ≤ length text + 1 → stands_at text b q ≡ true → StandsAt text b q
  to_stands q low high e =
      let front = take (q - 1) text in
      let after = drop (length b) (drop (q - 1) text) in (
        front,
        after,
        sym (take-append-drop (q - 1) text) ∙ ap (λ t. front ++ t) (stood text b q e) ∙ sym (append_assoc front b after),
        omega (arith, length-take-le (q - 1) text (omega arith)),
      )

  from_stands : (q : ℕ) → StandsAt text b q → (1 ≤ q) × (q ≤ length text + 1) × (stands_at text b q ≡ true)
  from_stands q (before, after, whole, place) =
      let size = ap length whole ∙ length-append (before ++ b) after ∙ ap (λ n. n + length after) (length-append before b) in (
        omega arith,
        omega arith,
        stands text b q after (ap (drop (q - 1)) (whole ∙ append_assoc before b after) ∙ drop_at before (b ++ after) (q - 1) (omega arith)),
      )

  module _ (m : ℤ) where
    by_found : (o : Option ℕ) → Found (stands_at text b) (max (natural m) 1) (length text + 2 - max (natural m) 1) o → IsLeastPlace text b m (unwrap_or o 0)
    by_found None fails = (
      λ l. absurd (omega arith),
      λ _ q low here. let h = from_stands q here in false_true (fails q (omega (arith, h.0)) (omega (arith, h.0, h.1))) h.2,
    )
      where
        false_true : {t : Bool} → t ≡ false → t ≡ true → ⊥
        false_true e f = cc
    by_found (Some p) found = (
      λ _. (
        omega (arith, found.low),
        to_stands p (omega (arith, found.low)) (omega (arith, found.low, found.high)) found.passes,
        λ q low below here. let h = from_stands q here in false_true (found.before q (omega (arith, h.0)) below) h.2,
      ),
      λ none. absurd (omega (arith, found.low)),
    )
      where
        false_true : {t : Bool} → t ≡ false → t ≡ true → ⊥
        false_true e f = cc

pub position_law : PositionLaw
unfolding position
position_law text b m = by_found text b m _ (found_in_range (stands_at text b) (max (natural m) 1) (length text + 2 - max (natural m) 1))

module _ (text : List ℕ) (m n : ℕ) (low : 1 ≤ m) (high : m ≤ length text + 1) where
  part_stands : stands_at text (part text (pos m) (pos n)) m ≡ true
  part_stands =
      ⊎_elim
      (λ (l : m - 1 < n).
      let count : m - 1 + (n - (m - 1)) ≡ n = omega arith in
      let whole : part text (pos m) (pos n) ≡ take (n - (m - 1)) (drop (m - 1) text) =
      ap (λ k. drop (m - 1) (take k text)) (sym count) ∙ drop-take (m - 1) (n - (m - 1)) text in
      stands text (part text (pos m) (pos n)) m (drop (n - (m - 1)) (drop (m - 1) text))
      (sym (take-append-drop (n - (m - 1)) (drop (m - 1) text)) ∙ ap (λ t. t ++ drop (n - (m - 1)) (drop (m - 1) text)) (sym whole)))
      (λ (l : n ≤ m - 1).
      let none : part text (pos m) (pos n) ≡ [] = drop_all (m - 1) (take n text) (omega (arith, length-take n text)) in
      stands text (part text (pos m) (pos n)) m (drop (m - 1) text) (ap (λ t. t ++ drop (m - 1) text) (sym none)))
      (cases_lt (m - 1) n)

  pub part_is_found : position text (part text (pos m) (pos n)) (pos m) ≡ m
  part_is_found =
      let b = part text (pos m) (pos n) in
      let here = to_stands text b m low high part_stands in
      let least = position_law text b (pos m) in
      ⊎_elim
      (λ (none : position text b (pos m) ≡ 0). absurd (least.1 none m (le_refl m) here))
      (λ (some : position text b (pos m) ≢ 0).
      let found = least.0 (omega arith) in
      ⊎_elim
      (λ (below : m < position text b (pos m)). absurd (found.2 m (le_refl m) below here))
      (λ (from : position text b (pos m) ≤ m). let at_least : m ≤ position text b (pos m) = found.0 in omega arith)
      (cases_lt m (position text b (pos m))))
      (cases_eq (position text b (pos m)) 0)

pub found_is_part : (text b : List ℕ) (m : ℤ) → 0 < position text b m → part text (pos (position text b m)) (pos (position text b m + length b - 1)) ≡ b
found_is_part text b m some = at (position text b m) ((position_law text b m).0 some).1
  where
    at : (p : ℕ) → StandsAt text b p → part text (pos p) (pos (p + length b - 1)) ≡ b
    at p (before, after, whole, place) =
        let front : take (p + length b - 1) text ≡ before ++ b =
        ap (take (p + length b - 1)) whole ∙ take_at (before ++ b) after (p + length b - 1) (length-append before b ∙ omega arith) in
        ap (drop (p - 1)) front ∙ drop_at before b (p - 1) (omega arith)

pub position_of_part_law : PositionOfPartLaw
position_of_part_law = (λ text m n low high. part_is_found text m n low high, found_is_part)

-- ---- letters

module _ (f g h : ℕ → ℕ) (same : (b : ℕ) → f (g b) ≡ h b) where
  mapped_twice : (text : List ℕ) → map f (map g text) ≡ map h text
  mapped_twice [] = refl
  mapped_twice (b ∷ more) = ap (λ c. c ∷ map f (map g more)) (same b) ∙ ap (λ t. h b ∷ t) (mapped_twice more)

upper_upper : (b : ℕ) → to_ascii_uppercase (to_ascii_uppercase b) ≡ to_ascii_uppercase b
upper_upper b = grind (arith, nat_tests)

lower_lower : (b : ℕ) → to_ascii_lowercase (to_ascii_lowercase b) ≡ to_ascii_lowercase b
lower_lower b = grind (arith, nat_tests)

upper_lower : (b : ℕ) → to_ascii_uppercase (to_ascii_lowercase b) ≡ to_ascii_uppercase b
upper_lower b = grind (arith, nat_tests)

pub letter_law : LetterLaw
letter_law text = (
  mapped_twice to_ascii_uppercase to_ascii_uppercase to_ascii_uppercase upper_upper text,
  mapped_twice to_ascii_lowercase to_ascii_lowercase to_ascii_lowercase lower_lower text,
  mapped_twice to_ascii_uppercase to_ascii_lowercase to_ascii_uppercase upper_lower text,
  length-map text to_ascii_uppercase,
)

-- ---- the order

same_byte : (b : ℕ) → nat_cmp b b ≡ Equal
same_byte b = grind (arith, nat_tests)

prefix_less : (a b : List ℕ) → b ≢ [] → compare a (join a b) ≡ Less
prefix_less [] [] some = absurd (some refl)
prefix_less [] (x ∷ b) some = refl
prefix_less (x ∷ a) b some = ap (λ o. ordering_then o (compare a (join a b))) (same_byte x) ∙ prefix_less a b some

equal_same : (a b : List ℕ) → (compare a b ≡ Equal) ↔ (a ≡ b)
equal_same a b = (
  λ e. (bytes_eq-Decides a b).0 (sym (is_eq-slice_cmp a b) ∙ ap is_eq e),
  λ e. (Equal-is (compare a b)).0 (is_eq-slice_cmp a b ∙ (bytes_eq-Decides a b).1 e),
)

pub order_law : OrderLaw
order_law = (nat_list_cmp_total, equal_same, prefix_less)
