-- The data that are read are the only ones that stand there.
use Rattle.std.proofs.Common.{◌≡◌, ℕ, zero, suc, ◌+◌, ◌-◌, ◌<◌, ◌≤◌, ◌⊎◌, inl, inr, ◌==◌, ◌&&◌, not, nat_lt, Bool, true, false, List, [], ◌∷◌, length, take, get_or, All, Option, Some, None, slice_get, refl, sym, ap, ◌∙◌, subst, arith, eqb-true, eq-eqb}
use Rattle.std.specs.List.{list_all}
use Rattle.std.proofs.lemmas.Bool.Decides.{nat_tests}
use Rattle.std.proofs.lemmas.List.{get_or_past}
use Rattle.std.proofs.lemmas.List.Elements.{All-nil, All-head, All-tail, All-cons}
use Rattle.std.proofs.lemmas.Option.{slice_get-get_or}
use Rattle.bas_form.specs.Form.{Repeated}
use Rattle.bas_form.specs.Reader.{repeated, all_from, ReadsLongest, Begins}
use Rattle.bas_form.proofs.ReaderLaws.{same_some, bound, ends, built_longest, not_ahead_longest}
use Rattle.bas_form.proofs.SequenceLaws.{then_longest}
use Rattle.bas_form.proofs.RepetitionLaws.{repeated_longest, all_sound}
use Rattle.bas_form.proofs.ByteLaws.{byte_longest, byte_found, byte_outside}
use Rattle.bas_form.specs.declared.byte_class.ByteClass.TheVariants.{ExclamationMark, InRemark}
use Rattle.bas_form.specs.Bytes.{Byte, byte, past}
use Rattle.bas_text.specs.declared.data_list.Datum.{Datum}
use Rattle.bas_text.specs.declared.byte_string.TheConstants.{MAX_STRING_LEN}
use Rattle.bas_text.specs.DataItems.{Items, AreItems}
use Rattle.bas_text.proofs.DataLaws.{list_longest, list_ends}
use Rattle.bas_data.specs.Data.{in_quotes, ends_items, Remark, IsData}
use Rattle.bas_data.specs.Reading.{is_short, if_short, or_here, first_end, list, items_of, rest_ends, data_of}
use Rattle.bas_data.specs.Laws.{DataLaw}

-- ---- the items of a whole text

abbrev IsShort : Datum → Type 0
IsShort d = length d.text ≤ MAX_STRING_LEN

short_sound : (d : Datum) → is_short d ≡ true → IsShort d
short_sound d e = grind (arith, nat_tests)

short_whole : (d : Datum) → IsShort d → is_short d ≡ true
short_whole d h = grind (arith, nat_tests)

all_sound_short : (items : List Datum) → list_all is_short items ≡ true → All IsShort items
all_sound_short [] e = All-nil IsShort
all_sound_short (d ∷ more) e = by_test (is_short d) refl e (all_sound_short more)
  where
    by_test : (t : Bool) → is_short d ≡ t → (is_short d && list_all is_short more) ≡ true → (list_all is_short more ≡ true → All IsShort more) → All IsShort (d ∷ more)
    by_test true et h ih = All-cons IsShort d more (short_sound d et) (ih (let f = rw et at h in f))
    by_test false et h ih = let f = rw et at h in absurd (cc)

all_whole_short : (items : List Datum) → All IsShort items → list_all is_short items ≡ true
all_whole_short [] h = refl
all_whole_short (d ∷ more) h = rw (short_whole d (All-head IsShort d more h)) (all_whole_short more (All-tail IsShort d more h))

module _ (text : List ℕ) where
  list_read : ReadsLongest (length text) 0 (Items text) (λ _. ⊥) (list text)
  list_read = built_longest (λ (list : (Datum × List Datum) × Unit {0}). list.0.0 ∷ list.0.1)
      (then_longest (list_longest text) (not_ahead_longest (length text) (slice_get text)) (λ n g u m k. list_ends text n g k.0))

  short_by : (items read : List Datum) (t : Bool) → list_all is_short read ≡ t → if_short read ≡ Some items → (read ≡ items) × (list_all is_short read ≡ true)
  short_by items read true et e = (let f = rw et at e in same_some f, et)
  short_by items read false et e = let f = rw et at e in absurd (cc)

  items_sound : (items : List Datum) → items_of text ≡ Some items → AreItems text items
  unfolding items_of
  items_sound items e =
      let b = bound (list text 0) (λ read. if_short read.0) items e in
      let s = short_by items b.0.0 (list_all is_short b.0.0) refl b.2 in
      let stands = list_read.sound 0 b.0.0 b.0.1 b.1 in
      subst (AreItems text) s.0 (b.0.1, stands, all_sound_short b.0.0 s.1)

  items_whole : (items : List Datum) → AreItems text items → items_of text ≡ Some items
  unfolding items_of
  items_whole items are =
      let read = ends list_read 0 items are.0 are.1 (λ z. z) in
      rw (read, all_whole_short items are.2) refl

-- ---- where the items end

module _ (text : List ℕ) where
  here_by : (n found : ℕ) (t u : Bool) → nat_lt found n ≡ t → ends_items text n ≡ u → found ≤ n →
      (or_here text n found ≤ suc n) × (found < n → or_here text n found ≡ found) × (found ≡ n → ends_items text n ≡ true → or_here text n found ≡ n) × (found ≡ n → ends_items text n ≡ false → or_here text n found ≡ suc n)
  here_by n found true u et eu l = (rw et (omega arith), (λ h. rw et refl), (λ h e. absurd (grind (arith, nat_tests))), (λ h e. absurd (grind (arith, nat_tests))))
  here_by n found false true et eu l = (rw (et, eu) (omega arith), (λ h. absurd (grind (arith, nat_tests))), (λ h e. rw (et, eu) refl), (λ h e. absurd (cc)))
  here_by n found false false et eu l = (rw (et, eu) (omega arith), (λ h. absurd (grind (arith, nat_tests))), (λ h e. absurd (cc)), (λ h e. rw (et, eu) refl))

  step : (n : ℕ) → first_end text (suc n) ≡ or_here text n (first_end text n)
  unfolding first_end
  step n = refl

  pub none_passed : first_end text 0 ≡ 0
  unfolding first_end
  none_passed = refl

  pub end_within : (n : ℕ) → first_end text n ≤ n
  end_within zero = rw none_passed (omega arith)
  end_within (suc n) = rw (step n) (here_by n (first_end text n) _ _ refl refl (end_within n)).0

  pub end_kept : (n : ℕ) → first_end text n < n → first_end text (suc n) ≡ first_end text n
  end_kept n l = step n ∙ (here_by n (first_end text n) _ _ refl refl (end_within n)).1 l

  pub end_found : (n : ℕ) → first_end text n ≡ n → ends_items text n ≡ true → first_end text (suc n) ≡ n
  end_found n e h = step n ∙ (here_by n (first_end text n) _ _ refl refl (end_within n)).2 e h

  pub end_passed : (n : ℕ) → first_end text n ≡ n → ends_items text n ≡ false → first_end text (suc n) ≡ suc n
  end_passed n e h = step n ∙ (here_by n (first_end text n) _ _ refl refl (end_within n)).3 e h

  -- what is found stays
  pub end_stays : (more n : ℕ) → first_end text n < n → first_end text (n + more) ≡ first_end text n
  end_stays zero n l = let same : n + 0 ≡ n = omega arith in rw same refl
  end_stays (suc more) n l =
      let k = end_kept n l in
      let same : n + suc more ≡ suc n + more = omega arith in
      rw same (end_stays more (suc n) (omega arith) ∙ k)

  order : (n k : ℕ) → (n < k) ⊎ ((n ≡ k) ⊎ (k < n))
  order n k = grind arith

  -- it ends items, or is the last place
  end_by : (n : ℕ) → (t : Bool) → ends_items text n ≡ t → (first_end text n < n) ⊎ ((first_end text n ≡ n) ⊎ (n < first_end text n)) →
      ((first_end text n < n) → ends_items text (first_end text n) ≡ true) → (first_end text (suc n) < suc n) → ends_items text (first_end text (suc n)) ≡ true
  end_by n t et (inl l) ih h = rw (end_kept n l) (ih l)
  end_by n true et (inr (inl e)) ih h = rw (end_found n e et) et
  end_by n false et (inr (inl e)) ih h = let p = end_passed n e et in absurd (omega arith)
  end_by n t et (inr (inr l)) ih h = let w = end_within n in absurd (omega arith)

  pub end_is : (n : ℕ) → first_end text n < n → ends_items text (first_end text n) ≡ true
  end_is zero l = absurd (omega arith)
  end_is (suc n) l = end_by n (ends_items text n) refl (order (first_end text n) n) (end_is n) l

  -- nothing before it ends items
  before_by : (n at : ℕ) → (t : Bool) → ends_items text n ≡ t → (first_end text n < n) ⊎ ((first_end text n ≡ n) ⊎ (n < first_end text n)) →
      ((k : ℕ) → k < first_end text n → ends_items text k ≡ false) → at < first_end text (suc n) → ends_items text at ≡ false
  before_by n at t et (inl l) ih h = let k = end_kept n l in ih at (omega arith)
  before_by n at true et (inr (inl e)) ih h = let p = end_found n e et in ih at (omega arith)
  before_by n at false et (inr (inl e)) ih h = last (order at n)
    where
      last : (at < n) ⊎ ((at ≡ n) ⊎ (n < at)) → ends_items text at ≡ false
      last (inl l) = ih at (omega arith)
      last (inr (inl same)) = rw same et
      last (inr (inr l)) = let p = end_passed n e et in absurd (omega arith)
  before_by n at t et (inr (inr l)) ih h = let w = end_within n in absurd (omega arith)

  pub end_first : (n at : ℕ) → at < first_end text n → ends_items text at ≡ false
  end_first zero at l = let z = none_passed in absurd (omega arith)
  end_first (suc n) at l = before_by n at (ends_items text n) refl (order (first_end text n) n) (end_first n) l

  -- the one place that is the first
  pub end_only : (n stop : ℕ) → stop ≤ n → ((at : ℕ) → at < stop → ends_items text at ≡ false) → (stop ≡ n) ⊎ (ends_items text stop ≡ true) → first_end text n ≡ stop
  end_only n stop l first rest = by_order (order (first_end text n) stop) rest
    where
      by_order : (first_end text n < stop) ⊎ ((first_end text n ≡ stop) ⊎ (stop < first_end text n)) → (stop ≡ n) ⊎ (ends_items text stop ≡ true) → first_end text n ≡ stop
      by_order (inl early) r =
          let f = first (first_end text n) early in
          let g = end_is n (omega arith) in
          absurd (cc)
      by_order (inr (inl same)) r = same
      by_order (inr (inr late)) (inl e) = let w = end_within n in absurd (omega arith)
      by_order (inr (inr late)) (inr e) = let f = end_first n stop late in absurd (cc)

  pub ends_here : (at : ℕ) → get_or text at 0 ≡ 33 → in_quotes text at ≡ false → ends_items text at ≡ true
  ends_here at e q = rw (e, q) refl

  pub ends_not : (at : ℕ) → ((get_or text at 0 ≡ 33) × (in_quotes text at ≡ true)) ⊎ (get_or text at 0 ≡ 33 → ⊥) → ends_items text at ≡ false
  ends_not at (inl h) = rw (h.0, h.1) refl
  ends_not at (inr h) = let t : (get_or text at 0 == 33) ≡ false = grind (arith, nat_tests) in rw t refl

  pub quote_at : (at : ℕ) → get_or text at 0 ≡ 34 → in_quotes text (at + 1) ≡ not (in_quotes text at)
  quote_at at e = let same : at + 1 ≡ suc at = omega arith in rw (same, e) refl

  pub no_quote_at : (at : ℕ) → (get_or text at 0 ≡ 34 → ⊥) → in_quotes text (at + 1) ≡ in_quotes text at
  no_quote_at at h =
      let same : at + 1 ≡ suc at = omega arith in
      let t : (get_or text at 0 == 34) ≡ false = grind (arith, nat_tests) in
      rw (same, t) refl

  pub end_on : (at : ℕ) → first_end text at ≡ at → ends_items text at ≡ false → first_end text (at + 1) ≡ at + 1
  end_on at e h = let same : at + 1 ≡ suc at = omega arith in rw same (end_passed at e h)

  pub end_at : (at len : ℕ) → first_end text at ≡ at → ends_items text at ≡ true → at < len → first_end text len ≡ at
  end_at at len e h l =
      let f = end_found at e h in
      let s = end_stays (len - suc at) (suc at) (omega arith) in
      let same : suc at + (len - suc at) ≡ len = omega arith in
      ap (first_end text) (sym same) ∙ s ∙ f

  -- nothing ends the items
  pub never_ends : (at len : ℕ) → at ≤ len → len ≤ at → first_end text at ≡ at → len ≡ first_end text len
  never_ends at len low high e = let same : at ≡ len = omega arith in sym same ∙ sym e ∙ ap (first_end text) same

  -- ---- what stands behind the items

  -- a byte stands where items end
  marked : (at : ℕ) → ends_items text at ≡ true → (at < length text) × (slice_get text at ≡ Some 33)
  marked at e = by_place (order at (length text)) (get_or text at 0 == 33) refl e
    where
      by_place : (at < length text) ⊎ ((at ≡ length text) ⊎ (length text < at)) → (t : Bool) → (get_or text at 0 == 33) ≡ t → ((get_or text at 0 == 33) && not (in_quotes text at)) ≡ true →
          (at < length text) × (slice_get text at ≡ Some 33)
      by_place o false et h = let f = rw et at h in absurd (cc)
      by_place (inl l) true et h = (l, slice_get-get_or text at 0 l ∙ ap (λ b. Some b) (eqb-true (get_or text at 0) 33 et))
      by_place (inr (inl same)) true et h = let z = get_or_past text at 0 (omega arith) in let f = rw z at et in absurd (cc)
      by_place (inr (inr l)) true et h = let z = get_or_past text at 0 (omega arith) in let f = rw z at et in absurd (cc)

  remark_bytes : ReadsLongest (length text) 0 (Repeated (Byte text InRemark)) (λ n. ⊥ ⊎ Begins (byte text InRemark) n) (repeated (byte text InRemark) (length text))
  remark_bytes = repeated_longest (byte_longest text InRemark) (omega arith) (λ n h a m k. h)

  past_sound : (at : ℕ) → past text InRemark at ≡ length text → (read : List ℕ) × Repeated (Byte text InRemark) at read (length text)
  unfolding past
  past_sound at e =
      let read = all_from (byte text InRemark) (length text) at in
      (read.0, subst (λ (n : ℕ). Repeated (Byte text InRemark) at read.0 n) e (all_sound (byte_longest text InRemark) (omega arith) at))

  nothing_more : ⊥ ⊎ Begins (byte text InRemark) (length text) → ⊥
  nothing_more (inl z) = z
  nothing_more (inr h) = let e = byte_outside text InRemark (length text) (omega arith) in let f = rw e at h in absurd (cc)

  past_whole : (at : ℕ) (read : List ℕ) → Repeated (Byte text InRemark) at read (length text) → past text InRemark at ≡ length text
  unfolding past repeated
  past_whole at read h = ap (λ r. r.1) (same_some (ends remark_bytes at read (length text) h nothing_more))

  rest_sound : (at : ℕ) (t : Bool) → (at == length text) ≡ t → at ≤ length text → (at < length text → ends_items text at ≡ true) → rest_ends text at ≡ true →
      (at ≡ length text) ⊎ ((ends_items text at ≡ true) × (read : ℕ × List ℕ) × Remark text at read (length text))
  rest_sound at true et l ended e = inl (eqb-true at (length text) et)
  rest_sound at false et l ended e =
      let inside : at < length text = grind (arith, nat_tests) in
      let m = marked at (ended inside) in
      let p = past_sound (at + 1) (eqb-true (past text InRemark (at + 1)) (length text) (let f = rw et at e in f)) in
      inr (ended inside, (33, p.0), (at + 1, (byte_longest text ExclamationMark).sound at 33 (at + 1) (byte_found text ExclamationMark at 33 m.1 refl), p.1))

  rest_whole : (at : ℕ) → (at ≡ length text) ⊎ ((ends_items text at ≡ true) × (read : ℕ × List ℕ) × Remark text at read (length text)) → (t : Bool) → (at == length text) ≡ t → rest_ends text at ≡ true
  rest_whole at r true et = rw et refl
  rest_whole at (inl e) false et = absurd (grind (arith, nat_tests))
  rest_whole at (inr r) false et =
      let read = r.1 in
      let h = r.2 in
      let b = h.1 in
      let tail : Repeated (Byte text InRemark) (at + 1) read.1 (length text) = subst (λ (n : ℕ). Repeated (Byte text InRemark) n read.1 (length text)) b.1 h.2 in
      rw (et, past_whole (at + 1) read.1 tail) (eq-eqb (length text) (length text) refl)

  -- ---- the data

  abbrev stop : ℕ
  stop = first_end text (length text)

  data_by : (items : List Datum) (t : Bool) → rest_ends text stop ≡ t → data_of text ≡ Some items → IsData text items
  unfolding data_of
  data_by items true et e = record {
    stop = stop;
    first = λ at l. end_first (length text) at l;
    listed = items_sound (take stop text) items (let f = rw et at e in f);
    rest = rest_sound stop (stop == length text) refl (end_within (length text)) (λ l. end_is (length text) l) et;
  }
  data_by items false et e = let f = rw et at e in absurd (cc)

  pub data_some : (end : ℕ) (items : List Datum) → end ≡ stop → rest_ends text end ≡ true → AreItems (take end text) items → data_of text ≡ Some items
  unfolding data_of
  data_some end items e r are = let h = rw e at r in rw h (subst (λ (n : ℕ). items_of (take n text) ≡ Some items) e (items_whole (take end text) items are))

  none_by : (end : ℕ) (o : Option (List Datum)) → items_of (take end text) ≡ o → ((items : List Datum) → AreItems (take end text) items → ⊥) → items_of (take end text) ≡ None
  none_by end None e h = e
  none_by end (Some items) e h = absurd (h items (items_sound (take end text) items e))

  pub data_none : (end : ℕ) → end ≡ stop → rest_ends text end ≡ true → ((items : List Datum) → AreItems (take end text) items → ⊥) → data_of text ≡ None
  unfolding data_of
  data_none end e r h = let g = rw e at r in rw g (subst (λ (n : ℕ). items_of (take n text) ≡ None) e (none_by end (items_of (take end text)) refl h))

  rest_within : (at : ℕ) → (at ≡ length text) ⊎ ((ends_items text at ≡ true) × (read : ℕ × List ℕ) × Remark text at read (length text)) → (at ≤ length text) × ((at ≡ length text) ⊎ (ends_items text at ≡ true))
  rest_within at (inl e) = (omega arith, inl e)
  rest_within at (inr r) = let m = marked at r.0 in let l = m.0 in (omega arith, inr r.0)

  data_whole : (items : List Datum) → IsData text items → data_of text ≡ Some items
  unfolding data_of
  data_whole items is =
      let w = rest_within is.stop is.rest in
      let place = end_only (length text) is.stop w.0 is.first w.1 in
      rw (place, rest_whole is.stop is.rest _ refl) (items_whole (take is.stop text) items is.listed)

pub data_law : DataLaw
data_law = record { sound = λ text items e. data_by text items _ refl e; whole = λ text items is. data_whole text items is }
