-- What the list of items is, and when there is none.
use Rattle.std.proofs.Common.{◌≡◌, ℕ, ◌<◌, ◌≤◌, ◌⊎◌, List, [], ◌∷◌, ◌++◌, length, All, Some, None, refl, sym, ap, ◌∙◌, subst, arith, append_assoc}
use Rattle.std.proofs.lemmas.List.Elements.{All-head, All-tail, All-cons}
use Rattle.std.proofs.lemmas.Option.{slice_get_past}
use Rattle.bas_form.specs.Form.{Repeated}
use Rattle.bas_form.specs.Reader.{both, ◌followed_by◌, repeated, built, all_from, IsAsFar, ReadsLongest, Begins}
use Rattle.bas_form.proofs.ReaderLaws.{same_some, built_of, ends}
use Rattle.bas_form.proofs.EndLaws.{read_to, read_none}
use Rattle.bas_form.proofs.SequenceLaws.{both_of}
use Rattle.bas_form.proofs.RepetitionLaws.{all_sound, as_far_on, as_far_ends, repeated_longest}
use Rattle.bas_form.proofs.ByteLaws.{byte_longest}
use Rattle.bas_form.specs.declared.byte_class.ByteClass.TheVariants.{Comma}
use Rattle.bas_form.specs.Bytes.{byte, byte_end}
use Rattle.bas_text.specs.declared.data_list.Datum.{Datum}
use Rattle.bas_text.specs.declared.byte_string.TheConstants.{MAX_STRING_LEN}
use Rattle.bas_text.specs.DataItems.{NextItem, AreItems, HasLong, item, next_item}
use Rattle.bas_text.proofs.DataLaws.{GoesItem, item_longest, next_longest, next_parts, no_next, list_longest, list_ends}
use Rattle.bas_text.proofs.ItemLaws.{slice_get_none}

abbrev pub IsShort : Datum → Type 0
IsShort d = length d.text ≤ MAX_STRING_LEN

-- the last part of a list of which it holds
all_back : (front rest : List Datum) → All IsShort (front ++ rest) → All IsShort rest
all_back [] rest h = h
all_back (d ∷ front) rest h = all_back front rest (All-tail IsShort d (front ++ rest) h)

module _ (text : List ℕ) where
  takes_one : 1 ≤ 1
  takes_one = omega arith

  -- an item behind a comma
  pub next_is : (at start : ℕ) (d : Datum) (end : ℕ) → byte_end text Comma at ≡ Some start → item text start ≡ Some (d, end) → next_item text at ≡ Some (d, end)
  unfolding next_item byte_end
  next_is at start d end e i =
      let comma = read_to (byte text Comma at) start e in
      built_of (λ (behind : ℕ × Datum). behind.1) (next_parts text) at ((comma.0, d), end) (both_of (byte_longest text Comma) (item_longest text) at (comma.0, start) (d, end) comma.1 i)

  pub next_none : (at : ℕ) → byte_end text Comma at ≡ None → next_item text at ≡ None
  unfolding next_item byte_end built both
  next_none at e = rw (read_none (byte text Comma at) e) refl

  abbrev pub HasRead : ℕ → List Datum → ℕ → Type 0
  HasRead = IsAsFar (next_item text) (length text)

  pub read_on : (from at : ℕ) (front : List Datum) (d : Datum) (end : ℕ) → HasRead from front at → next_item text at ≡ Some (d, end) → HasRead from (front ++ d ∷ []) end
  read_on = as_far_on (next_longest text) takes_one

  pub read_ends : (from at : ℕ) (front : List Datum) → HasRead from front at → next_item text at ≡ None → all_from (next_item text) (length text) from ≡ (front, at)
  read_ends = as_far_ends (next_longest text) takes_one

  -- one that is read is too long
  pub read_long : (from at : ℕ) (front : List Datum) (d : Datum) (end : ℕ) → HasRead from front at → next_item text at ≡ Some (d, end) → MAX_STRING_LEN < length d.text →
      HasLong (all_from (next_item text) (length text) from).0
  read_long from at front d end far e long short =
      let more = read_on from at front d end far e in
      let whole : All IsShort ((front ++ d ∷ []) ++ (all_from (next_item text) (length text) end).0) = subst (All IsShort) (ap (λ read. read.0) more) short in
      let behind : All IsShort (d ∷ (all_from (next_item text) (length text) end).0) = all_back front (d ∷ (all_from (next_item text) (length text) end).0) (subst (All IsShort) (append_assoc front (d ∷ []) (all_from (next_item text) (length text) end).0) whole) in
      let fits = All-head IsShort d (all_from (next_item text) (length text) end).0 behind in
      omega arith

  rest_longest : ReadsLongest (length text) 0 (Repeated (NextItem text)) (λ n. GoesItem text n ⊎ Begins (next_item text) n) (repeated (next_item text) (length text))
  rest_longest = repeated_longest (next_longest text) takes_one (no_next text)

  rest_is : (at : ℕ) → repeated (next_item text) (length text) at ≡ Some (all_from (next_item text) (length text) at)
  unfolding repeated
  rest_is at = refl

  -- the list, by its first item and all behind it
  list_read : (first : Datum) (next : ℕ) → item text 0 ≡ Some (first, next) →
      (item text followed_by repeated (next_item text) (length text)) 0 ≡ Some ((first, (all_from (next_item text) (length text) next).0), (all_from (next_item text) (length text) next).1)
  list_read first next e = both_of (item_longest text) rest_longest 0 (first, next) (all_from (next_item text) (length text) next) e (rest_is next)

  module _ (first : Datum) (next : ℕ) (begins : item text 0 ≡ Some (first, next)) where
    -- a list of items that stands there
    pub only_items : (items : List Datum) → AreItems text items → (items ≡ first ∷ (all_from (next_item text) (length text) next).0) × (length text ≤ (all_from (next_item text) (length text) next).1)
    only_items items are =
        let list = are.1 in
        let stop = list.2.0 in
        let none = list.2.2.0 in
        let read = ends (list_longest text) 0 list.0.0 stop list.2.1 (λ g. list_ends text stop g none) in
        let same = same_some (sym read ∙ list_read first next begins) in
        let outside = slice_get_none text stop none in
        let place = ap (λ t. t.1) same in
        (list.1 ∙ ap (λ t. t.0.0 ∷ t.0.1) same, omega arith)

    pub whole_items : (all_from (next_item text) (length text) next).1 ≡ length text → IsShort first → All IsShort (all_from (next_item text) (length text) next).0 →
        AreItems text (first ∷ (all_from (next_item text) (length text) next).0)
    whole_items e short rest =
        let more = all_from (next_item text) (length text) next in (
          more.1,
          (((first, more.0), tt), refl, (more.1, (next, (item_longest text).sound 0 first next begins, all_sound (next_longest text) takes_one next), (slice_get_past text more.1 (let outside : length text ≤ more.1 = omega arith in outside), refl))),
          All-cons IsShort first more.0 short rest,
        )

    pub long_first : MAX_STRING_LEN < length first.text → (items : List Datum) → AreItems text items → ⊥
    long_first long items are =
        let is = only_items items are in
        let fits = All-head IsShort first (all_from (next_item text) (length text) next).0 (subst (All IsShort) is.0 are.2) in
        omega arith

    pub long_rest : HasLong (all_from (next_item text) (length text) next).0 → (items : List Datum) → AreItems text items → ⊥
    long_rest long items are = long (All-tail IsShort first (all_from (next_item text) (length text) next).0 (subst (All IsShort) (only_items items are).0 are.2))
