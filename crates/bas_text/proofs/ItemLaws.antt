-- What the item at a place is, with and without quotes.
use Rattle.std.proofs.Common.{◌≡◌, ℕ, ◌+◌, ◌≤◌, ◌⊎◌, inl, inr, ◌==◌, ◌&&◌, ◌||◌, not, Bool, true, false, List, length, map, Option, Some, None, slice_get, refl, sym, ap, ◌∙◌, subst, arith}
use Rattle.std.proofs.lemmas.Option.{slice_get_cases, slice_get_past}
use Rattle.bas_form.specs.Form.{Repeated}
use Rattle.bas_form.specs.Reader.{Reader, ◌>>=◌, both, ◌followed_by◌, optional_at, repeated, either, built, all_from, ReadsLongest, Begins}
use Rattle.bas_form.proofs.ReaderLaws.{same_some, bound, built_of, optional_of, optional_longest, ends, begun}
use Rattle.bas_form.proofs.SequenceLaws.{both_of}
use Rattle.bas_form.proofs.RepetitionLaws.{all_on, all_end, all_sound, all_stops, repeated_longest}
use Rattle.bas_form.proofs.ByteLaws.{byte_longest, byte_found, byte_other, byte_outside, at_byte}
use Rattle.bas_form.proofs.QuotedLaws.{piece_longest, quoted_longest}
use Rattle.bas_form.specs.declared.byte_class.ByteClass.{ByteClass}
use Rattle.bas_form.specs.declared.byte_class.ByteClass.TheVariants.{Space, Quote, DataStart, DataPart}
use Rattle.bas_form.specs.Bytes.{is_of_class, is_unquoted, Byte, byte, past}
use Rattle.bas_form.specs.Quoted.{Quoted, piece, quoted, quoted_bytes}
use Rattle.bas_text.specs.declared.data_list.Datum.{Datum}
use Rattle.bas_text.specs.Trim.{as_space, trim_right, between}
use Rattle.bas_text.specs.Reading as reading
use Rattle.bas_text.specs.DataItems.{datum, quoted_datum, plain_datum, item_datum, spaces, plain, core, item, IsQuotedString}
use Rattle.bas_text.specs.declared.byte_string.TheConstants.{MAX_STRING_LEN}
use Rattle.bas_text.proofs.PieceLaws.{bytes_are}
use Rattle.bas_text.proofs.DataLaws.{spaces_longest, core_longest, plain_longest, quoted_item_longest, parts_longest, start_part}

both_none : {A B : Type 0} (f : Reader A) (g : Reader B) (at : ℕ) → f at ≡ None → (f followed_by g) at ≡ None
unfolding both
both_none f g at e = rw e refl

built_none : {A B : Type 0} (make : A → B) (f : Reader A) (at : ℕ) → f at ≡ None → built make f at ≡ None
unfolding built
built_none make f at e = rw e refl

pub slice_get_none : (xs : List ℕ) (i : ℕ) → slice_get xs i ≡ None → length xs ≤ i
slice_get_none xs i e = elim (slice_get_cases xs i).1 as (λ _. length xs ≤ i) [ inl h ↦ absurd (let both : Some h.0 ≡ None = sym h.2 ∙ e in cc) | inr h ↦ h.0 ]

parts_of : (text : List ℕ) → ReadsLongest (length text) 0 (Repeated (Byte text DataPart)) (λ n. ⊥ ⊎ Begins (byte text DataPart) n) (repeated (byte text DataPart) (length text))
parts_of text = repeated_longest (byte_longest text DataPart) (omega arith) (λ n h a m k. h)

module _ (text : List ℕ) where
  all_bytes : (c : ByteClass) (at : ℕ) → repeated (byte text c) (length text) at ≡ Some (all_from (byte text c) (length text) at)
  unfolding repeated
  all_bytes c at = refl

  core_left : (from : ℕ) (r : Datum × ℕ) → built quoted_datum (quoted text followed_by spaces text) from ≡ Some r → core text from ≡ Some r
  unfolding either
  core_left from r e = rw e refl

  core_right : (from : ℕ) → built quoted_datum (quoted text followed_by spaces text) from ≡ None → core text from ≡ built plain_datum (plain text) from
  unfolding either
  core_right from e = rw e refl

  -- the item by the core behind its spaces
  item_by : (at : ℕ) (o : Option (Datum × ℕ)) → core text (past text Space at) ≡ o →
      item text at ≡ Some (item_datum ((all_from (byte text Space) (length text) at).0, (optional_at (past text Space at) o).0), (optional_at (past text Space at) o).1)
  unfolding item past
  item_by at o e =
      let front = all_from (byte text Space) (length text) at in
      let kept = optional_at front.1 o in
      built_of item_datum (parts_longest text) at ((front.0, kept.0), kept.1)
      (both_of (spaces_longest text) (optional_longest (core_longest text) (omega arith)) at front kept (all_bytes Space at) (optional_of (core_longest text) (omega arith) front.1 o e))

  abbrev QuotedTree : Type 0
  QuotedTree = (ℕ × (List ℕ × ℕ)) × List (ℕ × (List ℕ × ℕ))

  quoted_read : (from : ℕ) (bytes : List ℕ) (end : ℕ) → reading.quoted_text text from ≡ Some (bytes, end) → (q : QuotedTree) × (quoted text from ≡ Some (q, end)) × (map as_space (quoted_bytes q) ≡ bytes)
  unfolding reading.quoted_text built
  quoted_read from bytes end e =
      let q = bound (quoted text from) _ _ e in
      let same : (map as_space (quoted_bytes q.0.0), q.0.1) ≡ (bytes, end) = same_some q.2 in
      (q.0.0, q.1 ∙ ap (λ n. Some (let found : QuotedTree × ℕ = (q.0.0, n) in found)) (ap (λ t. t.1) same), ap (λ t. t.0) same)

  -- quoted text at the place
  pub item_quoted : (at : ℕ) (bytes : List ℕ) (end : ℕ) → reading.quoted_text text (past text Space at) ≡ Some (bytes, end) → item text at ≡ Some (datum true bytes, past text Space end)
  unfolding past
  item_quoted at bytes end e =
      let from = (all_from (byte text Space) (length text) at).1 in
      let q = quoted_read from bytes end e in
      let behind = all_from (byte text Space) (length text) end in
      let found = built_of quoted_datum (quoted_item_longest text) from ((q.0, behind.0), behind.1) (both_of (quoted_longest text) (spaces_longest text) from (q.0, end) behind q.1 (all_bytes Space end)) in
      item_by at (Some (quoted_datum (q.0, behind.0), behind.1)) (core_left from (quoted_datum (q.0, behind.0), behind.1) found)
      ∙ ap (λ bytes. Some (let found : Datum × ℕ = (datum true bytes, behind.1) in found)) q.2

  quoted_nothing : (from : ℕ) → reading.quoted_text text from ≡ None → quoted text from ≡ None
  unfolding reading.quoted_text built
  quoted_nothing from e = by_tree (quoted text from) refl e
    where
      by_tree : (o : Option (((ℕ × (List ℕ × ℕ)) × List (ℕ × (List ℕ × ℕ))) × ℕ)) → quoted text from ≡ o →
          (let read : Option (List ℕ × ℕ) = o >>= (λ q. Some (map as_space (quoted_bytes q.0), q.1)) in read) ≡ None → quoted text from ≡ None
      by_tree None eo e = eo
      by_tree (Some q) eo e = absurd (cc)

  core_plain : (from : ℕ) → reading.quoted_text text from ≡ None → core text from ≡ built plain_datum (plain text) from
  core_plain from e = core_right from (built_none quoted_datum (quoted text followed_by spaces text) from (both_none (quoted text) (spaces text) from (quoted_nothing from e)))

  -- a byte that is read by no class is not of it
  class_false : (c : ByteClass) (at x : ℕ) → slice_get text at ≡ Some x → byte text c at ≡ None → is_of_class c x ≡ false
  class_false c at x e nothing = by_test (is_of_class c x) refl
    where
      by_test : (t : Bool) → is_of_class c x ≡ t → is_of_class c x ≡ false
      by_test true et = absurd (let both : Some (x, at + 1) ≡ None = sym (byte_found text c at x e et) ∙ nothing in cc)
      by_test false et = et

  not_part : (x : ℕ) → is_of_class Space x ≡ false → is_of_class DataStart x ≡ false → is_of_class DataPart x ≡ false
  not_part x space start = by_tests (is_unquoted x) (x == 32) (x == 9) refl refl refl space start
    where
      by_tests : (u s t : Bool) → is_unquoted x ≡ u → (x == 32) ≡ s → (x == 9) ≡ t → ((x == 32) || (x == 9)) ≡ false → (is_unquoted x && not (x == 32)) ≡ false → (is_unquoted x || (x == 9)) ≡ false
      by_tests u true t eu es et space start = let f = rw es at space in absurd (cc)
      by_tests u false true eu es et space start = let f = rw (es, et) at space in absurd (cc)
      by_tests true false false eu es et space start = let f = rw (eu, es) at start in absurd (cc)
      by_tests false false false eu es et space start = rw (eu, et) refl

  no_part : (at : ℕ) → byte text DataStart (past text Space at) ≡ None → byte text DataPart (past text Space at) ≡ None
  unfolding past
  no_part at start = by_byte (slice_get text from) refl
    where
      from : ℕ
      from = (all_from (byte text Space) (length text) at).1

      by_byte : (o : Option ℕ) → slice_get text (all_from (byte text Space) (length text) at).1 ≡ o → byte text DataPart (all_from (byte text Space) (length text) at).1 ≡ None
      by_byte None e = byte_outside text DataPart (all_from (byte text Space) (length text) at).1 (slice_get_none text (all_from (byte text Space) (length text) at).1 e)
      by_byte (Some x) e =
          let stop = (all_from (byte text Space) (length text) at).1 in
          byte_other text DataPart stop x e (not_part x (class_false Space stop x e (all_stops (byte_longest text Space) (omega arith) at)) (class_false DataStart stop x e start))

  -- the item without quotes: what begins there, and what follows
  plain_some : (from b : ℕ) → byte text DataStart from ≡ Some (b, from + 1) → byte text DataPart from ≡ Some (b, from + 1)
  plain_some from b e =
      let x = at_byte text DataStart from b (from + 1) ((byte_longest text DataStart).sound from b (from + 1) e) in
      let read = byte_found text DataStart from x.0 x.1 x.2 in
      byte_found text DataPart from x.0 x.1 (start_part text x.0 x.2) ∙ sym read ∙ e

  start_step : (from : ℕ) (r : ℕ × ℕ) → byte text DataStart from ≡ Some r → r.1 ≡ from + 1
  start_step from r e = ((byte_longest text DataStart).sound from r.0 r.1 e).1

  abbrev plain_found : ℕ → Option (Datum × ℕ)
  plain_found from = Some (datum false (trim_right (map as_space (all_from (byte text DataPart) (length text) from).0)), (all_from (byte text DataPart) (length text) from).1)

  core_found : (from b : ℕ) → byte text DataStart from ≡ Some (b, from + 1) → built plain_datum (plain text) from ≡ plain_found from
  core_found from b e =
      let rest = all_from (byte text DataPart) (length text) (from + 1) in
      let whole = all_on (byte_longest text DataPart) (omega arith) from (b, from + 1) (plain_some from b e) in
      built_of plain_datum (plain_longest text) from ((b, rest.0), rest.1) (both_of (byte_longest text DataStart) (parts_of text) from (b, from + 1) rest e (all_bytes DataPart (from + 1)))
      ∙ ap (λ read. Some (let found : Datum × ℕ = (datum false (trim_right (map as_space read.0)), read.1) in found)) (sym whole)

  -- behind the spaces: bytes of an item without quotes, of which there may be none
  plain_by : (at : ℕ) (o : Option (ℕ × ℕ)) → reading.quoted_text text (past text Space at) ≡ None → byte text DataStart (past text Space at) ≡ o → item text at ≡ plain_found (past text Space at)
  plain_by at None e eo =
      let from = past text Space at in
      let nothing = core_plain from e ∙ built_none plain_datum (plain text) from (both_none (byte text DataStart) (repeated (byte text DataPart) (length text)) from eo) in
      let stops = all_end (byte_longest text DataPart) (omega arith) from (no_part at eo) in
      item_by at None nothing ∙ ap (λ read. Some (let found : Datum × ℕ = (datum false (trim_right (map as_space read.0)), read.1) in found)) (sym stops)
  plain_by at (Some r) e eo =
      let from = past text Space at in
      let step = start_step from r eo in
      let first : byte text DataStart from ≡ Some (r.0, from + 1) = eo ∙ ap (λ n. Some (let found : ℕ × ℕ = (r.0, n) in found)) step in
      let read = all_from (byte text DataPart) (length text) from in
      item_by at (Some (datum false (trim_right (map as_space read.0)), read.1)) (core_plain from e ∙ core_found from r.0 first)

  part_bytes : (from : ℕ) → plain_found from ≡ Some (datum false (trim_right (map as_space (between text from (past text DataPart from)))), past text DataPart from)
  unfolding past
  part_bytes from =
      let read = all_from (byte text DataPart) (length text) from in
      ap (λ bytes. Some (let found : Datum × ℕ = (datum false (trim_right (map as_space bytes)), read.1) in found))
      (bytes_are text DataPart read.0 from read.1 (all_sound (byte_longest text DataPart) (omega arith) from))

  pub item_plain : (at : ℕ) → reading.quoted_text text (past text Space at) ≡ None →
      item text at ≡ Some (datum false (trim_right (map as_space (between text (past text Space at) (past text DataPart (past text Space at))))), past text DataPart (past text Space at))
  item_plain at e = plain_by at (byte text DataStart (past text Space at)) e refl ∙ part_bytes (past text Space at)

-- a whole text in quotes
module _ (text : List ℕ) where
  no_piece_at_end : ⊥ ⊎ (⊥ ⊎ Begins (piece text) (length text)) → ⊥
  no_piece_at_end (inl h) = h
  no_piece_at_end (inr (inl h)) = h
  no_piece_at_end (inr (inr h)) =
      let p = begun (piece_longest text) (length text) h in
      let q = at_byte text Quote (length text) p.0.0 p.2.0 p.2.1 in
      absurd (let both : Some q.0 ≡ None = sym q.1 ∙ slice_get_past text (length text) (omega arith) in cc)

  quoted_of : (at : ℕ) (tree : (ℕ × (List ℕ × ℕ)) × List (ℕ × (List ℕ × ℕ))) (end : ℕ) → quoted text at ≡ Some (tree, end) → reading.quoted_text text at ≡ Some (map as_space (quoted_bytes tree), end)
  unfolding reading.quoted_text
  quoted_of at tree end e = built_of (λ q. map as_space (quoted_bytes q)) (quoted_longest text) at (tree, end) e

  -- what is read to the end of the text
  pub whole_found : (string : List ℕ) (end : ℕ) → reading.quoted_text text 0 ≡ Some (string, end) → end ≡ length text → length string ≤ MAX_STRING_LEN → IsQuotedString text string
  whole_found string end e last short =
      let q = quoted_read text 0 string end e in
      let goal : ℕ → Type 0 = λ n. Quoted text 0 q.0 n in
      (q.0, subst goal last ((quoted_longest text).sound 0 q.0 end q.1), sym q.2, short)

  pub whole_only : (string : List ℕ) → IsQuotedString text string → reading.quoted_text text 0 ≡ Some (string, length text)
  whole_only string is =
      quoted_of 0 is.0 (length text) (ends (quoted_longest text) 0 is.0 (length text) is.1 no_piece_at_end)
      ∙ ap (λ bytes. Some (let found : List ℕ × ℕ = (bytes, length text) in found)) (sym is.2)
