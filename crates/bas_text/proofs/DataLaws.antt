-- The readers of items take the longest.
use Rattle.std.proofs.Common.{◌≡◌, ℕ, ◌⊎◌, inl, inr, ◌==◌, Bool, true, false, List, [], ◌∷◌, length, Option, Some, None, slice_get, refl, sym, ◌∙◌, subst, arith, eqb-true}
use Rattle.std.proofs.lemmas.Bool.Decides.{nat_tests}
use Rattle.bas_form.specs.Form.{◌then◌, Optional, ◌repeating◌}
use Rattle.bas_form.specs.Reader.{◌followed_by◌, optional, repeated, ReadsLongest, Begins, AlwaysReads}
use Rattle.bas_form.proofs.ReaderLaws.{some_is, begun, begins, weaker, optional_longest, optional_reads, either_longest, built_longest}
use Rattle.bas_form.proofs.SequenceLaws.{then_open, then_longest}
use Rattle.bas_form.proofs.RepetitionLaws.{repeated_longest, repeated_reads, repeating_longest}
use Rattle.bas_form.specs.declared.byte_class.ByteClass.{ByteClass}
use Rattle.bas_form.specs.declared.byte_class.ByteClass.TheVariants.{Space, Quote, Comma, DataStart, DataPart}
use Rattle.bas_form.specs.Bytes.{is_of_class, is_unquoted, Byte, byte}
use Rattle.bas_form.specs.Quoted.{Quoted, piece, quoted}
use Rattle.bas_form.proofs.ByteLaws.{byte_longest, byte_found, at_byte, begins_byte, apart, never_both}
use Rattle.bas_form.proofs.QuotedLaws.{piece_longest, quoted_longest}
use Rattle.bas_text.specs.declared.data_list.Datum.{Datum}
use Rattle.bas_text.specs.DataItems.{quoted_datum, plain_datum, item_datum, Spaces, Core, Item, NextItem, spaces, plain, core, item, next_item}

module _ (text : List ℕ) where
  wider : (c d : ByteClass) → ((b : ℕ) → is_of_class c b ≡ true → is_of_class d b ≡ true) → (n : ℕ) → Begins (byte text c) n → Begins (byte text d) n
  wider c d wide n h = let x = begins_byte text c n h in some_is (byte_found text d n x.0 x.1 (wide x.0 x.2))

  known_part : (known b : ℕ) → (b == known) ≡ true → is_of_class DataPart known ≡ true → is_of_class DataPart b ≡ true
  known_part known b e h = subst (λ (n : ℕ). is_of_class DataPart n ≡ true) (sym (eqb-true b known e)) h

  space_part : (b : ℕ) → is_of_class Space b ≡ true → is_of_class DataPart b ≡ true
  space_part b h = by_test (b == 32) refl h
    where
      by_test : (t : Bool) → (b == 32) ≡ t → is_of_class Space b ≡ true → is_of_class DataPart b ≡ true
      by_test true e h = known_part 32 b e refl
      by_test false e h = known_part 9 b (let f = rw e at h in f) refl

  pub start_part : (b : ℕ) → is_of_class DataStart b ≡ true → is_of_class DataPart b ≡ true
  start_part b h = by_test (is_unquoted b) refl h
    where
      by_test : (t : Bool) → is_unquoted b ≡ t → is_of_class DataStart b ≡ true → is_of_class DataPart b ≡ true
      by_test true e h = rw e refl
      by_test false e h = let f = rw e at h in absurd (cc)

  quote_or_space : (b : ℕ) → is_of_class Quote b ≡ true → is_of_class Space b ≡ true → ⊥
  quote_or_space b h k = grind (arith, nat_tests)

  quote_or_start : (b : ℕ) → is_of_class Quote b ≡ true → is_of_class DataStart b ≡ true → ⊥
  quote_or_start b h k = grind (arith, nat_tests)

  space_or_start : (b : ℕ) → is_of_class Space b ≡ true → is_of_class DataStart b ≡ true → ⊥
  space_or_start b h k = grind (arith, nat_tests)

  quote_or_comma : (b : ℕ) → is_of_class Quote b ≡ true → is_of_class Comma b ≡ true → ⊥
  quote_or_comma b h k = grind (arith, nat_tests)

  part_or_comma : (b : ℕ) → is_of_class DataPart b ≡ true → is_of_class Comma b ≡ true → ⊥
  part_or_comma b h k = grind (arith, nat_tests)

  -- where an item may go on
  abbrev pub GoesItem : ℕ → Type 0
  GoesItem n = Begins (byte text Quote) n ⊎ Begins (byte text DataPart) n

  pub spaces_longest : ReadsLongest (length text) 0 (Spaces text) (λ n. ⊥ ⊎ Begins (byte text Space) n) (spaces text)
  spaces_longest = repeated_longest (byte_longest text Space) (omega arith) (λ n h a m k. h)

  spaces_read : AlwaysReads (spaces text)
  spaces_read = repeated_reads (byte_longest text Space) (omega arith) (λ n h a m k. h)

  space_goes : (n : ℕ) → ⊥ ⊎ Begins (byte text Space) n → GoesItem n
  space_goes n (inl h) = absurd h
  space_goes n (inr h) = inr (wider Space DataPart space_part n h)

  -- a piece begins with a quote
  piece_quote : (n : ℕ) → Begins (piece text) n → Begins (byte text Quote) n
  piece_quote n h = let x = begun (piece_longest text) n h in begins (byte_longest text Quote) n x.0.0 x.2.0 x.2.1

  no_space_behind : (n : ℕ) → Begins (byte text Quote) n → (ss : List ℕ) (m : ℕ) → Spaces text n ss m → (m ≡ n) × GoesItem n × AlwaysReads (spaces text)
  no_space_behind n h [] m k = (k, inl h, spaces_read)
  no_space_behind n h (s ∷ ss) m k = absurd (never_both text Quote Space quote_or_space n h s k.0 k.1)

  pub quoted_item_longest : ReadsLongest (length text) 1 (Quoted text then Spaces text) GoesItem (quoted text followed_by spaces text)
  quoted_item_longest = weaker (then_open (quoted_longest text) spaces_longest GoesItem space_goes behind) GoesItem 1 (λ n h. h) (omega arith)
    where
      behind : (n : ℕ) → ⊥ ⊎ (⊥ ⊎ Begins (piece text) n) → (ss : List ℕ) (m : ℕ) → Spaces text n ss m → (m ≡ n) × GoesItem n × AlwaysReads (spaces text)
      behind n (inl h) ss m k = absurd h
      behind n (inr (inl h)) ss m k = absurd h
      behind n (inr (inr h)) ss m k = no_space_behind n (piece_quote n h) ss m k

  pub plain_longest : ReadsLongest (length text) 1 (Byte text DataStart repeating Byte text DataPart) GoesItem (plain text)
  plain_longest = weaker (repeating_longest (byte_longest text DataStart) (byte_longest text DataPart) (omega arith) (λ n h b m k. h) (λ n h b m k. h)) GoesItem 1 open_at (omega arith)
    where
      open_at : (n : ℕ) → ⊥ ⊎ (⊥ ⊎ Begins (byte text DataPart) n) → GoesItem n
      open_at n (inl h) = absurd h
      open_at n (inr (inl h)) = absurd h
      open_at n (inr (inr h)) = inr h

  pub core_longest : ReadsLongest (length text) 1 (Core text) GoesItem (core text)
  core_longest = weaker
      (either_longest (built_longest quoted_datum quoted_item_longest) (built_longest plain_datum plain_longest)
      (λ n a k h b m g. apart text Quote DataStart quote_or_start n (at_byte text Quote n h.0.0.0.0 h.2.1.1.0 h.2.1.1.1) (at_byte text DataStart n g.0.0 g.2.0 g.2.1))) GoesItem 1 open_at (omega arith)
    where
      open_at : (n : ℕ) → GoesItem n ⊎ GoesItem n → GoesItem n
      open_at n (inl h) = h
      open_at n (inr h) = h

  core_goes : (n : ℕ) → Begins (core text) n → GoesItem n
  core_goes n h = let x = begun core_longest n h in by_core x.0 x.1 x.2
    where
      by_core : (d : Datum) (m : ℕ) → Core text n d m → GoesItem n
      by_core d m (inl h) = inl (begins (byte_longest text Quote) n h.0.0.0.0 h.2.1.1.0 h.2.1.1.1)
      by_core d m (inr h) = inr (wider DataStart DataPart start_part n (begins (byte_longest text DataStart) n h.0.0 h.2.0 h.2.1))

  no_core_at_space : (n : ℕ) → Begins (byte text Space) n → (d : Datum) (m : ℕ) → Core text n d m → ⊥
  no_core_at_space n h d m (inl k) = apart text Quote Space quote_or_space n (at_byte text Quote n k.0.0.0.0 k.2.1.1.0 k.2.1.1.1) (begins_byte text Space n h)
  no_core_at_space n h d m (inr k) = apart text Space DataStart space_or_start n (begins_byte text Space n h) (at_byte text DataStart n k.0.0 k.2.0 k.2.1)

  pub parts_longest : ReadsLongest (length text) 0 (Spaces text then Optional (Core text)) GoesItem (spaces text followed_by optional (core text))
  parts_longest = then_open spaces_longest (optional_longest core_longest (omega arith)) GoesItem more behind
    where
      more : (n : ℕ) → GoesItem n ⊎ Begins (core text) n → GoesItem n
      more n (inl h) = h
      more n (inr h) = core_goes n h

      behind : (n : ℕ) → ⊥ ⊎ Begins (byte text Space) n → (b : Option Datum) (m : ℕ) → Optional (Core text) n b m → (m ≡ n) × GoesItem n × AlwaysReads (optional (core text))
      behind n (inl h) b m k = absurd h
      behind n (inr h) None m k = (k, inr (wider Space DataPart space_part n h), optional_reads core_longest (omega arith))
      behind n (inr h) (Some d) m k = absurd (no_core_at_space n h d m k)

  pub item_longest : ReadsLongest (length text) 0 (Item text) GoesItem (item text)
  unfolding item
  item_longest = built_longest item_datum parts_longest

  no_comma : (n : ℕ) → GoesItem n → (a m : ℕ) → Byte text Comma n a m → ⊥
  no_comma n (inl h) a m k = never_both text Quote Comma quote_or_comma n h a m k
  no_comma n (inr h) a m k = never_both text DataPart Comma part_or_comma n h a m k

  pub next_parts : ReadsLongest (length text) 1 (Byte text Comma then Item text) GoesItem (byte text Comma followed_by item text)
  next_parts = then_longest (byte_longest text Comma) item_longest (λ n h b m k. h)

  pub next_longest : ReadsLongest (length text) 1 (NextItem text) GoesItem (next_item text)
  unfolding next_item
  next_longest = built_longest _ next_parts

  pub no_next : (n : ℕ) → GoesItem n → (d : Datum) (m : ℕ) → NextItem text n d m → ⊥
  no_next n h d m k = no_comma n h k.0.0 k.2.0 k.2.1

  pub list_longest : ReadsLongest (length text) 0 (Item text repeating NextItem text) (λ n. GoesItem n ⊎ (GoesItem n ⊎ Begins (next_item text) n)) (item text followed_by repeated (next_item text) (length text))
  list_longest = repeating_longest item_longest next_longest (omega arith) no_next no_next

  -- where something goes on, the text has not ended
  goes_inside : (n : ℕ) → GoesItem n → slice_get text n ≡ None → ⊥
  goes_inside n (inl h) e = let x = begins_byte text Quote n h in absurd (let both : Some x.0 ≡ None = sym x.1 ∙ e in cc)
  goes_inside n (inr h) e = let x = begins_byte text DataPart n h in absurd (let both : Some x.0 ≡ None = sym x.1 ∙ e in cc)

  pub list_ends : (n : ℕ) → GoesItem n ⊎ (GoesItem n ⊎ Begins (next_item text) n) → slice_get text n ≡ None → ⊥
  list_ends n (inl h) e = goes_inside n h e
  list_ends n (inr (inl h)) e = goes_inside n h e
  list_ends n (inr (inr h)) e =
      let x = begun next_longest n h in
      let c = at_byte text Comma n x.2.0.0 x.2.2.0 x.2.2.1 in
      absurd (let both : Some c.0 ≡ None = sym c.1 ∙ e in cc)
