-- The bytes that the pieces of a quoted text stand for.
use Rattle.std.proofs.Common.{◌≡◌, ℕ, ◌+◌, ◌-◌, Bool, true, false, List, [], ◌∷◌, ◌++◌, length, map, get_or, Some, None, refl, sym, ap, ◌∙◌, arith, eqb-true}
use Rattle.std.specs.Prelude.{flat_map}
use Rattle.std.proofs.lemmas.List.{map-append}
use Rattle.std.proofs.lemmas.Option.{get_or_from_slice_get}
use Rattle.bas_form.specs.Form.{Repeated}
use Rattle.bas_form.specs.Reader.{repeated, built, both, all_from}
use Rattle.bas_form.proofs.ReaderLaws.{same_some}
use Rattle.bas_form.proofs.EndLaws.{read_to, read_none}
use Rattle.bas_form.proofs.ElementLaws.{element_from}
use Rattle.bas_form.proofs.RepetitionLaws.{all_on, all_end, repeated_longest}
use Rattle.bas_form.proofs.ByteLaws.{byte_longest, at_byte}
use Rattle.bas_form.proofs.QuotedLaws.{piece_longest, piece_ends}
use Rattle.bas_form.specs.declared.byte_class.ByteClass.{ByteClass}
use Rattle.bas_form.specs.declared.byte_class.ByteClass.TheVariants.{Quote, InQuotes}
use Rattle.bas_form.specs.Bytes.{is_of_class, of_class, Byte}
use Rattle.bas_form.specs.Quoted.{Piece, piece, piece_end}
use Rattle.bas_text.specs.Trim.{as_space, between}
use Rattle.bas_text.specs.Reading as reading
use Rattle.bas_text.proofs.TrimLaws.{between_none, between_cons}

of_value : (c : ByteClass) (x b : ℕ) → of_class c x ≡ Some b → x ≡ b
of_value c x b e = by_test (is_of_class c x) refl e
  where
    by_test : (t : Bool) → is_of_class c x ≡ t → of_class c x ≡ Some b → x ≡ b
    by_test true et e = let f = rw et at e in same_some f
    by_test false et e = let f = rw et at e in absurd (cc)

module _ (text : List ℕ) where
  -- the byte that a form of one byte has
  byte_value : (c : ByteClass) (at b next : ℕ) → Byte text c at b next → get_or text at 0 ≡ b
  byte_value c at b next h =
      let x = element_from (of_class c) text at b h.0 in
      get_or_from_slice_get text at x.0 0 x.1 ∙ of_value c x.0 b x.2

  -- the bytes that a form of many bytes has
  pub bytes_are : (c : ByteClass) (bytes : List ℕ) (at next : ℕ) → Repeated (Byte text c) at bytes next → bytes ≡ between text at next
  bytes_are c [] at next h = sym (ap (between text at) h ∙ between_none text at)
  bytes_are c (b ∷ more) at next h =
      let step = h.1.1 in
      let grown = (repeated_longest (byte_longest text c) (omega arith) (λ n h a m k. h)).grows h.0 more next h.2 in
      sym (between_cons text at next (omega arith) ∙ ap (λ x. x ∷ between text (at + 1) next) (byte_value c at b h.0 h.1)
      ∙ ap (λ n. b ∷ between text n next) (sym h.1.1) ∙ ap (λ bytes. b ∷ bytes) (sym (bytes_are c more h.0 next h.2)))

  -- a piece from its opening quote to before its closing one
  pub piece_bytes : (at : ℕ) (p : ℕ × (List ℕ × ℕ)) (end : ℕ) → Piece text at p end →
      (p.1.0 ≡ between text (at + 1) (end - 1)) × (34 ∷ p.1.0 ≡ between text at (end - 1))
  piece_bytes at p end h =
      let inner = bytes_are InQuotes p.1.0 h.0 h.2.0 h.2.1 in
      let grown = (repeated_longest (byte_longest text InQuotes) (omega arith) (λ n h a m k. h)).grows h.0 p.1.0 h.2.0 h.2.1 in
      let first = h.1.1 in
      let last = h.2.2.1 in
      let closing : h.2.0 ≡ end - 1 = omega arith in
      let there : p.1.0 ≡ between text (at + 1) (end - 1) = inner ∙ ap (λ n. between text n h.2.0) h.1.1 ∙ ap (between text (at + 1)) closing in
      let q = at_byte text Quote at p.0 h.0 h.1 in
      let opening : get_or text at 0 ≡ 34 = get_or_from_slice_get text at q.0 0 q.1 ∙ eqb-true q.0 34 q.2 in
      (there, sym (between_cons text at (end - 1) (omega arith) ∙ ap (λ x. x ∷ between text (at + 1) (end - 1)) opening ∙ ap (λ bytes. 34 ∷ bytes) (sym there)))

  abbrev with_quote : ℕ × (List ℕ × ℕ) → List ℕ
  with_quote p = 34 ∷ p.1.0

  piece_read : (at end : ℕ) → piece_end text at ≡ Some end → (p : ℕ × (List ℕ × ℕ)) × (piece text at ≡ Some (p, end))
  piece_read at end e = read_to (piece text at) end (sym (piece_ends text at) ∙ e)

  piece_none : (at : ℕ) → piece_end text at ≡ None → piece text at ≡ None
  piece_none at e = read_none (piece text at) (sym (piece_ends text at) ∙ e)

  -- one piece more
  pub more_on : (at end : ℕ) → piece_end text at ≡ Some end → reading.more_bytes text at ≡ map as_space (between text at (end - 1)) ++ reading.more_bytes text end
  unfolding reading.more_bytes
  more_on at end e =
      let p = piece_read at end e in
      let outer = (piece_bytes at p.0 end ((piece_longest text).sound at p.0 end p.1)).1 in
      ap (λ read. map as_space (flat_map with_quote read.0)) (all_on (piece_longest text) (omega arith) at (p.0, end) p.1)
      ∙ map-append as_space (with_quote p.0) (flat_map with_quote (all_from (piece text) (length text) end).0)
      ∙ ap (λ bytes. map as_space bytes ++ map as_space (flat_map with_quote (all_from (piece text) (length text) end).0)) outer

  pub more_end : (at : ℕ) → piece_end text at ≡ None → reading.more_bytes text at ≡ []
  unfolding reading.more_bytes
  more_end at e = ap (λ read. map as_space (flat_map with_quote read.0)) (all_end (piece_longest text) (omega arith) at (piece_none at e))

  pub past_on : (at end : ℕ) → piece_end text at ≡ Some end → reading.pieces_past text at ≡ reading.pieces_past text end
  unfolding reading.pieces_past
  past_on at end e = let p = piece_read at end e in ap (λ read. read.1) (all_on (piece_longest text) (omega arith) at (p.0, end) p.1)

  pub past_end : (at : ℕ) → piece_end text at ≡ None → reading.pieces_past text at ≡ at
  unfolding reading.pieces_past
  past_end at e = ap (λ read. read.1) (all_end (piece_longest text) (omega arith) at (piece_none at e))

  -- the first piece, and all behind it
  pub quoted_some : (at first : ℕ) → piece_end text at ≡ Some first →
      reading.quoted_text text at ≡ Some (map as_space (between text (at + 1) (first - 1)) ++ reading.more_bytes text first, reading.pieces_past text first)
  unfolding reading.quoted_text reading.more_bytes reading.pieces_past built both repeated
  quoted_some at first e =
      let p = piece_read at first e in
      let inner = (piece_bytes at p.0 first ((piece_longest text).sound at p.0 first p.1)).0 in
      let rest = all_from (piece text) (length text) first in
      rw p.1 (ap (λ bytes. Some (let found : List ℕ × ℕ = (bytes, rest.1) in found))
      (map-append as_space p.0.1.0 (flat_map with_quote rest.0) ∙ ap (λ bytes. map as_space bytes ++ map as_space (flat_map with_quote rest.0)) inner))

  pub quoted_none : (at : ℕ) → piece_end text at ≡ None → reading.quoted_text text at ≡ None
  unfolding reading.quoted_text built both
  quoted_none at e = rw (piece_none at e) refl
