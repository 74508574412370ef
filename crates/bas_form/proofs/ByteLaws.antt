-- What one byte of a class reads as, and all bytes of a class.
use Rattle.std.proofs.Common.{◌≡◌, ℕ, ◌+◌, ◌<◌, ◌≤◌, Bool, true, false, List, length, get_or, Some, None, slice_get, refl, sym, ap, ◌∙◌, subst, arith}
use Rattle.std.proofs.lemmas.Option.{slice_get-get_or, slice_get_past}
use Rattle.bas_form.specs.Reader.{terminal, end_of, all_from, ReadsLongest, Begins}
use Rattle.bas_form.specs.Element.{element_at}
use Rattle.bas_form.proofs.ReaderLaws.{terminal_longest, begun}
use Rattle.bas_form.proofs.RepetitionLaws.{all_on, all_end, all_sound, repeated_longest}
use Rattle.bas_form.proofs.ElementLaws.{element_inside, element_is, element_none, element_from}
use Rattle.bas_form.specs.declared.byte_class.ByteClass.{ByteClass}
use Rattle.bas_form.specs.Bytes.{is_of_class, of_class, Byte, byte, byte_end, past}

module _ (line : List ℕ) (class : ByteClass) where
  pub byte_longest : ReadsLongest (length line) 1 (Byte line class) (λ _. ⊥) (byte line class)
  byte_longest = terminal_longest (length line) (element_at (of_class class) line) (element_inside (of_class class) line)

  pub byte_found : (at b : ℕ) → slice_get line at ≡ Some b → is_of_class class b ≡ true → byte line class at ≡ Some (b, at + 1)
  unfolding terminal
  byte_found at b e is = rw (element_is (of_class class) line at b e, is) refl

  pub byte_other : (at b : ℕ) → slice_get line at ≡ Some b → is_of_class class b ≡ false → byte line class at ≡ None
  unfolding terminal
  byte_other at b e is = rw (element_is (of_class class) line at b e, is) refl

  pub byte_outside : (at : ℕ) → length line ≤ at → byte line class at ≡ None
  unfolding terminal
  byte_outside at l = rw (element_none (of_class class) line at (slice_get_past line at l)) refl

  there : (at : ℕ) → at < length line → slice_get line at ≡ Some (get_or line at 0)
  there at l = slice_get-get_or line at 0 l

  pub byte_end_found : (at : ℕ) → at < length line → is_of_class class (get_or line at 0) ≡ true → byte_end line class at ≡ Some (at + 1)
  unfolding byte_end
  byte_end_found at l is = ap end_of (byte_found at (get_or line at 0) (there at l) is)

  pub byte_end_other : (at : ℕ) → at < length line → is_of_class class (get_or line at 0) ≡ false → byte_end line class at ≡ None
  unfolding byte_end
  byte_end_other at l is = ap end_of (byte_other at (get_or line at 0) (there at l) is)

  pub byte_end_outside : (at : ℕ) → length line ≤ at → byte_end line class at ≡ None
  unfolding byte_end
  byte_end_outside at l = ap end_of (byte_outside at l)

  pub past_on : (at : ℕ) → at < length line → is_of_class class (get_or line at 0) ≡ true → past line class (at + 1) ≡ past line class at
  unfolding past
  past_on at l is = sym (ap (λ read. read.1) (all_on byte_longest (omega arith) at (get_or line at 0, at + 1) (byte_found at (get_or line at 0) (there at l) is)))

  pub past_other : (at : ℕ) → at < length line → is_of_class class (get_or line at 0) ≡ false → past line class at ≡ at
  unfolding past
  past_other at l is = ap (λ read. read.1) (all_end byte_longest (omega arith) at (byte_other at (get_or line at 0) (there at l) is))

  pub past_outside : (at : ℕ) → length line ≤ at → past line class at ≡ at
  unfolding past
  past_outside at l = ap (λ read. read.1) (all_end byte_longest (omega arith) at (byte_outside at l))

  inside_by : (at next len : ℕ) → at ≤ next → (at < next → next ≤ len) → at ≤ len → next ≤ len
  inside_by at next len grows within l = grind arith

  pub past_inside : (at : ℕ) → at ≤ length line → past line class at ≤ length line
  unfolding past
  past_inside at l =
      let read = all_from (byte line class) (length line) at in
      let longest = repeated_longest byte_longest (omega arith) (λ n h a m k. h) in
      let sound = all_sound byte_longest (omega arith) at in
      let grows = longest.grows at read.0 read.1 sound in
      inside_by at read.1 (length line) (omega arith) (longest.within at read.0 read.1 sound) l

in_class : (class : ByteClass) (b a : ℕ) → of_class class b ≡ Some a → is_of_class class b ≡ true
in_class class b a e = by_test (is_of_class class b) refl e
  where
    by_test : (t : Bool) → is_of_class class b ≡ t → of_class class b ≡ Some a → is_of_class class b ≡ true
    by_test true et e = et
    by_test false et e = let f = rw et at e in absurd (cc)

module _ (line : List ℕ) where
  -- the byte that stands there
  pub at_byte : (class : ByteClass) (n a next : ℕ) → Byte line class n a next → (b : ℕ) × (slice_get line n ≡ Some b) × (is_of_class class b ≡ true)
  at_byte class n a next h = let x = element_from (of_class class) line n a h.0 in (x.0, x.1, in_class class x.0 a x.2)

  pub begins_byte : (class : ByteClass) (n : ℕ) → Begins (byte line class) n → (b : ℕ) × (slice_get line n ≡ Some b) × (is_of_class class b ≡ true)
  begins_byte class n h = let x = begun (byte_longest line class) n h in at_byte class n x.0 x.1 x.2

  -- two classes with no byte in common don't stand at one place
  pub apart : (c d : ByteClass) → ((b : ℕ) → is_of_class c b ≡ true → is_of_class d b ≡ true → ⊥) → (n : ℕ) →
      (x : (b : ℕ) × (slice_get line n ≡ Some b) × (is_of_class c b ≡ true)) → (y : (b : ℕ) × (slice_get line n ≡ Some b) × (is_of_class d b ≡ true)) → ⊥
  apart c d never n x y =
      let same : x.0 ≡ y.0 = (let e = sym x.1 ∙ y.1 in cc) in
      never y.0 (subst (λ (b : ℕ). is_of_class c b ≡ true) same x.2) y.2

  -- a class is not where the form of another class begins
  pub never_both : (c d : ByteClass) → ((b : ℕ) → is_of_class c b ≡ true → is_of_class d b ≡ true → ⊥) → (n : ℕ) → Begins (byte line c) n → (a m : ℕ) → Byte line d n a m → ⊥
  never_both c d never n h a m k = apart c d never n (begins_byte c n h) (at_byte d n a m k)
