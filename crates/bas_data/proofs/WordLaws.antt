-- The word DATA is read exactly where a line begins with it.
use Rattle.std.proofs.Common.{◌≡◌, ℕ, ◌+◌, ◌-◌, ◌==◌, ◌⊎◌, inl, inr, Bool, true, false, List, [], ◌∷◌, length, get_or, take, drop, eqb-true, get_or-drop, Option, Some, None, slice_range, codes, refl, sym, ap, ◌∙◌, subst, arith}
use Rattle.std.specs.Str.{str_to_ascii_lowercase, str_eq_ignore_ascii_case}
use Rattle.std.specs.Char.{to_ascii_lowercase}
use Rattle.std.proofs.lemmas.Slice.Eq.{bytes_eq-Decides}
use Rattle.std.proofs.lemmas.Option.{get_or_from_slice_get}
use Rattle.bas_form.specs.Form.{Repeated}
use Rattle.bas_form.specs.Element.{element_at}
use Rattle.bas_form.specs.Reader.{terminal, all_from, repeated, ReadsLongest, Begins}
use Rattle.bas_form.proofs.ReaderLaws.{same_some}
use Rattle.bas_form.proofs.RepetitionLaws.{repeated_longest, all_sound}
use Rattle.bas_form.proofs.ByteLaws.{byte_longest, begins_byte}
use Rattle.bas_form.specs.declared.byte_class.ByteClass.{ByteClass}
use Rattle.bas_form.specs.declared.byte_class.ByteClass.TheVariants.{Space, WordPart, Dollar}
use Rattle.bas_form.specs.Bytes.{is_of_class, of_class, Byte, byte, byte_end, past}
use Rattle.bas_data.specs.Data.{BeginsWithData}
use Rattle.bas_data.specs.Reading.{unless_more, word_from, data_word}
use Rattle.bas_data.specs.Laws.{WordLaw}

module _ (line : List ℕ) (class : ByteClass) (at : ℕ) where
  end_by : (o : Option ℕ) → element_at (of_class class) line at ≡ o → byte_end line class at ≡ None → element_at (of_class class) line at ≡ None
  unfolding byte_end terminal
  end_by None e h = e
  end_by (Some b) e h = let f = rw e at h in absurd (cc)

  pub no_byte : byte_end line class at ≡ None → element_at (of_class class) line at ≡ None
  no_byte h = end_by (element_at (of_class class) line at) refl h

  pub no_end : element_at (of_class class) line at ≡ None → byte_end line class at ≡ None
  unfolding byte_end terminal
  no_end e = rw e refl

module _ (line : List ℕ) where
  more_by : (at behind : ℕ) (p d : Option ℕ) → unless_more line at p d ≡ Some behind → (p ≡ None) × (d ≡ None) × (at ≡ behind)
  more_by at behind None None e = (refl, refl, same_some e)
  more_by at behind None (Some x) e = absurd (cc)
  more_by at behind (Some x) d e = absurd (cc)

  word_by : (from behind : ℕ) (t : Bool) → str_eq_ignore_ascii_case (slice_range line from (from + 4)) (codes "DATA") ≡ t → word_from line from ≡ Some behind →
      (t ≡ true) × (byte_end line WordPart (from + 4) ≡ None) × (byte_end line Dollar (from + 4) ≡ None) × (from + 4 ≡ behind)
  word_by from behind true et e =
      let m = more_by (from + 4) behind (byte_end line WordPart (from + 4)) (byte_end line Dollar (from + 4)) (let f = rw et at e in f) in
      (refl, m.0, m.1, m.2)
  word_by from behind false et e = let f = rw et at e in absurd (cc)

  spaces : ReadsLongest (length line) 0 (Repeated (Byte line Space)) (λ n. ⊥ ⊎ Begins (byte line Space) n) (repeated (byte line Space) (length line))
  spaces = repeated_longest (byte_longest line Space) (omega arith) (λ n h a m k. h)

  front : (read : List ℕ) × Repeated (Byte line Space) 0 read (past line Space 0)
  unfolding past
  front = ((all_from (byte line Space) (length line) 0).0, all_sound (byte_longest line Space) (omega arith) 0)

  word_sound : (behind : ℕ) → data_word line ≡ Some behind → BeginsWithData line behind
  unfolding data_word
  word_sound behind e =
      let from = past line Space 0 in
      let w = word_by from behind (str_eq_ignore_ascii_case (slice_range line from (from + 4)) (codes "DATA")) refl e in
      let place = w.3 in (
        from,
        record {
          spaces = front;
          length = sym w.3;
          word = subst (λ (n : ℕ). str_eq_ignore_ascii_case (slice_range line from n) (codes "DATA") ≡ true) place w.0;
          no_more = subst (λ (n : ℕ). element_at (of_class WordPart) line n ≡ None) place (no_byte line WordPart (from + 4) w.1);
          no_dollar = subst (λ (n : ℕ). element_at (of_class Dollar) line n ≡ None) place (no_byte line Dollar (from + 4) w.2);
        },
      )

  word_bytes : (from : ℕ) → str_eq_ignore_ascii_case (slice_range line from (from + 4)) (codes "DATA") ≡ true → str_to_ascii_lowercase (take 4 (drop from line)) ≡ codes "data"
  word_bytes from e =
      let few : (from + 4) - from ≡ 4 = omega arith in
      let same : str_eq_ignore_ascii_case (take 4 (drop from line)) (codes "DATA") ≡ true = subst (λ (n : ℕ). str_eq_ignore_ascii_case (take n (drop from line)) (codes "DATA") ≡ true) few e in
      grind (arith, bytes_eq-Decides (str_to_ascii_lowercase (take 4 (drop from line))) (codes "data"))

  first_byte : (b : ℕ) (d : List ℕ) → get_or d 0 0 ≡ b → str_to_ascii_lowercase (take 4 d) ≡ codes "data" → to_ascii_lowercase b ≡ 100
  first_byte b [] e h = absurd (cc)
  first_byte b (x ∷ more) e h = ap to_ascii_lowercase (sym e) ∙ ap (λ (t : List ℕ). get_or t 0 0) h

  space_is : (b : ℕ) (t : Bool) → (b == 32) ≡ t → is_of_class Space b ≡ true → to_ascii_lowercase b ≡ 100 → ⊥
  space_is b true et h e = let f = rw (eqb-true b 32 et) at e in absurd (omega arith)
  space_is b false et h e = let f = rw (eqb-true b 9 (let g = rw et at h in g)) at e in absurd (omega arith)

  -- no space begins the word
  no_space : (from : ℕ) → str_eq_ignore_ascii_case (slice_range line from (from + 4)) (codes "DATA") ≡ true → Begins (byte line Space) from → ⊥
  no_space from e h =
      let b = begins_byte line Space from h in
      let here : get_or (drop from line) 0 0 ≡ b.0 = get_or-drop from line 0 0 ∙ ap (λ n. get_or line n 0) (let same : from + 0 ≡ from = omega arith in same) ∙ get_or_from_slice_get line from b.0 0 b.1 in
      space_is b.0 (b.0 == 32) refl b.2 (first_byte b.0 (drop from line) here (word_bytes from e))

  front_is : (from : ℕ) (read : List ℕ) → Repeated (Byte line Space) 0 read from → str_eq_ignore_ascii_case (slice_range line from (from + 4)) (codes "DATA") ≡ true → past line Space 0 ≡ from
  unfolding past repeated
  front_is from read h e = elim (spaces.longest 0 read from h) as (λ _. (all_from (byte line Space) (length line) 0).1 ≡ from) [
    | inl d ↦ ap (λ r. r.1) (same_some d)
    | inr d ↦ absurd (elim d.0 as (λ _. ⊥) [ inl z ↦ z | inr b ↦ no_space from e b ])
  ]

  word_whole : (behind : ℕ) → BeginsWithData line behind → data_word line ≡ Some behind
  unfolding data_word
  word_whole behind h =
      let from = h.0 in
      let is = h.1 in
      let place = is.length in
      let word = subst (λ (n : ℕ). str_eq_ignore_ascii_case (slice_range line from n) (codes "DATA") ≡ true) place is.word in
      let part = no_end line WordPart (from + 4) (subst (λ (n : ℕ). element_at (of_class WordPart) line n ≡ None) place is.no_more) in
      let dollar = no_end line Dollar (from + 4) (subst (λ (n : ℕ). element_at (of_class Dollar) line n ≡ None) place is.no_dollar) in
      rw (front_is from is.spaces.0 is.spaces.1 word, word, part, dollar) (ap (λ n. Some n) (sym place))

pub word_law : WordLaw
word_law = record { sound = word_sound; whole = word_whole }
