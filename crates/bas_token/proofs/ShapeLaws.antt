-- Each kind's reader takes the longest of its form, and ends where the code does.
use Rattle.std.proofs.Common.{◌≡◌, ℕ, ◌⊎◌, inl, inr, ◌==◌, true, false, List, length, Option, Some, slice_get, refl, sym, ◌∙◌, subst, arith, eqb-true}
use Rattle.std.proofs.lemmas.Bool.Decides.{nat_tests}
use Rattle.bas_form.specs.Form.{◌then◌, Optional, ◌or◌, ◌perhaps◌}
use Rattle.bas_form.specs.Reader.{◌followed_by◌, ◌maybe◌, ReadsLongest, Begins}
use Rattle.bas_form.proofs.ReaderLaws.{begins, begun, weaker, optional_longest, either_longest, built_longest}
use Rattle.bas_form.proofs.SequenceLaws.{then_longest, perhaps_longest}
use Rattle.bas_form.proofs.RepetitionLaws.{repeated_longest, repeating_longest}
use Rattle.bas_form.specs.declared.byte_class.ByteClass.{ByteClass}
use Rattle.bas_form.specs.declared.byte_class.ByteClass.TheVariants.{Letter, WordPart, Dollar, Digit, Point, LetterE, PlusOrMinus, PlainSign, Less, Equal, Greater, EqualOrGreater, LessOrGreater, LessOrEqual}
use Rattle.bas_form.specs.Bytes.{is_of_class, Byte, byte}
use Rattle.bas_token.specs.Lexical.{Shape, Word, Digits, Mantissa, Numeral, Sign}
use Rattle.bas_token.specs.Readers.{shape, word, digits, fraction, mantissa, exponent, numeral, sign}
use Rattle.bas_form.proofs.ByteLaws.{byte_longest, at_byte, begins_byte, apart, never_both}

module _ (line : List ℕ) where
  -- ---- words

  pub word_longest : ReadsLongest (length line) 1 (Word line) (λ n. Begins (byte line WordPart) n ⊎ Begins (byte line Dollar) n) (word line)
  word_longest = weaker
      (then_longest (byte_longest line Letter)
      (perhaps_longest (repeated_longest (byte_longest line WordPart) (omega arith) (λ n h a m k. h)) (byte_longest line Dollar) (omega arith) dollar_behind)
      (λ n h b m k. h)) _ 1 open_at (omega arith)
    where
      part_or_dollar : (b : ℕ) → is_of_class WordPart b ≡ true → is_of_class Dollar b ≡ true → ⊥
      part_or_dollar b h k = grind (arith, nat_tests)

      dollar_behind : (n : ℕ) → ⊥ ⊎ Begins (byte line WordPart) n → (a m : ℕ) → Byte line Dollar n a m → ⊥
      dollar_behind n (inl h) a m k = h
      dollar_behind n (inr h) a m k = apart line WordPart Dollar part_or_dollar n (begins_byte line WordPart n h) (at_byte line Dollar n a m k)

      open_at : (n : ℕ) → (⊥ ⊎ Begins (byte line WordPart) n) ⊎ (⊥ ⊎ Begins (byte line Dollar) n) → Begins (byte line WordPart) n ⊎ Begins (byte line Dollar) n
      open_at n (inl (inl h)) = absurd h
      open_at n (inl (inr h)) = inl h
      open_at n (inr (inl h)) = absurd h
      open_at n (inr (inr h)) = inr h

  -- ---- numerals

  pub digits_longest : ReadsLongest (length line) 1 (Digits line) (Begins (byte line Digit)) (digits line)
  digits_longest = weaker (repeating_longest (byte_longest line Digit) (byte_longest line Digit) (omega arith) (λ n h b m k. h) (λ n h b m k. h)) _ 1 open_at (omega arith)
    where
      open_at : (n : ℕ) → ⊥ ⊎ (⊥ ⊎ Begins (byte line Digit) n) → Begins (byte line Digit) n
      open_at n (inl h) = absurd h
      open_at n (inr (inl h)) = absurd h
      open_at n (inr (inr h)) = h

  digit_at : (n : ℕ) → Begins (digits line) n → Begins (byte line Digit) n
  digit_at n h = let x = begun digits_longest n h in begins (byte_longest line Digit) n x.0.0 x.2.0 x.2.1

  digit_or_point : (b : ℕ) → is_of_class Digit b ≡ true → is_of_class Point b ≡ true → ⊥
  digit_or_point b h k = grind (arith, nat_tests)

  digit_or_e : (b : ℕ) → is_of_class Digit b ≡ true → is_of_class LetterE b ≡ true → ⊥
  digit_or_e b h k = grind (arith, nat_tests)

  point_or_e : (b : ℕ) → is_of_class Point b ≡ true → is_of_class LetterE b ≡ true → ⊥
  point_or_e b h k = grind (arith, nat_tests)

  sign_or_digit : (b : ℕ) → is_of_class PlusOrMinus b ≡ true → is_of_class Digit b ≡ true → ⊥
  sign_or_digit b h k = grind (arith, nat_tests)

  fraction_longest : ReadsLongest (length line) 1 (Byte line Point perhaps Digits line) (Begins (byte line Digit)) (fraction line)
  fraction_longest = weaker (perhaps_longest (byte_longest line Point) digits_longest (omega arith) (λ n h b m k. h)) _ 1 open_at (omega arith)
    where
      open_at : (n : ℕ) → ⊥ ⊎ (Begins (byte line Digit) n ⊎ Begins (digits line) n) → Begins (byte line Digit) n
      open_at n (inl h) = absurd h
      open_at n (inr (inl h)) = h
      open_at n (inr (inr h)) = digit_at n h

  -- where a mantissa may go on
  abbrev OpenMantissa : ℕ → Type 0
  OpenMantissa n = Begins (byte line Digit) n ⊎ Begins (byte line Point) n

  point_at : (n : ℕ) → Begins (fraction line) n → Begins (byte line Point) n
  point_at n h = let x = begun fraction_longest n h in begins (byte_longest line Point) n x.0.0 x.2.0 x.2.1

  whole_longest : ReadsLongest (length line) 1 (Digits line perhaps (Byte line Point perhaps Digits line)) OpenMantissa (digits line maybe fraction line)
  whole_longest = weaker
      (perhaps_longest digits_longest fraction_longest (omega arith) (λ n h b m k. never_both line Digit Point digit_or_point n h b.0 k.0 k.1)) _ 1 open_at (omega arith)
    where
      open_at : (n : ℕ) → Begins (byte line Digit) n ⊎ (Begins (byte line Digit) n ⊎ Begins (fraction line) n) → OpenMantissa n
      open_at n (inl h) = inl h
      open_at n (inr (inl h)) = inl h
      open_at n (inr (inr h)) = inr (point_at n h)

  bare_longest : ReadsLongest (length line) 1 (Byte line Point then Digits line) OpenMantissa (byte line Point followed_by digits line)
  bare_longest = weaker (then_longest (byte_longest line Point) digits_longest (λ n h b m k. h)) _ 1 (λ n h. inl h) (omega arith)

  mantissa_longest : ReadsLongest (length line) 1 (Mantissa line) OpenMantissa (mantissa line)
  mantissa_longest = weaker
      (either_longest (built_longest _ whole_longest) (built_longest _ bare_longest)
      (λ n a k h b m g. apart line Digit Point digit_or_point n (at_byte line Digit n h.0.0.0 h.2.1.0 h.2.1.1) (at_byte line Point n g.0.0 g.2.0 g.2.1))) _ 1 open_at (omega arith)
    where
      open_at : (n : ℕ) → OpenMantissa n ⊎ OpenMantissa n → OpenMantissa n
      open_at n (inl h) = h
      open_at n (inr h) = h

  exponent_longest : ReadsLongest (length line) 1 (Byte line LetterE then Optional (Byte line PlusOrMinus) then Digits line) (Begins (byte line Digit)) (exponent line)
  exponent_longest = weaker
      (then_longest (byte_longest line LetterE)
      (then_longest (optional_longest (byte_longest line PlusOrMinus) (omega arith)) digits_longest no_digits)
      (λ n h b m k. h)) _ 1 (λ n h. h) (omega arith)
    where
      no_digits : (n : ℕ) → ⊥ ⊎ Begins (byte line PlusOrMinus) n → (b : ℕ × List ℕ) (m : ℕ) → Digits line n b m → ⊥
      no_digits n (inl h) b m k = h
      no_digits n (inr h) b m k = never_both line PlusOrMinus Digit sign_or_digit n h b.0 k.0 k.1

  pub numeral_longest : ReadsLongest (length line) 1 (Numeral line) (λ n. OpenMantissa n ⊎ (Begins (byte line Digit) n ⊎ Begins (exponent line) n)) (numeral line)
  numeral_longest = perhaps_longest mantissa_longest exponent_longest (omega arith) no_exponent
    where
      no_exponent : (n : ℕ) → OpenMantissa n → (b : ℕ × (Option ℕ × (ℕ × List ℕ))) (m : ℕ) →
          (Byte line LetterE then Optional (Byte line PlusOrMinus) then Digits line) n b m → ⊥
      no_exponent n (inl h) b m k = never_both line Digit LetterE digit_or_e n h b.0 k.0 k.1
      no_exponent n (inr h) b m k = never_both line Point LetterE point_or_e n h b.0 k.0 k.1

  -- ---- signs

  pair_longest : (first second : ByteClass) → ReadsLongest (length line) 1 (Shape (Byte line first perhaps Byte line second)) (Begins (byte line second)) (shape (byte line first maybe byte line second))
  pair_longest first second = weaker (built_longest _ (perhaps_longest (byte_longest line first) (byte_longest line second) (omega arith) (λ n h b m k. h))) _ 1 open_at (omega arith)
    where
      open_at : (n : ℕ) → ⊥ ⊎ (⊥ ⊎ Begins (byte line second) n) → Begins (byte line second) n
      open_at n (inl h) = absurd h
      open_at n (inr (inl h)) = absurd h
      open_at n (inr (inr h)) = h

  pub at_pair : (first second : ByteClass) (n : ℕ) (u : Unit {0}) (next : ℕ) → Shape (Byte line first perhaps Byte line second) n u next → (b : ℕ) × (slice_get line n ≡ Some b) × (is_of_class first b ≡ true)
  at_pair first second n u next h = at_byte line first n h.0.0 h.2.0 h.2.1

  pub at_plain : (n : ℕ) (u : Unit {0}) (next : ℕ) → Shape (Byte line PlainSign) n u next → (b : ℕ) × (slice_get line n ≡ Some b) × (is_of_class PlainSign b ≡ true)
  at_plain n u next h = at_byte line PlainSign n h.0 next h.2

  equal_or_greater : (b : ℕ) → is_of_class Equal b ≡ true → is_of_class Greater b ≡ true → ⊥
  equal_or_greater b h k = grind (arith, nat_tests)

  less_or_equal : (b : ℕ) → is_of_class Less b ≡ true → is_of_class Equal b ≡ true → ⊥
  less_or_equal b h k = grind (arith, nat_tests)

  less_or_greater : (b : ℕ) → is_of_class Less b ≡ true → is_of_class Greater b ≡ true → ⊥
  less_or_greater b h k = grind (arith, nat_tests)

  -- a byte that is known is no plain sign
  not_plain : (known b : ℕ) → is_of_class PlainSign known ≡ false → is_of_class PlainSign b ≡ true → (b == known) ≡ true → ⊥
  not_plain known b unlike h k = let e = eqb-true b known k in let h' : is_of_class PlainSign known ≡ true = subst (λ (n : ℕ). is_of_class PlainSign n ≡ true) e h in absurd (let both = sym unlike ∙ h' in cc)

  pub sign_longest : ReadsLongest (length line) 1 (Sign line)
      (λ n. ⊥ ⊎ (Begins (byte line EqualOrGreater) n ⊎ (Begins (byte line LessOrGreater) n ⊎ Begins (byte line LessOrEqual) n))) (sign line)
  sign_longest =
      either_longest (built_longest _ (byte_longest line PlainSign))
      (either_longest (pair_longest Less EqualOrGreater)
      (either_longest (pair_longest Equal LessOrGreater) (pair_longest Greater LessOrEqual)
      (λ n a k h b m g. apart line Equal Greater equal_or_greater n (at_pair Equal LessOrGreater n a k h) (at_pair Greater LessOrEqual n b m g)))
      no_other)
      no_relation
    where
      no_other : (n : ℕ) (a : Unit {0}) (k : ℕ) → Shape (Byte line Less perhaps Byte line EqualOrGreater) n a k → (b : Unit {0}) (m : ℕ) →
          (Shape (Byte line Equal perhaps Byte line LessOrGreater) or Shape (Byte line Greater perhaps Byte line LessOrEqual)) n b m → ⊥
      no_other n a k h b m (inl g) = apart line Less Equal less_or_equal n (at_pair Less EqualOrGreater n a k h) (at_pair Equal LessOrGreater n b m g)
      no_other n a k h b m (inr g) = apart line Less Greater less_or_greater n (at_pair Less EqualOrGreater n a k h) (at_pair Greater LessOrEqual n b m g)

      no_relation : (n : ℕ) (a : Unit {0}) (k : ℕ) → Shape (Byte line PlainSign) n a k → (b : Unit {0}) (m : ℕ) →
          (Shape (Byte line Less perhaps Byte line EqualOrGreater) or Shape (Byte line Equal perhaps Byte line LessOrGreater) or Shape (Byte line Greater perhaps Byte line LessOrEqual)) n b m → ⊥
      no_relation n a k h b m (inl g) = apart line PlainSign Less (λ b x y. not_plain 60 b refl x y) n (at_plain n a k h) (at_pair Less EqualOrGreater n b m g)
      no_relation n a k h b m (inr (inl g)) = apart line PlainSign Equal (λ b x y. not_plain 61 b refl x y) n (at_plain n a k h) (at_pair Equal LessOrGreater n b m g)
      no_relation n a k h b m (inr (inr g)) = apart line PlainSign Greater (λ b x y. not_plain 62 b refl x y) n (at_plain n a k h) (at_pair Greater LessOrEqual n b m g)
