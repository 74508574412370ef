-- The code's places are where the readers of the lexical grammar end.
use Rattle.std.proofs.Common.{◌≡◌, ℕ, ◌<◌, ◌≤◌, ◌==◌, Bool, true, false, nat_le, cond, List, length, Option, Some, None, slice_get, refl, sym, ap, ◌∙◌, arith, eq-eqb}
use Rattle.std.specs.Prelude.{unwrap_or}
use Rattle.bas_form.specs.Reader.{Reader, ◌>>=◌, terminal, ◌followed_by◌, ◌maybe◌, optional, either, first_of, not_ahead, all_from, end_of}
use Rattle.bas_form.specs.Element.{element_at}
use Rattle.bas_form.proofs.EndLaws.{end_both, end_optional, end_either, end_built, end_maybe, end_all, end_all_then, end_optional_then, end_not_ahead, unless_some, same_steps, read_to, read_none}
use Rattle.bas_form.proofs.RepetitionLaws.{all_on, all_end}
use Rattle.bas_form.specs.declared.byte_class.ByteClass.{ByteClass}
use Rattle.bas_form.specs.declared.byte_class.ByteClass.TheVariants.{Space, Letter, WordPart, Dollar, Digit, Point, LetterE, PlusOrMinus, PlainSign, Less, Equal, Greater, EqualOrGreater, LessOrGreater, LessOrEqual, ExclamationMark, LetterR, LetterM, InRemark}
use Rattle.bas_form.specs.Bytes.{of_class, byte}
use Rattle.bas_token.specs.Readers.{shape, all_of, word, digits, fraction, mantissa, exponent, numeral, sign, first_place, first_rem, remark}
use Rattle.bas_form.specs.Bytes as bytes
use Rattle.bas_token.specs.Reading as reading
use Rattle.std.proofs.lemmas.Bool.Decides.{nat_tests}
use Rattle.std.proofs.lemmas.Option.{slice_get_within}
use Rattle.bas_form.proofs.ByteLaws.{past_inside}
use Rattle.bas_form.specs.Quoted.{piece, quoted, piece_end}
use Rattle.bas_form.proofs.QuotedLaws.{piece_longest, piece_ends}
use Rattle.bas_token.proofs.RemarkLaws.{opening_longest, slice_get_none}

module _ (line : List ℕ) (at : ℕ) where
  pub word_ends : reading.word_end line at ≡ end_of (word line at)
  unfolding reading.word_end bytes.byte_end bytes.past
  word_ends =
      same_steps (end_of (byte line Letter at)) _ _ (λ letter.
      sym (end_all_then (byte line WordPart) (optional (byte line Dollar)) (length line) letter
      ∙ end_optional (byte line Dollar) (all_from (byte line WordPart) (length line) letter).1))
      ∙ sym (end_both (byte line Letter) (all_of line (byte line WordPart) maybe byte line Dollar) at)

  pub digits_ends : reading.digits_end line at ≡ end_of (digits line at)
  unfolding reading.digits_end bytes.byte_end bytes.past
  digits_ends = sym (end_all (byte line Digit) (byte line Digit) at (length line))

module _ (line : List ℕ) (at : ℕ) where
  fraction_ends : reading.fraction_end line at ≡ end_of (fraction line at)
  unfolding reading.fraction_end bytes.byte_end
  fraction_ends =
      same_steps (end_of (byte line Point at)) _ _ (λ point. ap (λ o. Some (unwrap_or o point)) (digits_ends line point)) ∙ sym (end_maybe (byte line Point) (digits line) at)

  bare_fraction_ends : reading.bare_fraction_end line at ≡ end_of ((byte line Point followed_by digits line) at)
  unfolding reading.bare_fraction_end bytes.byte_end
  bare_fraction_ends =
      same_steps (end_of (byte line Point at)) _ _ (λ point. digits_ends line point) ∙ sym (end_both (byte line Point) (digits line) at)

  exponent_ends : reading.exponent_end line at ≡ end_of (exponent line at)
  unfolding reading.exponent_end bytes.byte_end
  exponent_ends =
      same_steps (end_of (byte line LetterE at)) _ _ (λ letter.
      digits_ends line (unwrap_or (end_of (byte line PlusOrMinus letter)) letter) ∙ sym (end_optional_then (byte line PlusOrMinus) (digits line) (length line) letter))
      ∙ sym (end_both (byte line LetterE) (optional (byte line PlusOrMinus) followed_by digits line) at)

module _ (line : List ℕ) (at : ℕ) where
  whole_ends : reading.whole_end line at ≡ end_of ((digits line maybe fraction line) at)
  unfolding reading.whole_end
  whole_ends =
      ap (λ o. o >>= λ digits. Some (unwrap_or (reading.fraction_end line digits) digits)) (digits_ends line at)
      ∙ same_steps (end_of (digits line at)) _ _ (λ digits. ap (λ o. Some (unwrap_or o digits)) (fraction_ends line digits))
      ∙ sym (end_maybe (digits line) (fraction line) at)

  mantissa_ends : reading.mantissa_end line at ≡ end_of (mantissa line at)
  unfolding reading.mantissa_end
  mantissa_ends =
      ap (λ o. first_of o (reading.bare_fraction_end line at)) (whole_ends ∙ sym (end_built _ (digits line maybe fraction line) at))
      ∙ ap (λ o. first_of (end_of (shape (digits line maybe fraction line) at)) o) (bare_fraction_ends line at ∙ sym (end_built _ (byte line Point followed_by digits line) at))
      ∙ sym (end_either (shape (digits line maybe fraction line)) (shape (byte line Point followed_by digits line)) at)

module _ (line : List ℕ) (at : ℕ) where
  pub numeral_ends : reading.numeral_end line at ≡ end_of (numeral line at)
  unfolding reading.numeral_end
  numeral_ends =
      ap (λ o. o >>= λ mantissa. Some (unwrap_or (reading.exponent_end line mantissa) mantissa)) (mantissa_ends line at)
      ∙ same_steps (end_of (mantissa line at)) _ _ (λ mantissa. ap (λ o. Some (unwrap_or o mantissa)) (exponent_ends line mantissa))
      ∙ sym (end_maybe (mantissa line) (exponent line) at)

  pub quoted_ends : reading.quoted_end line at ≡ end_of (quoted line at)
  unfolding reading.quoted_end reading.pieces_past
  quoted_ends =
      ap (λ o. o >>= λ first. Some (reading.pieces_past line first)) (piece_ends line at) ∙ sym (end_all (piece line) (piece line) at (length line))

  pub pieces_on : (next : ℕ) → piece_end line at ≡ Some next → reading.pieces_past line next ≡ reading.pieces_past line at
  unfolding reading.pieces_past
  pieces_on next e =
      let read = read_to (piece line at) next (sym (piece_ends line at) ∙ e) in
      sym (ap (λ found. found.1) (all_on (piece_longest line) (omega arith) at (read.0, next) read.1))

  pub pieces_done : piece_end line at ≡ None → reading.pieces_past line at ≡ at
  unfolding reading.pieces_past
  pieces_done e = ap (λ found. found.1) (all_end (piece_longest line) (omega arith) at (read_none (piece line at) (sym (piece_ends line at) ∙ e)))

  pair_ends : (first second : ByteClass) → reading.pair_end line first second at ≡ end_of (shape (byte line first maybe byte line second) at)
  unfolding reading.pair_end bytes.byte_end
  pair_ends first second = sym (end_built _ (byte line first maybe byte line second) at ∙ end_maybe (byte line first) (byte line second) at)

  either_ends : {A : Type 0} (f g : Reader A) (x y : Option ℕ) → x ≡ end_of (f at) → y ≡ end_of (g at) → first_of x y ≡ end_of (either f g at)
  either_ends f g x y ex ey = ap (λ o. first_of o y) ex ∙ ap (λ o. first_of (end_of (f at)) o) ey ∙ sym (end_either f g at)

  pub sign_ends : reading.sign_end line at ≡ end_of (sign line at)
  unfolding reading.sign_end bytes.byte_end
  sign_ends =
      either_ends _ _ _ _ (sym (end_built _ (byte line PlainSign) at))
      (either_ends _ _ _ _ (pair_ends Less EqualOrGreater) (either_ends _ _ _ _ (pair_ends Equal LessOrGreater) (pair_ends Greater LessOrEqual)))

  unless_ends : (class : ByteClass) (n : ℕ) → reading.unless_byte (bytes.byte_end line class n) n ≡ end_of (not_ahead (element_at (of_class class) line) n)
  unfolding bytes.byte_end terminal
  unless_ends class n = by_element (element_at (of_class class) line n) refl ∙ sym (end_not_ahead (element_at (of_class class) line) n)
    where
      by_element : (o : Option ℕ) → element_at (of_class class) line n ≡ o → reading.unless_byte (end_of (byte line class n)) n ≡ unless_some (element_at (of_class class) line) n (element_at (of_class class) line n)
      by_element None e = rw e refl
      by_element (Some a) e = rw e refl

  first_place_ends : (n : ℕ) → end_of (first_place line n) ≡ cond (nat_le n (bytes.past line Space 0)) (Some n) None
  unfolding first_place bytes.past
  first_place_ends n = by_test (nat_le n (all_from (byte line Space) (length line) 0).1) refl
    where
      by_test : (t : Bool) → nat_le n (all_from (byte line Space) (length line) 0).1 ≡ t →
          end_of (first_place line n) ≡ cond (nat_le n (all_from (byte line Space) (length line) 0).1) (Some n) None
      by_test true e = rw e refl
      by_test false e = rw e refl

module _ (line : List ℕ) where
  -- the word REM and nothing that goes on a word
  abbrev rem_word : Reader (ℕ × (ℕ × (ℕ × (Unit {0} × Unit {0}))))
  rem_word =
      byte line LetterR followed_by byte line LetterE followed_by byte line LetterM
      followed_by not_ahead (element_at (of_class WordPart) line) followed_by not_ahead (element_at (of_class Dollar) line)

  then_ends : {A B : Type 0} (f : Reader A) (g : Reader B) (at : ℕ) (x : Option ℕ) (y : ℕ → Option ℕ) → x ≡ end_of (f at) → ((n : ℕ) → y n ≡ end_of (g n)) → (x >>= y) ≡ end_of ((f followed_by g) at)
  then_ends f g at x y ex ey = ap (λ o. o >>= y) ex ∙ same_steps (end_of (f at)) y (λ n. end_of (g n)) ey ∙ sym (end_both f g at)

  rem_word_ends : (n : ℕ) → reading.rem_word_end line n ≡ end_of (rem_word n)
  unfolding reading.rem_word_end bytes.byte_end
  rem_word_ends n =
      then_ends _ _ n _ _ refl (λ r. then_ends _ _ r _ _ refl (λ e. then_ends _ _ e _ _ refl (λ m.
      then_ends _ _ m _ _ (unless_ends line m WordPart m) (λ same. unless_ends line same Dollar same))))

  rem_ends : (at : ℕ) → reading.rem_end line at ≡ end_of (first_rem line at)
  unfolding reading.rem_end
  rem_ends at =
      by_test (nat_le at (bytes.past line Space 0)) refl
      ∙ sym (end_built _ (first_place line followed_by rem_word) at ∙ end_both (first_place line) rem_word at)
    where
      by_test : (t : Bool) → nat_le at (bytes.past line Space 0) ≡ t →
          cond (nat_le at (bytes.past line Space 0)) (reading.rem_word_end line at) None ≡ (end_of (first_place line at) >>= λ n. end_of (rem_word n))
      by_test true e = rw (first_place_ends line at, e) (rem_word_ends at)
      by_test false e = rw (first_place_ends line at, e) refl

  abbrev opening : Reader (Unit {0})
  opening = either (shape (byte line ExclamationMark)) (first_rem line)

  opening_ends : (at : ℕ) → reading.opening_end line at ≡ end_of (either (shape (byte line ExclamationMark)) (first_rem line) at)
  unfolding reading.opening_end bytes.byte_end
  opening_ends at = either_ends line at (shape (byte line ExclamationMark)) (first_rem line) _ _ (sym (end_built _ (byte line ExclamationMark) at)) (rem_ends at)

  -- nothing stands at the end of the line alone
  line_end : (n : ℕ) → n ≤ length line → cond (n == length line) (Some n) None ≡ end_of (not_ahead (slice_get line) n)
  line_end n l = by_byte (slice_get line n) refl ∙ sym (end_not_ahead (slice_get line) n)
    where
      by_byte : (o : Option ℕ) → slice_get line n ≡ o → cond (n == length line) (Some n) None ≡ unless_some (slice_get line) n (slice_get line n)
      by_byte None e =
          let outside = slice_get_none line n e in
          let same : (n == length line) ≡ true = eq-eqb n (length line) (omega arith) in
          rw (e, same) refl
      by_byte (Some b) e =
          let inside = slice_get_within line n b e in
          let other : (n == length line) ≡ false = grind (arith, nat_tests) in
          rw (e, other) refl

  same_steps_at : {A B : Type 0} (o : Option A) (f g : A → Option B) → ((a : A) → o ≡ Some a → f a ≡ g a) → (o >>= f) ≡ (o >>= g)
  same_steps_at None f g same = refl
  same_steps_at (Some a) f g same = same a refl

  all_then : (n : ℕ) → end_of ((all_of line (byte line InRemark) followed_by not_ahead (slice_get line)) n) ≡ end_of (not_ahead (slice_get line) (bytes.past line InRemark n))
  unfolding bytes.past
  all_then n = end_all_then (byte line InRemark) (not_ahead (slice_get line)) (length line) n

  pub remark_ends : (at : ℕ) → reading.remark_end line at ≡ end_of (remark line at)
  unfolding reading.remark_end
  remark_ends at =
      ap (λ o. o >>= λ opened. cond (bytes.past line InRemark opened == length line) (Some (bytes.past line InRemark opened)) None) (opening_ends at)
      ∙ same_steps_at (end_of (opening at)) _ (λ n. end_of ((all_of line (byte line InRemark) followed_by not_ahead (slice_get line)) n)) behind
      ∙ sym (end_both opening (all_of line (byte line InRemark) followed_by not_ahead (slice_get line)) at)
    where
      behind : (n : ℕ) → end_of (opening at) ≡ Some n →
          cond (bytes.past line InRemark n == length line) (Some (bytes.past line InRemark n)) None ≡ end_of ((all_of line (byte line InRemark) followed_by not_ahead (slice_get line)) n)
      behind n e =
          let read = read_to (opening at) n e in
          let sound = (opening_longest line).sound at read.0 n read.1 in
          let later : at < n = (let grows = (opening_longest line).grows at read.0 n sound in omega arith) in
          line_end (bytes.past line InRemark n) (past_inside line InRemark n ((opening_longest line).within at read.0 n sound later))
          ∙ sym (all_then n)
