-- The reader of each form of the lexical grammar.
use Rattle.std.specs.Prelude.{ℕ, nat_le, List, length, Option, Some, None, if◌then◌else◌, slice_get}
use Rattle.bas_form.specs.Reader.{Reader, ◌followed_by◌, ◌maybe◌, optional, repeated, either, not_ahead, built, all_from}
use Rattle.bas_form.specs.Element.{element_at}
use Rattle.bas_form.specs.declared.byte_class.ByteClass.TheVariants.{Space, Letter, WordPart, Dollar, Digit, Point, LetterE, PlusOrMinus, PlainSign, Less, Equal, Greater, EqualOrGreater, LessOrGreater, LessOrEqual, ExclamationMark, LetterR, LetterM, InRemark}
use Rattle.bas_form.specs.Bytes.{byte, of_class}

abbrev pub shape : {A : Type 0} → Reader A → Reader (Unit {0})
shape f = built (λ _. tt) f

module _ (line : List ℕ) where
  abbrev pub all_of : {A : Type 0} → Reader A → Reader (List A)
  all_of f = repeated f (length line)

  abbrev pub word : Reader (ℕ × (List ℕ × Option ℕ))
  word = byte line Letter followed_by all_of (byte line WordPart) maybe byte line Dollar

  abbrev pub digits : Reader (ℕ × List ℕ)
  digits = byte line Digit followed_by all_of (byte line Digit)

  abbrev pub fraction : Reader (ℕ × Option (ℕ × List ℕ))
  fraction = byte line Point maybe digits

  abbrev pub mantissa : Reader (Unit {0})
  mantissa = either (shape (digits maybe fraction)) (shape (byte line Point followed_by digits))

  abbrev pub exponent : Reader (ℕ × (Option ℕ × (ℕ × List ℕ)))
  exponent = byte line LetterE followed_by optional (byte line PlusOrMinus) followed_by digits

  abbrev pub numeral : Reader (Unit {0} × Option (ℕ × (Option ℕ × (ℕ × List ℕ))))
  numeral = mantissa maybe exponent

  abbrev pub sign : Reader (Unit {0})
  sign =
      either (shape (byte line PlainSign))
      (either (shape (byte line Less maybe byte line EqualOrGreater))
      (either (shape (byte line Equal maybe byte line LessOrGreater)) (shape (byte line Greater maybe byte line LessOrEqual))))

  -- nothing, at a place that is no later than the first token's
  unfoldable pub first_place : Reader (Unit {0})
  first_place at = if nat_le at (all_from (byte line Space) (length line) 0).1 then Some (tt, at) else None

  abbrev pub first_rem : Reader (Unit {0})
  first_rem =
      shape (first_place followed_by byte line LetterR followed_by byte line LetterE followed_by byte line LetterM
      followed_by not_ahead (element_at (of_class WordPart) line) followed_by not_ahead (element_at (of_class Dollar) line))

  abbrev pub remark : Reader (Unit {0} × (List ℕ × Unit {0}))
  remark = either (shape (byte line ExclamationMark)) first_rem followed_by all_of (byte line InRemark) followed_by not_ahead (slice_get line)
