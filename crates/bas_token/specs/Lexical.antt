-- The lexical grammar: what each kind of token looks like.
use Rattle.std.specs.Prelude.{◌≡◌, ℕ, ◌<◌, List, Option, slice_get, slice_index, IsTrue}
use Rattle.bas_form.specs.Form.{Form, ◌then◌, Optional, Repeated, ◌or◌, NotAhead, Built, ◌perhaps◌, ◌repeating◌}
use Rattle.bas_form.specs.Element.{element_at}
use Rattle.bas_form.specs.declared.byte_class.ByteClass.TheVariants.{Space, Letter, WordPart, Dollar, Digit, Point, LetterE, PlusOrMinus, PlainSign, Less, Equal, Greater, EqualOrGreater, LessOrGreater, LessOrEqual, ExclamationMark, LetterR, LetterM, InRemark}
use Rattle.bas_form.specs.Bytes.{Byte, is_of_class, of_class}

-- a form of which only the place and the length matter
abbrev pub Shape : {A : Type 0} → Form A → Form (Unit {0})
Shape F = Built (λ _. tt) F

module _ (line : List ℕ) where
  -- word = letter { letter | digit | "_" } [ "$" ]
  abbrev pub Word : Form (ℕ × (List ℕ × Option ℕ))
  Word = Byte line Letter then Repeated (Byte line WordPart) perhaps Byte line Dollar

  -- digits = digit { digit }
  abbrev pub Digits : Form (ℕ × List ℕ)
  Digits = Byte line Digit repeating Byte line Digit

  -- mantissa = digits [ "." [ digits ] ] | "." digits
  abbrev pub Mantissa : Form (Unit {0})
  Mantissa = Shape (Digits perhaps (Byte line Point perhaps Digits)) or Shape (Byte line Point then Digits)

  -- numeral = mantissa [ "E" [ "+" | "-" ] digits ]
  abbrev pub Numeral : Form (Unit {0} × Option (ℕ × (Option ℕ × (ℕ × List ℕ))))
  Numeral = Mantissa perhaps (Byte line LetterE then Optional (Byte line PlusOrMinus) then Digits)

  -- sign = plain sign | "<" [ "=" | ">" ] | "=" [ "<" | ">" ] | ">" [ "<" | "=" ]
  abbrev pub Sign : Form (Unit {0})
  Sign = Shape (Byte line PlainSign)
      or Shape (Byte line Less perhaps Byte line EqualOrGreater)
      or Shape (Byte line Equal perhaps Byte line LessOrGreater)
      or Shape (Byte line Greater perhaps Byte line LessOrEqual)

  -- no token stands before the place
  abbrev pub OnlySpacesBefore : ℕ → Type 0
  OnlySpacesBefore at = (k : ℕ) → k < at → IsTrue (is_of_class Space (slice_index line k))

  -- the place of the first token
  abbrev pub FirstPlace : Form (Unit {0})
  FirstPlace at u next = OnlySpacesBefore at × (next ≡ at)

  -- the word REM as the first token
  abbrev pub FirstRem : Form (Unit {0})
  FirstRem = Shape (FirstPlace then Byte line LetterR then Byte line LetterE then Byte line LetterM
      then NotAhead (element_at (of_class WordPart) line) then NotAhead (element_at (of_class Dollar) line))

  -- remark = ( "!" | first REM ) { byte }, up to the end of the line
  abbrev pub Remark : Form (Unit {0} × (List ℕ × Unit {0}))
  Remark = (Shape (Byte line ExclamationMark) or FirstRem) then Repeated (Byte line InRemark) then NotAhead (slice_get line)
