-- Where the token ends that a byte begins, as it is read from the left.
use Rattle.std.specs.Prelude.{ℕ, nat_le, ◌==◌, List, length, Option, Some, None, unwrap_or, if◌then◌else◌}
use Rattle.bas_form.specs.Reader.{◌>>=◌, all_from, first_of}
use Rattle.bas_token.specs.declared.token.TokenKind.{TokenKind}
use Rattle.bas_token.specs.declared.token.TokenKind.TheVariants as kind
use Rattle.bas_token.specs.declared.token.Token.{Token}
use Rattle.bas_form.specs.declared.byte_class.ByteClass.{ByteClass}
use Rattle.bas_form.specs.declared.byte_class.ByteClass.TheVariants.{Space, Letter, WordPart, Dollar, Digit, Point, LetterE, PlusOrMinus, PlainSign, Less, Equal, Greater, EqualOrGreater, LessOrGreater, LessOrEqual, ExclamationMark, LetterR, LetterM, InRemark}
use Rattle.bas_form.specs.Bytes.{byte_end, past}
use Rattle.bas_form.specs.Quoted.{piece, piece_end}

-- nothing, where no such byte stands
abbrev pub unless_byte : Option ℕ → ℕ → Option ℕ
unless_byte None at = Some at
unless_byte (Some next) at = None

-- the token of a kind, where its end is known
abbrev pub token_to : TokenKind → ℕ → Option ℕ → Option Token
token_to kind at None = None
token_to kind at (Some to) = Some (record { kind = kind; from = at; to = to })

module _ (line : List ℕ) where
  unfoldable pub word_end : ℕ → Option ℕ
  word_end at = do
    letter ← byte_end line Letter at
    Some (unwrap_or (byte_end line Dollar (past line WordPart letter)) (past line WordPart letter))

  unfoldable pub digits_end : ℕ → Option ℕ
  digits_end at = do
    digit ← byte_end line Digit at
    Some (past line Digit digit)

  -- a point and the digits behind it, if there are any
  unfoldable pub fraction_end : ℕ → Option ℕ
  fraction_end at = do
    point ← byte_end line Point at
    Some (unwrap_or (digits_end point) point)

  unfoldable pub whole_end : ℕ → Option ℕ
  whole_end at = do
    digits ← digits_end at
    Some (unwrap_or (fraction_end digits) digits)

  unfoldable pub bare_fraction_end : ℕ → Option ℕ
  bare_fraction_end at = do
    point ← byte_end line Point at
    digits_end point

  unfoldable pub exponent_end : ℕ → Option ℕ
  exponent_end at = do
    letter ← byte_end line LetterE at
    digits_end (unwrap_or (byte_end line PlusOrMinus letter) letter)

  unfoldable pub mantissa_end : ℕ → Option ℕ
  mantissa_end at = first_of (whole_end at) (bare_fraction_end at)

  unfoldable pub numeral_end : ℕ → Option ℕ
  numeral_end at = do
    mantissa ← mantissa_end at
    Some (unwrap_or (exponent_end mantissa) mantissa)

  -- behind all pieces of a quoted text
  unfoldable pub pieces_past : ℕ → ℕ
  pieces_past at = (all_from (piece line) (length line) at).1

  unfoldable pub quoted_end : ℕ → Option ℕ
  quoted_end at = do
    first ← piece_end line at
    Some (pieces_past first)

  -- one byte and perhaps another
  unfoldable pub pair_end : ByteClass → ByteClass → ℕ → Option ℕ
  pair_end first second at = do
    one ← byte_end line first at
    Some (unwrap_or (byte_end line second one) one)

  unfoldable pub sign_end : ℕ → Option ℕ
  sign_end at =
      first_of (byte_end line PlainSign at)
      (first_of (pair_end Less EqualOrGreater at) (first_of (pair_end Equal LessOrGreater at) (pair_end Greater LessOrEqual at)))

  unfoldable pub rem_word_end : ℕ → Option ℕ
  rem_word_end at = do
    r ← byte_end line LetterR at
    e ← byte_end line LetterE r
    m ← byte_end line LetterM e
    same ← unless_byte (byte_end line WordPart m) m
    unless_byte (byte_end line Dollar same) same

  -- the word REM at a place that is no later than the first token's
  unfoldable pub rem_end : ℕ → Option ℕ
  rem_end at = if nat_le at (past line Space 0) then rem_word_end at else None

  unfoldable pub opening_end : ℕ → Option ℕ
  opening_end at = first_of (byte_end line ExclamationMark at) (rem_end at)

  unfoldable pub remark_end : ℕ → Option ℕ
  remark_end at = do
    opened ← opening_end at
    if past line InRemark opened == length line then Some (past line InRemark opened) else None

  -- the token at a place
  unfoldable pub token_at : ℕ → Option Token
  token_at at =
      first_of (token_to kind.Remark at (remark_end at))
      (first_of (token_to kind.Word at (word_end at))
      (first_of (token_to kind.Numeral at (numeral_end at))
      (first_of (token_to kind.Quoted at (quoted_end at)) (token_to kind.Sign at (sign_end at)))))

  -- the token behind spaces
  unfoldable pub next_token : ℕ → Option Token
  next_token at = token_at (past line Space at)
