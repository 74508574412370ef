-- The tokens of a line, by one reading from the left.
use Rattle.std.specs.Prelude.{ℕ, ◌==◌, if◌then◌else◌, List, length, Option, Some, None}
use Rattle.bas_form.specs.Reader.{Reader, ◌>>=◌, all_from}
use Rattle.bas_form.specs.declared.byte_class.ByteClass.TheVariants.{Space}
use Rattle.bas_form.specs.Bytes.{past}
use Rattle.bas_token.specs.declared.token.Token.{Token}
use Rattle.bas_token.specs.Reading.{next_token}

module _ (line : List ℕ) where
  -- the token behind spaces
  unfoldable pub one_token : Reader Token
  one_token at = do
    token ← next_token line at
    Some (token, token.to)

  -- all tokens, and the place behind them
  abbrev pub all_tokens : List Token × ℕ
  all_tokens = all_from one_token (length line) 0

  -- the tokens, where nothing but spaces stands behind them
  unfoldable pub tokens_of : Option (List Token)
  tokens_of = if past line Space all_tokens.1 == length line then Some all_tokens.0 else None
