-- What a `TokenLine` shows, and what is true of it.
use Rattle.std.specs.Prelude.{ℕ, ◌≤◌, List, length, All}
use Rattle.bas_token.specs.declared.token.Token.{Token}
use Rattle.bas_expr.specs.declared.token_line.TokenLine.TheInside.{Inside}
use Rattle.bas_expr.specs.Lexemes.{Lexeme, lexemes}

-- the tokens with their texts
abbrev pub shown : Inside → List Lexeme
shown s = lexemes s.line.now s.tokens.now

-- where a token lies
abbrev pub LiesIn : List ℕ → Token → Type 0
LiesIn line token = (token.from ≤ token.to) × (token.to ≤ length line)

-- the tokens lie in a line, and both are short
abbrev pub IsLine : Inside → Type 0
IsLine s = All (LiesIn s.line.now) s.tokens.now × ((length s.tokens.now ≤ 4096) × (length s.line.now ≤ 4096))
