-- What the grammar reads: the kind and the text of each token.
use Rattle.std.specs.Prelude.{ℕ, List, map, slice_range}
use Rattle.bas_token.specs.declared.token.TokenKind.{TokenKind}
use Rattle.bas_token.specs.declared.token.Token.{Token}

-- a kind and a text
abbrev pub Lexeme : Type 0
Lexeme = TokenKind × List ℕ

-- a token of a line
abbrev pub lexeme : List ℕ → Token → Lexeme
lexeme line token = (token.kind, slice_range line token.from token.to)

-- the tokens of a line, with their texts
abbrev pub lexemes : List ℕ → List Token → List Lexeme
lexemes line tokens = map (lexeme line) tokens
