-- The tokens of a line, each the longest at its place.
use Rattle.std.specs.Prelude.{◌≡◌, ℕ, ◌+◌, ◌<◌, ◌≤◌, List, [], ◌∷◌, length}
use Rattle.bas_form.specs.Form.{Form, ◌then◌, Repeated, Built}
use Rattle.bas_token.specs.declared.token.TokenKind.{TokenKind}
use Rattle.bas_token.specs.declared.token.TokenKind.TheVariants as kind
use Rattle.bas_token.specs.declared.token.Token.{Token}
use Rattle.bas_form.specs.declared.byte_class.ByteClass.TheVariants.{Space}
use Rattle.bas_form.specs.Bytes.{Byte}
use Rattle.bas_token.specs.Lexical.{Word, Numeral, Sign, Remark}
use Rattle.bas_form.specs.Quoted.{Quoted}

-- the form stands from the one place up to the other
abbrev pub Stands : {A : Type 0} → Form A → ℕ → ℕ → Type 0
Stands {A = A} F at next = (a : A) × F at a next

module _ (line : List ℕ) where
  abbrev pub StandsAs : TokenKind → ℕ → ℕ → Type 0
  StandsAs kind.Word at next = Stands (Word line) at next
  StandsAs kind.Numeral at next = Stands (Numeral line) at next
  StandsAs kind.Quoted at next = Stands (Quoted line) at next
  StandsAs kind.Sign at next = Stands (Sign line) at next
  StandsAs kind.Remark at next = Stands (Remark line) at next

  -- The token stands there, nothing longer does, and a remark goes before a word of equal length.
  pub record IsToken (token : Token) : Type 0 where
    pub stands : StandsAs token.kind token.from token.to
    pub longest : (other : TokenKind) (to : ℕ) → StandsAs other token.from to → to ≤ token.to
    pub remark : StandsAs kind.Remark token.from token.to → token.kind ≡ kind.Remark

  abbrev pub OneToken : Form Token
  OneToken at token next = (token.from ≡ at) × (token.to ≡ next) × IsToken token

  abbrev pub Spaces : Form (List ℕ)
  Spaces = Repeated (Byte line Space)

  -- { spaces token }
  abbrev pub SpacedTokens : Form (List Token)
  SpacedTokens = Repeated (Built (λ (spaced : List ℕ × Token). spaced.1) (Spaces then OneToken))

  -- the tokens of the whole line: nothing but spaces stands between them and behind the last
  abbrev pub AreTokens : List Token → Type 0
  AreTokens tokens = (end : ℕ) × SpacedTokens 0 tokens end × Stands Spaces end (length line)

  abbrev pub BeginsNoToken : ℕ → Type 0
  BeginsNoToken at = (kind : TokenKind) (to : ℕ) → StandsAs kind at to → ⊥

  -- behind tokens and spaces stands a byte that is no space and begins no token
  pub record IsBadByte (at : ℕ) : Type 0 where
    pub tokens : List Token
    pub end : ℕ
    pub before : SpacedTokens 0 tokens end
    pub spaces : Stands Spaces end at
    pub inside : at < length line
    pub no_space : Stands (Byte line Space) at (at + 1) → ⊥
    pub no_token : BeginsNoToken at

-- Each token has a byte at least, and lies between the place behind the one before it and the end.
abbrev pub AreInOrder : ℕ → ℕ → List Token → Type 0
AreInOrder len at [] = at ≤ len
AreInOrder len at (t ∷ ts) = (at ≤ t.from) × (t.from < t.to) × AreInOrder len t.to ts
