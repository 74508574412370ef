-- Text in quotes: a quote, bytes, and a quote, where two quotes inside stand for one.
use Rattle.std.specs.Prelude.{ℕ, List, length, Option, ◌++◌, ◌∷◌, flat_map}
use Rattle.bas_form.specs.Form.{Form, ◌then◌, Repeated, ◌repeating◌}
use Rattle.bas_form.specs.Reader.{Reader, ◌>>=◌, ◌followed_by◌, repeated}
use Rattle.bas_form.specs.declared.byte_class.ByteClass.TheVariants.{Quote, InQuotes}
use Rattle.bas_form.specs.Bytes.{Byte, byte, byte_end, past}

-- an opening quote, the bytes behind it, and a closing quote
abbrev pub PieceTree : Type 0
PieceTree = ℕ × (List ℕ × ℕ)

abbrev pub QuotedTree : Type 0
QuotedTree = PieceTree × List PieceTree

module _ (text : List ℕ) where
  -- piece = quote { byte but a quote } quote
  abbrev pub Piece : Form (ℕ × (List ℕ × ℕ))
  Piece = Byte text Quote then Repeated (Byte text InQuotes) then Byte text Quote

  -- quoted = piece { piece }: where two pieces meet, their two quotes stand for one
  abbrev pub Quoted : Form ((ℕ × (List ℕ × ℕ)) × List (ℕ × (List ℕ × ℕ)))
  Quoted = Piece repeating Piece

  abbrev pub piece : Reader (ℕ × (List ℕ × ℕ))
  piece = byte text Quote followed_by repeated (byte text InQuotes) (length text) followed_by byte text Quote

  abbrev pub quoted : Reader ((ℕ × (List ℕ × ℕ)) × List (ℕ × (List ℕ × ℕ)))
  quoted = piece followed_by repeated piece (length text)

  -- behind a piece
  unfoldable pub piece_end : ℕ → Option ℕ
  piece_end at = do
    quote ← byte_end text Quote at
    byte_end text Quote (past text InQuotes quote)

-- the bytes that a quoted text stands for
abbrev pub quoted_bytes : (ℕ × (List ℕ × ℕ)) × List (ℕ × (List ℕ × ℕ)) → List ℕ
quoted_bytes q = q.0.1.0 ++ flat_map (λ (p : ℕ × (List ℕ × ℕ)). 34 ∷ p.1.0) q.1
