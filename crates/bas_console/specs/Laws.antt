-- What the laws of the layout speak of.
use Rattle.std.specs.Prelude.{ℕ, List, [], ◌∷◌}

-- the bytes of a text in their order, with the end of a line before some of them
pub data HasLineEnds : (text printed : List ℕ) → Type 0 where
  Empty : HasLineEnds [] []
  OnLine : {byte : ℕ} {text printed : List ℕ} → HasLineEnds text printed → HasLineEnds (byte ∷ text) (byte ∷ printed)
  OnNext : {byte : ℕ} {text printed : List ℕ} → HasLineEnds text printed → HasLineEnds (byte ∷ text) (10 ∷ byte ∷ printed)
