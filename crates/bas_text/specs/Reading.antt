-- How the items of a list of data are read from the left.
use Rattle.std.specs.Prelude.{ℕ, List, ◌∷◌, length, map, flat_map}
use Rattle.bas_form.specs.Reader.{Reader, built, all_from}
use Rattle.bas_form.specs.Quoted.{piece, quoted, quoted_bytes}
use Rattle.bas_text.specs.Trim.{as_space}

module _ (text : List ℕ) where
  -- the bytes that quoted text stands for
  unfoldable pub quoted_text : Reader (List ℕ)
  quoted_text = built (λ q. map as_space (quoted_bytes q)) (quoted text)

  -- what all pieces from a place on add: their inner bytes, with a quote before each
  unfoldable pub more_bytes : ℕ → List ℕ
  more_bytes at = map as_space (flat_map (λ (p : ℕ × (List ℕ × ℕ)). 34 ∷ p.1.0) (all_from (piece text) (length text) at).0)

  unfoldable pub pieces_past : ℕ → ℕ
  pieces_past at = (all_from (piece text) (length text) at).1
