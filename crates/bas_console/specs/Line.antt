-- What a print line is.
use Rattle.std.specs.Prelude.{ℕ, ◌≤◌}

-- the margin, and the column after what is on the line
pub record Line : Type 0 where
  pub margin : ℕ
  pub column : ℕ

-- the line has room for a byte, and nothing on it is past the margin
pub record IsLine (line : Line) : Type 0 where
  pub room : 1 ≤ line.margin
  pub within : line.column ≤ line.margin
