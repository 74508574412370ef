-- What a call does with a print line and the output.
use Rattle.std.specs.Prelude.{◌≡◌, ℕ, List, ◌++◌}
use Rattle.bas_console.specs.Line.{Line}
use Rattle.bas_console.specs.Layout.{Step}

-- the step was made: its bytes are at the end of the output, and the line is at its column
pub record Prints (step : Step) (old new : Line) (before after : List ℕ) : Type 0 where
  pub bytes : after ≡ before ++ (step old.column).bytes
  pub line : new ≡ record old { column = (step old.column).column }

-- the line and the output are as before
pub record Stays (old new : Line) (before after : List ℕ) : Type 0 where
  pub line : new ≡ old
  pub output : after ≡ before

-- the output may have more bytes at its end, and the line another column
pub record Extends (old new : Line) (before after : List ℕ) : Type 0 where
  pub margin : new.margin ≡ old.margin
  pub more : List ℕ
  pub output : after ≡ before ++ more
