-- Values: the one type of them in the meaning, in cells, in records and on the operand stack.
use Rattle.std.specs.Prelude.{ℕ, List, [], pos}
use Rattle.bas_dec.specs.Number.{Number}
use Rattle.bas_fileval.specs.Kind as kind

-- a number, or the bytes of a string
pub data Value : Type 0 where
  Num : (number : Number) → Value
  Text : (bytes : List ℕ) → Value

-- which of the two it is
abbrev pub kind_of : Value → kind.Kind
kind_of (Num number) = kind.Number
kind_of (Text bytes) = kind.Text

-- what a variable of a kind holds before anything is stored in it: 0, or the empty string
abbrev pub unset : kind.Kind → Value
unset kind.Number = Num (record { coefficient = pos 0; scale = 0 })
unset kind.Text = Text []
