-- The layout of print lines: what each part of a print list appends to the output, and the column
-- that it leaves. Columns count from 0, the number of bytes on the line.
use Rattle.std.specs.Prelude.{ℕ, ◌+◌, ◌-◌, ◌*◌, ◌/◌, ◌%◌, ◌==◌, ◌&&◌, nat_lt, Bool, if◌then◌else◌, List, [], ◌∷◌, ◌++◌, length, replicate}

-- what is printed: the bytes, and the column after them
pub record Printed : Type 0 where
  pub bytes : List ℕ
  pub column : ℕ

-- a step of printing, from the column before it
abbrev pub Step : Type 0
Step = ℕ → Printed

-- one step after the other
abbrev pub sequence : Step → Step → Step
sequence first second column = let p : Printed = first column in let q : Printed = second p.column in record { bytes = p.bytes ++ q.bytes; column = q.column }

-- nothing is printed
abbrev pub nothing : Step
nothing column = record { bytes = []; column = column }

-- bytes after what is on the line
abbrev pub placed : List ℕ → Step
placed bytes column = record { bytes = bytes; column = column + length bytes }

-- the end of the line
abbrev pub line_end : Step
line_end column = record { bytes = 10 ∷ []; column = 0 }

-- spaces up to a column
abbrev pub spaced_to : ℕ → Step
spaced_to target column = record { bytes = replicate (target - column) 32; column = target }

-- the line ends first, where the column calls for it
abbrev pub ended_where : (ℕ → Bool) → Step
ended_where test column = if test column then line_end column else nothing column

-- bytes one after the other; a full line ends before the next byte
unfoldable pub wrapped : (margin : ℕ) → List ℕ → Step
wrapped margin [] = nothing
wrapped margin (byte ∷ rest) = sequence (ended_where (λ c. c == margin)) (sequence (placed (byte ∷ [])) (wrapped margin rest))

-- so many bytes do not fit after what is on the line
abbrev pub needs_end : (margin count : ℕ) → ℕ → Bool
needs_end margin count column = nat_lt 0 column && nat_lt margin (column + count)

-- an item: where it does not fit after what is on the line, the line ends first
unfoldable pub item : (margin : ℕ) → List ℕ → Step
item margin text = sequence (ended_where (needs_end margin (length text))) (wrapped margin text)

-- how wide the zones of a line are
abbrev pub zone : ℕ
zone = 16

-- the column at which the next zone begins
abbrev pub next_zone : ℕ → ℕ
next_zone column = (column / zone + 1) * zone

-- a comma: to the next zone, or to the next line where no zone begins before the margin
unfoldable pub comma : (margin : ℕ) → Step
comma margin column = if nat_lt (next_zone column) margin then spaced_to (next_zone column) column else line_end column

-- the column of the n-th place, where places count from 1 and again from 1 after the margin
abbrev pub tab_column : (margin n : ℕ) → ℕ
tab_column margin n = (n - 1) % margin

-- TAB(n): to the n-th place, on the next line where this one is past it
unfoldable pub tab : (margin n : ℕ) → Step
tab margin n = sequence (ended_where (λ c. nat_lt (tab_column margin n) c)) (spaced_to (tab_column margin n))
