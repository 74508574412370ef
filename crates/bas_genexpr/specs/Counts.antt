-- Counts, which are not told past one more than their limit.
use Rattle.std.specs.Prelude.{ℕ, min}

-- how many instructions a body may have
abbrev pub code_limit : ℕ
code_limit = 65535

-- a number of instructions, or one more than the limit where it is above that
abbrev pub counted : ℕ → ℕ
counted n = min n 65536
