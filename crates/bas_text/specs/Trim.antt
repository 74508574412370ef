-- Spaces at the ends of a text, and tabs, which count as spaces.
use Rattle.std.specs.Prelude.{ℕ, zero, suc, ◌+◌, ◌-◌, ◌==◌, if◌then◌else◌, List, [], ◌∷◌, slice_index}

-- a tab counts as a space
abbrev pub as_space : ℕ → ℕ
as_space b = if b == 9 then 32 else b

abbrev pub unless_space : ℕ → List ℕ → List ℕ
unless_space b [] = if b == 32 then [] else b ∷ []
unless_space b (c ∷ more) = b ∷ c ∷ more

-- the text without the spaces at its front
abbrev pub trim_left : List ℕ → List ℕ
trim_left [] = []
trim_left (b ∷ more) = if b == 32 then trim_left more else b ∷ more

-- the text without the spaces at its end
abbrev pub trim_right : List ℕ → List ℕ
trim_right [] = []
trim_right (b ∷ more) = unless_space b (trim_right more)

-- so many bytes from a place on
abbrev pub bytes_from : List ℕ → ℕ → ℕ → List ℕ
bytes_from text zero at = []
bytes_from text (suc n) at = slice_index text at ∷ bytes_from text n (at + 1)

-- the bytes from one place to another
unfoldable pub between : List ℕ → ℕ → ℕ → List ℕ
between text from to = bytes_from text (to - from) from
