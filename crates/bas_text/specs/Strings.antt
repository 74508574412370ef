-- What each operation on strings gives, on their lists of bytes. Places are counted from 1.
use Rattle.std.specs.Prelude.{ℕ, ◌+◌, ◌-◌, max, ℤ, pos, negsuc, Bool, nat_eq, List, ◌++◌, length, map, take, drop}
use Rattle.std.specs.List.{starts_with, range_with_len, find}
use Rattle.std.specs.List as lists
use Rattle.std.specs.Option.{unwrap_or}
use Rattle.std.specs.Char.{to_ascii_uppercase, to_ascii_lowercase}
use Rattle.std.specs.declared.cmp.Ordering.{Ordering}
use Rattle.std.specs.Ordering.{nat_cmp}
use Rattle.std.specs.Cmp.Lexicographic.{slice_cmp}

-- a number, or 0 where it is below 0
abbrev pub natural : ℤ → ℕ
natural (pos n) = n
natural (negsuc n) = 0

-- a, then b
abbrev pub join : List ℕ → List ℕ → List ℕ
join a b = a ++ b

-- the text n times
abbrev pub repeat : ℕ → List ℕ → List ℕ
repeat n text = lists.repeat n text

-- the bytes from place m to place n: an m below 1 counts as 1, an n past the end as the end
abbrev pub part : List ℕ → ℤ → ℤ → List ℕ
part text m n = drop (natural m - 1) (take (natural n) text)

-- whether the text goes on with b from a place on
abbrev pub stands_at : List ℕ → List ℕ → ℕ → Bool
stands_at text b place = starts_with nat_eq (drop (place - 1) text) b

-- the places from m on, itself at least 1, up to the one after the last byte
abbrev pub places_from : List ℕ → ℤ → List ℕ
places_from text m = let first = max (natural m) 1 in range_with_len first (length text + 2 - first)

-- the first of these places at which b stands, or 0 where there is none
unfoldable pub position : List ℕ → List ℕ → ℤ → ℕ
position text b m = unwrap_or (find (stands_at text b) (places_from text m)) 0

-- the text with the letters of ASCII as capitals
abbrev pub upper : List ℕ → List ℕ
upper text = map to_ascii_uppercase text

-- the text with the letters of ASCII as small ones
abbrev pub lower : List ℕ → List ℕ
lower text = map to_ascii_lowercase text

-- the first byte that differs decides; a proper prefix is less
abbrev pub compare : List ℕ → List ℕ → Ordering
compare a b = slice_cmp nat_cmp a b
