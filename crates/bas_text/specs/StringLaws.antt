-- Laws of strings, each of all strings and numbers.
use Rattle.std.specs.Prelude.{◌≡◌, ◌≢◌, ◌↔◌, ℕ, ◌+◌, ◌-◌, ◌*◌, ◌<◌, ◌≤◌, min, max, ℤ, pos, List, [], ◌++◌, length}
use Rattle.std.specs.declared.cmp.Ordering.TheVariants.{Less, Equal}
use Rattle.std.specs.Cmp.{IsTotalOrder}
use Rattle.bas_text.specs.Strings.{natural, join, repeat, part, position, upper, lower, compare}

-- joining is associative, and its length is the sum
abbrev pub JoinLaw : Type 0
JoinLaw = (a b c : List ℕ) → (join (join a b) c ≡ join a (join b c)) × (length (join a b) ≡ length a + length b)

-- m and n times the text is m times the text joined with n times the text, and the length is the product
abbrev pub RepeatLaw : Type 0
RepeatLaw = (m n : ℕ) (text : List ℕ) → (repeat (m + n) text ≡ join (repeat m text) (repeat n text)) × (length (repeat n text) ≡ n * length text)

-- the ends of a part are taken to be within the text, and its length is the number of places from one to the other
abbrev pub PartEndsLaw : Type 0
PartEndsLaw = (text : List ℕ) (m n : ℤ) →
    (part text m n ≡ part text (pos (max (natural m) 1)) (pos (min (natural n) (length text))))
    × (length (part text m n) ≡ min (natural n) (length text) + 1 - max (natural m) 1)

-- a part of a part is a part of the text
abbrev pub PartOfPartLaw : Type 0
PartOfPartLaw = (text : List ℕ) (m n k l : ℕ) → 1 ≤ m → 1 ≤ k →
    part (part text (pos m) (pos n)) (pos k) (pos l) ≡ part text (pos (m + k - 1)) (pos (min n (m + l - 1)))

-- b stands in the text at a place, counted from 1
abbrev pub StandsAt : List ℕ → List ℕ → ℕ → Type 0
StandsAt text b place = (before after : List ℕ) × (text ≡ before ++ b ++ after) × (place ≡ length before + 1)

-- p is the least place at or after m at which b stands, or 0 where there is none
abbrev pub IsLeastPlace : List ℕ → List ℕ → ℤ → ℕ → Type 0
IsLeastPlace text b m p =
    (0 < p → (natural m ≤ p) × StandsAt text b p × ((q : ℕ) → natural m ≤ q → q < p → ¬ StandsAt text b q))
    × (p ≡ 0 → (q : ℕ) → natural m ≤ q → ¬ StandsAt text b q)

abbrev pub PositionLaw : Type 0
PositionLaw = (text b : List ℕ) (m : ℤ) → IsLeastPlace text b m (position text b m)

-- a part is found where it begins, and what is found is that part
abbrev pub PositionOfPartLaw : Type 0
PositionOfPartLaw =
    ((text : List ℕ) (m n : ℕ) → 1 ≤ m → m ≤ length text + 1 → position text (part text (pos m) (pos n)) (pos m) ≡ m)
    × ((text b : List ℕ) (m : ℤ) → 0 < position text b m → part text (pos (position text b m)) (pos (position text b m + length b - 1)) ≡ b)

-- capitals of capitals are these, also of small letters, and so with small letters; the length stays
abbrev pub LetterLaw : Type 0
LetterLaw = (text : List ℕ) → (upper (upper text) ≡ upper text) × (lower (lower text) ≡ lower text) × (upper (lower text) ≡ upper text) × (length (upper text) ≡ length text)

-- the order is total, equal strings are the same, and a proper prefix is less
abbrev pub OrderLaw : Type 0
OrderLaw = IsTotalOrder compare × ((a b : List ℕ) → (compare a b ≡ Equal) ↔ (a ≡ b)) × ((a b : List ℕ) → b ≢ [] → compare a (join a b) ≡ Less)
