-- The supplied functions, by their names in capitals.
use Rattle.std.specs.Prelude.{ℕ, Bool, false, ◌||◌, List, [], ◌∷◌, bytes_eq, codes}

-- the names of the supplied functions
abbrev pub supplied_names : List (List ℕ)
supplied_names =
    codes "ABS" ∷ codes "SGN" ∷ codes "INT" ∷ codes "IP" ∷ codes "FP" ∷ codes "CEIL" ∷ codes "MOD" ∷ codes "REMAINDER" ∷ codes "ROUND"
    ∷ codes "TRUNCATE" ∷ codes "SQR" ∷ codes "MAX" ∷ codes "MIN" ∷ codes "MAXNUM" ∷ codes "RND" ∷ codes "EXTYPE" ∷ codes "EXLINE"
    ∷ codes "LBOUND" ∷ codes "UBOUND" ∷ codes "LEN" ∷ codes "ORD" ∷ codes "CHR$" ∷ codes "POS" ∷ codes "STR$" ∷ codes "VAL"
    ∷ codes "UCASE$" ∷ codes "LCASE$" ∷ codes "LTRIM$" ∷ codes "RTRIM$" ∷ codes "REPEAT$" ∷ []

-- whether a name is one of a list
abbrev pub is_among : List ℕ → List (List ℕ) → Bool
is_among name [] = false
is_among name (other ∷ others) = bytes_eq name other || is_among name others

-- whether a name is a supplied function's
unfoldable pub is_supplied : List ℕ → Bool
is_supplied name = is_among name supplied_names
