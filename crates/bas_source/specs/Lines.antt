-- The lines of a source file: where they end, which are skipped, and which are joined.
use Rattle.std.specs.Prelude.{ℕ, ◌-◌, ◌==◌, ◌&&◌, not, nat_lt, Bool, true, false, if◌then◌else◌, List, [], ◌∷◌, ◌++◌, length, slice_index}
use Rattle.std.specs.List.{filter, list_any, prefix_len, suffix_len, onto_first, remove}

-- LF, which ends a line
abbrev pub is_line_end : ℕ → Bool
is_line_end c = c == 10

abbrev pub is_space : ℕ → Bool
is_space c = c == 32

-- `&`, with which a line goes on in the next
abbrev pub is_joint : ℕ → Bool
is_joint c = c == 38

-- a tab counts as a space
abbrev pub spaced : ℕ → ℕ
spaced c = if c == 9 then 32 else c

abbrev pub begins_with_line_end : List ℕ → Bool
begins_with_line_end [] = false
begins_with_line_end (c ∷ cs) = is_line_end c

-- a CR in front of an LF, which is dropped
abbrev pub is_dropped : ℕ → (behind : List ℕ) → Bool
is_dropped c behind = c == 13 && begins_with_line_end behind

-- a file with spaces for its tabs, and without each CR in front of an LF
unfoldable pub plain_text : List ℕ → List ℕ
plain_text [] = []
plain_text (c ∷ cs) = if is_dropped c cs then plain_text cs else spaced c ∷ plain_text cs

-- the lines of a text: each ends with LF, which the last may lack
unfoldable pub lines_of : List ℕ → List (List ℕ)
lines_of [] = []
lines_of (c ∷ cs) = if is_line_end c then [] ∷ lines_of cs else onto_first c (lines_of cs)

-- a line that is not empty and does not hold spaces alone; the others are skipped
abbrev pub is_written : List ℕ → Bool
is_written line = list_any (λ c. not (is_space c)) line

-- the lines of a file that are written
abbrev pub physical_lines : List ℕ → List (List ℕ)
physical_lines file = filter is_written (lines_of (plain_text file))

-- how many bytes stand in front of the spaces at the end
abbrev pub end_of : List ℕ → ℕ
end_of line = length line - suffix_len is_space line

-- the place of the first byte that is no space
abbrev pub start_of : List ℕ → ℕ
start_of line = prefix_len is_space line

-- the last byte but spaces is a `&`
abbrev pub goes_on : List ℕ → Bool
goes_on line = nat_lt 0 (end_of line) && is_joint (slice_index line (end_of line - 1))

-- the first byte but spaces is a `&`
abbrev pub comes_from : List ℕ → Bool
comes_from line = is_joint (slice_index line (start_of line))

-- the second line goes on the first
abbrev pub are_joined : List ℕ → List ℕ → Bool
are_joined line next = goes_on line && comes_from next

-- a line that comes from the one before it goes without its first `&`
abbrev pub joined_before : Bool → List ℕ → List ℕ
joined_before true line = remove line (start_of line)
joined_before false line = line

-- a line that the next one comes from goes without its last `&`; a single one is gone already
abbrev pub joined_behind : Bool → List ℕ → List ℕ
joined_behind true line = if goes_on line then remove line (end_of line - 1) else line
joined_behind false line = line

-- what a line gives to the logical line that it is in
abbrev pub share : (before behind : Bool) → List ℕ → List ℕ
share before behind line = joined_behind behind (joined_before before line)

-- a text in front of the first of the lines
abbrev pub onto_line : List ℕ → List (List ℕ) → List (List ℕ)
onto_line text [] = text ∷ []
onto_line text (line ∷ lines) = (text ++ line) ∷ lines

-- a line and those behind it, joined; `before` says whether the line comes from one before it
unfoldable pub joined_from : (before : Bool) → List ℕ → List (List ℕ) → List (List ℕ)
joined_from before line [] = share before false line ∷ []
joined_from before line (next ∷ lines) =
    if are_joined line next
    then onto_line (share before true line) (joined_from true next lines)
    else share before false line ∷ joined_from false next lines

abbrev pub joined : List (List ℕ) → List (List ℕ)
joined [] = []
joined (line ∷ lines) = joined_from false line lines

-- the logical lines of a file
abbrev pub logical_lines : List ℕ → List (List ℕ)
logical_lines file = joined (physical_lines file)
