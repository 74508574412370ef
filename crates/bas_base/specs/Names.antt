-- Which texts are names, and which are file names.
use Rattle.std.specs.Prelude.{◌≡◌, ℕ, ◌-◌, ◌==◌, ◌≤◌, ◌||◌, ◌&&◌, nat_eq, nat_le, if◌then◌else◌, Bool, List, [], ◌∷◌, ◌++◌, length, take, slice_index, replicate}
use Rattle.std.specs.List.{list_all, ends_with}
use Rattle.std.specs.Char.{is_ascii_alphabetic, is_ascii_alphanumeric}

-- a letter, a digit or an underscore
abbrev pub is_word_byte : ℕ → Bool
is_word_byte c = is_ascii_alphanumeric c || c == 95

-- a letter, a digit, a point, an underscore or a minus
abbrev pub is_file_byte : ℕ → Bool
is_file_byte c = is_ascii_alphanumeric c || (c == 46 || (c == 95 || c == 45))

-- a letter, and behind it letters, digits and underscores
abbrev pub is_word : List ℕ → Bool
is_word text = is_ascii_alphabetic (slice_index text 0) && list_all is_word_byte text

-- what stands in front of a `$` at the end, or the whole text
abbrev pub stem_of : List ℕ → List ℕ
stem_of text = if ends_with nat_eq text (36 ∷ []) then take (length text - 1) text else text

-- a name: a word, perhaps with a `$` behind it, of at most 31 bytes in all
abbrev pub is_name : List ℕ → Bool
is_name text = nat_le (length text) 31 && is_word (stem_of text)

-- a file name: 1 to 68 such bytes, the first of them a letter or a digit
abbrev pub is_file_name : List ℕ → Bool
is_file_name text = nat_le (length text) 68 && (is_ascii_alphanumeric (slice_index text 0) && list_all is_file_byte text)

-- a buffer of that size holds a text of count bytes at its front, and zeros behind it
pub record HoldsText (size : ℕ) (buffer : List ℕ) (count : ℕ) : Type 0 where
  pub whole : length buffer ≡ size
  pub fits : count ≤ size
  pub padded : take count buffer ++ replicate (size - count) 0 ≡ buffer

-- the text in a buffer of that size, with zeros behind it
abbrev pub padded_text : ℕ → List ℕ → List ℕ
padded_text size text = text ++ replicate (size - length text) 0
