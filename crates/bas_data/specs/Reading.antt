-- How a line of data is read.
use Rattle.std.specs.Prelude.{ℕ, zero, suc, ◌+◌, ◌==◌, nat_lt, nat_le, Bool, true, if◌then◌else◌, List, ◌∷◌, length, take, Option, Some, None, slice_get, slice_range, codes}
use Rattle.std.specs.List.{list_all}
use Rattle.std.specs.Str.{str_eq_ignore_ascii_case}
use Rattle.bas_form.specs.Reader.{Reader, ◌>>=◌, ◌followed_by◌, repeated, not_ahead, built}
use Rattle.bas_form.specs.declared.byte_class.ByteClass.TheVariants.{Space, WordPart, Dollar, InRemark}
use Rattle.bas_form.specs.Bytes.{byte_end, past}
use Rattle.bas_text.specs.declared.data_list.Datum.{Datum}
use Rattle.bas_text.specs.declared.byte_string.TheConstants.{MAX_STRING_LEN}
use Rattle.bas_text.specs.DataItems.{item, next_item}
use Rattle.bas_data.specs.Data.{ends_items}

-- short enough for a string
abbrev pub is_short : Datum → Bool
is_short d = nat_le (length d.text) MAX_STRING_LEN

-- the items, where each is short enough for a string
abbrev pub if_short : List Datum → Option (List Datum)
if_short items = if list_all is_short items then Some items else None

-- a place, unless a word goes on there
abbrev pub unless_more : List ℕ → ℕ → Option ℕ → Option ℕ → Option ℕ
unless_more line at None None = Some at
unless_more line at _ _ = None

module _ (line : List ℕ) where
  -- the place behind the word DATA, where it stands from a place on
  abbrev pub word_from : ℕ → Option ℕ
  word_from from =
      if str_eq_ignore_ascii_case (slice_range line from (from + 4)) (codes "DATA")
      then unless_more line (from + 4) (byte_end line WordPart (from + 4)) (byte_end line Dollar (from + 4)) else None

  -- the place behind the word DATA, where it is the first one
  unfoldable pub data_word : Option ℕ
  data_word = word_from (past line Space 0)

module _ (text : List ℕ) where
  -- the first place that ends items, by what is found before a place
  abbrev pub or_here : ℕ → ℕ → ℕ
  or_here n found = if nat_lt found n then found else (if ends_items text n then n else suc n)

  -- the first place that ends items, or so many
  unfoldable pub first_end : ℕ → ℕ
  first_end zero = zero
  first_end (suc n) = or_here n (first_end n)

  -- the items of a whole text
  abbrev pub list : Reader (List Datum)
  list = built (λ (list : (Datum × List Datum) × Unit {0}). list.0.0 ∷ list.0.1) ((item text followed_by repeated (next_item text) (length text)) followed_by not_ahead (slice_get text))

  unfoldable pub items_of : Option (List Datum)
  items_of = do
    read ← list 0
    if_short read.0

  -- whether nothing stands at a place, or a remark
  abbrev pub rest_ends : ℕ → Bool
  rest_ends at = if at == length text then true else past text InRemark (at + 1) == length text

-- the data of a text
unfoldable pub data_of : List ℕ → Option (List Datum)
data_of text = if rest_ends text (first_end text (length text)) then items_of (take (first_end text (length text)) text) else None
