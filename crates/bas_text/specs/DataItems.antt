-- The items of a list of data.
use Rattle.std.specs.Prelude.{◌≡◌, ℕ, ◌<◌, ◌≤◌, Bool, true, false, List, [], ◌∷◌, ◌++◌, length, map, All, Option, Some, None, slice_get}
use Rattle.bas_form.specs.Form.{Form, ◌then◌, Optional, Repeated, ◌or◌, NotAhead, Built, ◌repeating◌}
use Rattle.bas_form.specs.Reader.{Reader, ◌followed_by◌, optional, repeated, either, built, all_from}
use Rattle.bas_form.specs.declared.byte_class.ByteClass.TheVariants.{Space, Comma, DataStart, DataPart}
use Rattle.bas_form.specs.Bytes.{Byte, byte}
use Rattle.bas_form.specs.Quoted.{Quoted, quoted, quoted_bytes}
use Rattle.bas_text.specs.declared.data_list.Datum.{Datum}
use Rattle.bas_text.specs.declared.byte_string.TheConstants.{MAX_STRING_LEN}
use Rattle.bas_text.specs.Trim.{as_space, trim_right}

abbrev pub datum : Bool → List ℕ → Datum
datum quoted text = record { quoted = quoted; text = text }

-- quoted text with the spaces behind it
abbrev pub quoted_datum : ((ℕ × (List ℕ × ℕ)) × List (ℕ × (List ℕ × ℕ))) × List ℕ → Datum
quoted_datum q = datum true (map as_space (quoted_bytes q.0))

-- text with no quotes, without the spaces at its end
abbrev pub plain_datum : ℕ × List ℕ → Datum
plain_datum bytes = datum false (trim_right (map as_space (bytes.0 ∷ bytes.1)))

-- nothing is an empty text with no quotes
abbrev pub item_datum : List ℕ × Option Datum → Datum
item_datum (spaces, None) = datum false []
item_datum (spaces, Some d) = d

module _ (text : List ℕ) where
  abbrev pub Spaces : Form (List ℕ)
  Spaces = Repeated (Byte text Space)

  -- quoted text, which spaces may follow, or bytes that are no quotes or commas
  abbrev pub Core : Form Datum
  Core = Built quoted_datum (Quoted text then Spaces) or Built plain_datum (Byte text DataStart repeating Byte text DataPart)

  -- item = spaces [ quoted spaces | start { part } ]
  abbrev pub Item : Form Datum
  Item = Built item_datum (Spaces then Optional Core)

  abbrev pub NextItem : Form Datum
  NextItem = Built (λ (behind : ℕ × Datum). behind.1) (Byte text Comma then Item)

  -- items = item { "," item }, up to the end of the text
  abbrev pub Items : Form (List Datum)
  Items = Built (λ (list : (Datum × List Datum) × Unit {0}). list.0.0 ∷ list.0.1) ((Item repeating NextItem) then NotAhead (slice_get text))

  -- Each item is a string, so it has at most 65,535 bytes.
  abbrev pub AreItems : List Datum → Type 0
  AreItems items = (end : ℕ) × Items 0 items end × All (λ d. length d.text ≤ MAX_STRING_LEN) items

  -- ---- their readers

  abbrev pub spaces : Reader (List ℕ)
  spaces = repeated (byte text Space) (length text)

  abbrev pub plain : Reader (ℕ × List ℕ)
  plain = byte text DataStart followed_by repeated (byte text DataPart) (length text)

  abbrev pub core : Reader Datum
  core = either (built quoted_datum (quoted text followed_by spaces)) (built plain_datum plain)

  unfoldable pub item : Reader Datum
  item = built item_datum (spaces followed_by optional core)

  unfoldable pub next_item : Reader Datum
  next_item = built (λ (behind : ℕ × Datum). behind.1) (byte text Comma followed_by item)

  -- the item there is too long for a string
  abbrev pub IsLongItem : ℕ → Type 0
  IsLongItem at = (d : Datum) × (end : ℕ) × (item at ≡ Some (d, end)) × (MAX_STRING_LEN < length d.text)

  -- all items behind commas are read, and each is short enough for a string
  pub record ReadsMore (from : ℕ) (old new : List Datum) (stop : ℕ) : Type 0 where
    pub items : new ≡ old ++ (all_from next_item (length text) from).0
    pub end : stop ≡ (all_from next_item (length text) from).1
    pub short : All (λ d. length d.text ≤ MAX_STRING_LEN) (all_from next_item (length text) from).0
    pub within : stop ≤ length text

-- The whole text stands in quotes for the string, which has at most 65,535 bytes.
abbrev pub IsQuotedString : List ℕ → List ℕ → Type 0
IsQuotedString text string =
    (tree : (ℕ × (List ℕ × ℕ)) × List (ℕ × (List ℕ × ℕ))) × Quoted text 0 tree (length text) × (string ≡ map as_space (quoted_bytes tree)) × (length string ≤ MAX_STRING_LEN)

-- one of the items is too long for a string
abbrev pub HasLong : List Datum → Type 0
HasLong items = All (λ d. length d.text ≤ MAX_STRING_LEN) items → ⊥
