-- Lines of data: the word DATA, and items up to the end of the line or to a remark.
use Rattle.std.specs.Prelude.{◌≡◌, ℕ, zero, suc, ◌+◌, ◌<◌, ◌⊎◌, ◌==◌, ◌&&◌, not, Bool, true, false, if◌then◌else◌, List, length, take, None, slice_index, slice_range, codes}
use Rattle.std.specs.Str.{str_eq_ignore_ascii_case}
use Rattle.bas_form.specs.Form.{Form, ◌then◌, Repeated}
use Rattle.bas_form.specs.Element.{element_at}
use Rattle.bas_form.specs.declared.byte_class.ByteClass.TheVariants.{Space, WordPart, Dollar, ExclamationMark, InRemark}
use Rattle.bas_form.specs.Bytes.{Byte, of_class}
use Rattle.bas_text.specs.declared.data_list.Datum.{Datum}
use Rattle.bas_text.specs.DataItems.{AreItems}

module _ (line : List ℕ) where
  -- behind spaces stands the word DATA, in any case, up to the second place
  pub record IsDataWord (from behind : ℕ) : Type 0 where
    pub spaces : (read : List ℕ) × Repeated (Byte line Space) 0 read from
    pub length : behind ≡ from + 4
    pub word : str_eq_ignore_ascii_case (slice_range line from behind) (codes "DATA") ≡ true
    pub no_more : element_at (of_class WordPart) line behind ≡ None
    pub no_dollar : element_at (of_class Dollar) line behind ≡ None

  -- the first word of the line is DATA, up to the place
  abbrev pub BeginsWithData : ℕ → Type 0
  BeginsWithData behind = (from : ℕ) × IsDataWord from behind

module _ (text : List ℕ) where
  -- whether an odd number of quotes stands among so many bytes
  abbrev pub in_quotes : ℕ → Bool
  in_quotes zero = false
  in_quotes (suc n) = if slice_index text n == 34 then not (in_quotes n) else in_quotes n

  -- a `!` outside quotes
  abbrev pub ends_items : ℕ → Bool
  ends_items at = slice_index text at == 33 && not (in_quotes at)

  -- remark = "!" { byte }
  abbrev pub Remark : Form (ℕ × List ℕ)
  Remark = Byte text ExclamationMark then Repeated (Byte text InRemark)

  -- Items stand up to the first `!` outside quotes, and a remark from there on; or up to the end of the text.
  pub record IsData (items : List Datum) : Type 0 where
    pub stop : ℕ
    pub first : (at : ℕ) → at < stop → ends_items at ≡ false
    pub listed : AreItems (take stop text) items
    pub rest : (stop ≡ length text) ⊎ ((ends_items stop ≡ true) × (read : ℕ × List ℕ) × Remark stop read (length text))
