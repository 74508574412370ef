-- What the readers of lines of data have to do with their forms.
use Rattle.std.specs.Prelude.{◌≡◌, ℕ, List, Some}
use Rattle.bas_text.specs.declared.data_list.Datum.{Datum}
use Rattle.bas_data.specs.Data.{BeginsWithData, IsData}
use Rattle.bas_data.specs.Reading.{data_word, data_of}

-- the word is read where it stands, and at no other place
pub record WordLaw : Type 0 where
  pub sound : (line : List ℕ) (behind : ℕ) → data_word line ≡ Some behind → BeginsWithData line behind
  pub whole : (line : List ℕ) (behind : ℕ) → BeginsWithData line behind → data_word line ≡ Some behind

-- the data that are read stand there, and no others
pub record DataLaw : Type 0 where
  pub sound : (text : List ℕ) (items : List Datum) → data_of text ≡ Some items → IsData text items
  pub whole : (text : List ℕ) (items : List Datum) → IsData text items → data_of text ≡ Some items
