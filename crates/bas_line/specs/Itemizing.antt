-- How a line is read.
use Rattle.std.specs.Prelude.{ℕ, ◌==◌, if◌then◌else◌, Bool, true, false, List, length, drop, Option, Some, None}
use Rattle.bas_form.specs.Reader.{Reader, ◌>>=◌, first_of}
use Rattle.bas_text.specs.declared.data_list.Datum.{Datum}
use Rattle.bas_ast.specs.declared.statement.Plain.{Plain}
use Rattle.bas_ast.specs.declared.declaration.Decl.TheVariants as decl
use Rattle.bas_ast.specs.declared.block.LineItem.{LineItem}
use Rattle.bas_ast.specs.declared.block.LineItem.TheVariants as item
use Rattle.bas_expr.specs.Lexemes.{Lexeme, lexemes}
use Rattle.bas_declaration.specs.Reading.{part_at}
use Rattle.bas_declaration.specs.Declaring.{decl_at}
use Rattle.bas_data.specs.Reading.{data_word, data_of}
use Rattle.bas_line.specs.Plains.{plain_at}
use Rattle.bas_line.specs.Words.{rem, exclaimed}
use Rattle.bas_line.specs.Reading.{simple_at}
use Rattle.bas_line.specs.Cut.{tokens_of}

-- whether something stands there
abbrev pub stands : {A : Type 0} → Option A → Bool
stands None = false
stands (Some a) = true

module _ (tokens : List Lexeme) where
  -- whether the line ends at a place
  unfoldable pub line_ends : ℕ → Bool
  line_ends at = if at == length tokens then true else stands (exclaimed tokens at)

  -- what was read, where the line ends behind it
  unfoldable pub ended : {A : Type 0} → Option (A × ℕ) → Option A
  ended None = None
  ended (Some found) = if line_ends found.1 then Some found.0 else None

-- an item of what is read
abbrev pub made : {A : Type 0} → (A → LineItem) → Option A → Option LineItem
made make None = None
made make (Some a) = Some (make a)

-- an item, where the line ends behind what was read
abbrev pub closed : {A : Type 0} → List Lexeme → (A → LineItem) → Option (A × ℕ) → Option LineItem
closed tokens make o = made make (ended tokens o)

-- `p` reads a plain statement.
module _ (tokens : List Lexeme) (p : Reader Plain) where
  -- a part, a declaration or a statement
  abbrev pub worded : Option LineItem
  worded = first_of (closed tokens item.Part (part_at tokens 0)) (first_of (closed tokens item.Decl (decl_at tokens 0)) (closed tokens item.Simple (simple_at tokens p 0)))

  -- by the remark that stands there
  abbrev pub item_with : Option (List ℕ) → Option LineItem
  item_with (Some bytes) = Some (item.Rem bytes)
  item_with None = if line_ends tokens 0 then Some item.Nothing else worded

  -- the item of a line that is cut into tokens
  unfoldable pub item_by : Option LineItem
  item_by = item_with (rem tokens 0)

-- the item that data are
abbrev pub data_item : List Datum → LineItem
data_item items = item.Decl (decl.Data items)

-- the item of a line of data, from what stands behind the word
abbrev pub data_item_of : List ℕ → Option LineItem
data_item_of text = do
  items ← data_of text
  Some (data_item items)

module _ (line : List ℕ) (p : List Lexeme → Reader Plain) where
  -- by the place behind the word DATA
  abbrev pub item_behind : Option ℕ → Option LineItem
  item_behind (Some behind) = data_item_of (drop behind line)
  item_behind None = do
    tokens ← tokens_of line
    item_by (lexemes line tokens) (p (lexemes line tokens))

  -- the item of a line
  unfoldable pub item_for : Option LineItem
  item_for = item_behind (data_word line)

-- the item of a line, where plain statements are read as they are
unfoldable pub item_of : List ℕ → Option LineItem
item_of line = item_for line plain_at
