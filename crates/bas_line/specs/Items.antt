-- What stands on a line without its number.
use Rattle.std.specs.Prelude.{◌≡◌, ℕ, ◌⊎◌, List, drop, Some}
use Rattle.bas_form.specs.Form.{Form}
use Rattle.bas_token.specs.declared.token.Token.{Token}
use Rattle.bas_token.specs.Tokens.{AreTokens}
use Rattle.bas_text.specs.declared.data_list.Datum.{Datum}
use Rattle.bas_ast.specs.declared.statement.Plain.{Plain}
use Rattle.bas_ast.specs.declared.declaration.Decl.TheVariants as decl
use Rattle.bas_ast.specs.declared.block.LineItem.{LineItem}
use Rattle.bas_ast.specs.declared.block.LineItem.TheVariants as item
use Rattle.bas_expr.specs.Lexemes.{Lexeme, lexemes}
use Rattle.bas_declaration.specs.Parts.{IsPart}
use Rattle.bas_declaration.specs.Declarations.{IsDecl}
use Rattle.bas_data.specs.Data.{BeginsWithData, IsData}
use Rattle.bas_line.specs.Plains.{IsPlain}
use Rattle.bas_line.specs.Words.{rem, LineEnds}
use Rattle.bas_line.specs.Simples.{IsSimple}

-- `P` is what a plain statement is.
module _ (tokens : List Lexeme) (P : Form Plain) where
  -- the form stands from the first token on, and the line ends behind it, with perhaps a remark
  abbrev pub IsWhole : {A : Type 0} → Form A → A → Type 0
  IsWhole F a = (next : ℕ) × F 0 a next × LineEnds tokens next

  -- item = nothing | "REM" bytes | simple | part | decl, and behind every item but REM a remark may stand
  abbrev pub IsItemBy : LineItem → Type 0
  IsItemBy item.Nothing = LineEnds tokens 0
  IsItemBy (item.Rem bytes) = rem tokens 0 ≡ Some bytes
  IsItemBy (item.Simple s) = IsWhole (IsSimple tokens P) s
  IsItemBy (item.Part p) = IsWhole (IsPart tokens) p
  IsItemBy (item.Decl d) = IsWhole (IsDecl tokens) d

module _ (line : List ℕ) where
  -- "DATA" items, ended by "!" outside quotes
  abbrev pub IsDataItem : LineItem → Type 0
  IsDataItem x = (behind : ℕ) × BeginsWithData line behind × (items : List Datum) × IsData (drop behind line) items × (x ≡ item.Decl (decl.Data items))

  -- A line that begins with DATA holds data, and each other line is cut into tokens.
  abbrev pub IsItemFor : (List Lexeme → Form Plain) → LineItem → Type 0
  IsItemFor P x = IsDataItem x ⊎ (((behind : ℕ) → BeginsWithData line behind → ⊥) × (tokens : List Token) × AreTokens line tokens × IsItemBy (lexemes line tokens) (P (lexemes line tokens)) x)

-- the item of a line
abbrev pub IsItem : List ℕ → LineItem → Type 0
IsItem line x = IsItemFor line IsPlain x
