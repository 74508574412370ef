-- The grammar of channels, setters and the attributes of a file, one form for each production.
use Rattle.std.specs.Prelude.{ℕ, List, Option, codes}
use Rattle.bas_form.specs.Form.{Form, Terminal, ◌then◌, Dispatched, Built, ◌repeating◌}
use Rattle.bas_ast.specs.declared.expression.Expr.{Expr}
use Rattle.bas_ast.specs.declared.record_statement.Chan.{Chan}
use Rattle.bas_ast.specs.declared.record_statement.Setter.{Setter}
use Rattle.bas_ast.specs.declared.record_statement.Setter.TheVariants as setter
use Rattle.bas_ast.specs.declared.record_statement.Attr.{Attr}
use Rattle.bas_ast.specs.declared.record_statement.Attr.TheVariants as attr
use Rattle.bas_expr.specs.Lexemes.{Lexeme}
use Rattle.bas_expr.specs.Marks.{at_mark, comma, hash}
use Rattle.bas_expr.specs.Separated.{Behind}
use Rattle.bas_declaration.specs.Keywords.{spells}
use Rattle.bas_declaration.specs.Digits.{digits}
use Rattle.bas_declaration.specs.Parts.{E}
use Rattle.bas_record.specs.declared.word.SetterWord.{SetterWord}
use Rattle.bas_record.specs.declared.word.SetterWord.TheVariants as s
use Rattle.bas_record.specs.declared.word.AttrWord.{AttrWord}
use Rattle.bas_record.specs.declared.word.AttrWord.TheVariants as a
use Rattle.bas_record.specs.declared.word.KeyRelation.{KeyRelation}
use Rattle.bas_record.specs.declared.word.KeyRelation.TheVariants as key
use Rattle.bas_record.specs.Words.{setter_word, attr_word, organization, rectype, access, create, key_relation}

-- ---- the trees that parts make

-- a number in a channel
abbrev pub chan_of : Expr → Chan
chan_of e = record { number = e }

-- a relation and a key
abbrev pub key_of : KeyRelation × Expr → Setter
key_of (key.Equal, e) = setter.KeyEq e
key_of (key.AtLeast, e) = setter.KeyGe e
key_of (key.Greater, e) = setter.KeyGt e

module _ (tokens : List Lexeme) where
  -- chan = "#" expr
  abbrev pub IsChan : Form Chan
  IsChan = Built chan_of (Behind (at_mark hash tokens) (E tokens))

  -- a setter of one word
  abbrev pub SetterAlone : Setter → Form Setter
  SetterAlone x = Built (λ (lead : SetterWord). x) (Terminal (setter_word tokens))

  -- setter = "BEGIN" | "END" | "NEXT" | "SAME" | "RECORD" expr | "KEY" ( "=" | ">=" | ">" ) expr
  abbrev pub SetterBy : SetterWord → Form Setter
  SetterBy s.Begin = SetterAlone setter.Begin
  SetterBy s.End = SetterAlone setter.End
  SetterBy s.Next = SetterAlone setter.Next
  SetterBy s.Same = SetterAlone setter.Same
  SetterBy s.Record = Built setter.Record (Behind (setter_word tokens) (E tokens))
  SetterBy s.Key = Built key_of (Behind (setter_word tokens) (Terminal (key_relation tokens) then E tokens))

  -- a setter, by its word
  abbrev pub IsSetter : Form Setter
  IsSetter = Dispatched (setter_word tokens) SetterBy

  -- the word of an attribute and its value
  abbrev pub AttrOf : {A : Type 0} → (A → Attr) → (ℕ → Option A) → Form Attr
  AttrOf make value = Built make (Behind (attr_word tokens) (Terminal value))

  -- attr = "ORGANIZATION" ( "STREAM" | "SEQUENTIAL" | "RELATIVE" | "KEYED" ) | "RECTYPE" ( "DISPLAY" | "INTERNAL" )
  --     | "ACCESS" ( "INPUT" | "OUTPUT" | "OUTIN" ) | "CREATE" ( "NEW" | "OLD" | "NEWOLD" ) | "RECSIZE" digits
  abbrev pub AttrBy : AttrWord → Form Attr
  AttrBy a.Organization = AttrOf attr.Organization (organization tokens)
  AttrBy a.Rectype = AttrOf attr.Rectype (rectype tokens)
  AttrBy a.Access = AttrOf attr.Access (access tokens)
  AttrBy a.Create = AttrOf attr.Create (create tokens)
  AttrBy a.Recsize = AttrOf attr.Recsize (digits tokens)

  -- an attribute, by its word
  abbrev pub IsAttr : Form Attr
  IsAttr = Dispatched (attr_word tokens) AttrBy

  -- "NAME" expr { "," attr }
  abbrev pub IsNamed : Form (Expr × List Attr)
  IsNamed = Behind (spells (codes "NAME") tokens) (E tokens repeating Behind (at_mark comma tokens) IsAttr)
