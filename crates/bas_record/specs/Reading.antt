-- How channels, setters and the attributes of a file are read, in one pass from the left.
use Rattle.std.specs.Prelude.{ℕ, List, length, codes, Option}
use Rattle.bas_form.specs.Reader.{Reader, terminal, ◌followed_by◌, repeated, dispatched, built}
use Rattle.bas_ast.specs.declared.expression.Expr.{Expr}
use Rattle.bas_ast.specs.declared.record_statement.Chan.{Chan}
use Rattle.bas_ast.specs.declared.record_statement.Setter.{Setter}
use Rattle.bas_ast.specs.declared.record_statement.Setter.TheVariants as setter
use Rattle.bas_ast.specs.declared.record_statement.Attr.{Attr}
use Rattle.bas_ast.specs.declared.record_statement.Attr.TheVariants as attr
use Rattle.bas_expr.specs.Lexemes.{Lexeme}
use Rattle.bas_expr.specs.Marks.{at_mark, comma, hash}
use Rattle.bas_expr.specs.Separated.{behind}
use Rattle.bas_declaration.specs.Keywords.{spells}
use Rattle.bas_declaration.specs.Digits.{digits}
use Rattle.bas_declaration.specs.Reading.{e}
use Rattle.bas_record.specs.declared.word.SetterWord.{SetterWord}
use Rattle.bas_record.specs.declared.word.SetterWord.TheVariants as s
use Rattle.bas_record.specs.declared.word.AttrWord.{AttrWord}
use Rattle.bas_record.specs.declared.word.AttrWord.TheVariants as a
use Rattle.bas_record.specs.Words.{setter_word, attr_word, organization, rectype, access, create, key_relation}
use Rattle.bas_record.specs.Channels.{chan_of, key_of}

module _ (tokens : List Lexeme) where
  unfoldable pub chan : Reader Chan
  chan = built chan_of (behind (at_mark hash tokens) (e tokens))

  abbrev pub setter_alone : Setter → Reader Setter
  setter_alone x = built (λ (lead : SetterWord). x) (terminal (setter_word tokens))

  unfoldable pub record_setter : Reader Setter
  record_setter = built setter.Record (behind (setter_word tokens) (e tokens))

  unfoldable pub key_setter : Reader Setter
  key_setter = built key_of (behind (setter_word tokens) (terminal (key_relation tokens) followed_by e tokens))

  abbrev pub setter_by : SetterWord → Reader Setter
  setter_by s.Begin = setter_alone setter.Begin
  setter_by s.End = setter_alone setter.End
  setter_by s.Next = setter_alone setter.Next
  setter_by s.Same = setter_alone setter.Same
  setter_by s.Record = record_setter
  setter_by s.Key = key_setter

  unfoldable pub one_setter : Reader Setter
  one_setter = dispatched (setter_word tokens) setter_by

  abbrev pub attr_of : {A : Type 0} → (A → Attr) → (ℕ → Option A) → Reader Attr
  attr_of make value = built make (behind (attr_word tokens) (terminal value))

  abbrev pub attr_by : AttrWord → Reader Attr
  attr_by a.Organization = attr_of attr.Organization (organization tokens)
  attr_by a.Rectype = attr_of attr.Rectype (rectype tokens)
  attr_by a.Access = attr_of attr.Access (access tokens)
  attr_by a.Create = attr_of attr.Create (create tokens)
  attr_by a.Recsize = attr_of attr.Recsize (digits tokens)

  unfoldable pub one_attr : Reader Attr
  one_attr = dispatched (attr_word tokens) attr_by

  abbrev pub next_attr : Reader Attr
  next_attr = behind (at_mark comma tokens) one_attr

  unfoldable pub named : Reader (Expr × List Attr)
  named = behind (spells (codes "NAME") tokens) (e tokens followed_by repeated next_attr (length tokens))
