-- The readers of channels, setters and attributes take the longest.
use Rattle.std.proofs.Common.{◌≡◌, ℕ, ◌+◌, ◌≤◌, ◌<◌, ◌⊎◌, inl, inr, List, length, Option, Some, IsSome, codes, arith}
use Rattle.bas_form.specs.Reader.{ReadsLongest}
use Rattle.bas_form.proofs.ReaderLaws.{terminal_longest, built_longest, dispatched_longest, weaker}
use Rattle.bas_form.proofs.SequenceLaws.{then_longest}
use Rattle.bas_form.proofs.RepetitionLaws.{repeating_longest}
use Rattle.bas_ast.specs.declared.record_statement.Setter.{Setter}
use Rattle.bas_ast.specs.declared.record_statement.Setter.TheVariants as setter
use Rattle.bas_ast.specs.declared.record_statement.Attr.{Attr}
use Rattle.bas_ast.specs.declared.record_statement.Attr.TheVariants as attr
use Rattle.bas_expr.specs.Lexemes.{Lexeme}
use Rattle.bas_expr.specs.Marks.{at_mark, comma, hash}
use Rattle.bas_expr.specs.Separated.{Behind}
use Rattle.bas_expr.specs.Reading.{GoesExpr}
use Rattle.bas_expr.proofs.MarkLaws.{mark_inside}
use Rattle.bas_declaration.specs.Keywords.{spells}
use Rattle.bas_declaration.specs.Digits.{digits}
use Rattle.bas_declaration.proofs.WordLaws.{spells_inside, digits_inside}
use Rattle.bas_declaration.proofs.PartLaws.{an_expr, no_comma_past}
use Rattle.bas_record.specs.declared.word.SetterWord.{SetterWord}
use Rattle.bas_record.specs.declared.word.SetterWord.TheVariants as s
use Rattle.bas_record.specs.declared.word.AttrWord.{AttrWord}
use Rattle.bas_record.specs.declared.word.AttrWord.TheVariants as a
use Rattle.bas_record.specs.Words.{setter_word, attr_word, organization, rectype, access, create, key_relation}
use Rattle.bas_record.specs.Channels.{chan_of, key_of, IsChan, SetterAlone, SetterBy, IsSetter, AttrOf, AttrBy, IsAttr, IsNamed}
use Rattle.bas_record.specs.Reading.{chan, setter_alone, record_setter, key_setter, setter_by, one_setter, attr_of, attr_by, one_attr, next_attr, named}
use Rattle.bas_record.proofs.WordLaws.{led_longest, led_begins, led_one, led, setter_word_inside, attr_word_inside, organization_inside, rectype_inside, access_inside, create_inside, key_relation_inside}

-- each turn of a list takes two tokens at least
pub two : 1 ≤ 1 + 1
two = omega arith

module _ (tokens : List Lexeme) where
  pub chan_longest : ReadsLongest (length tokens) 1 (IsChan tokens) (GoesExpr tokens) (chan tokens)
  unfolding chan
  chan_longest = built_longest chan_of (led_one (at_mark hash tokens) (mark_inside tokens hash) (an_expr tokens))

  -- ---- setters

  alone_longest : (x : Setter) → ReadsLongest (length tokens) 1 (SetterAlone tokens x) (GoesExpr tokens) (setter_alone tokens x)
  alone_longest x = weaker (built_longest (λ (lead : SetterWord). x) (terminal_longest (length tokens) (setter_word tokens) (setter_word_inside tokens))) (GoesExpr tokens) 1 (λ n z. absurd z) (omega arith)

  record_longest : ReadsLongest (length tokens) 1 (SetterBy tokens s.Record) (GoesExpr tokens) (record_setter tokens)
  unfolding record_setter
  record_longest = built_longest setter.Record (led_one (setter_word tokens) (setter_word_inside tokens) (an_expr tokens))

  key_longest : ReadsLongest (length tokens) 1 (SetterBy tokens s.Key) (GoesExpr tokens) (key_setter tokens)
  unfolding key_setter
  key_longest = built_longest key_of (led_one (setter_word tokens) (setter_word_inside tokens)
      (then_longest (terminal_longest (length tokens) (key_relation tokens) (key_relation_inside tokens)) (an_expr tokens) (λ n z b m h. z)))

  setter_by_word : (w : SetterWord) → ReadsLongest (length tokens) 1 (SetterBy tokens w) (GoesExpr tokens) (setter_by tokens w)
  setter_by_word s.Begin = alone_longest setter.Begin
  setter_by_word s.End = alone_longest setter.End
  setter_by_word s.Next = alone_longest setter.Next
  setter_by_word s.Same = alone_longest setter.Same
  setter_by_word s.Record = record_longest
  setter_by_word s.Key = key_longest

  pub setter_longest : ReadsLongest (length tokens) 1 (IsSetter tokens) (GoesExpr tokens) (one_setter tokens)
  unfolding one_setter
  setter_longest = weaker (dispatched_longest (setter_word tokens) setter_by_word) (GoesExpr tokens) 1 (λ n g. g.1) (omega arith)

  -- ---- attributes

  value_longest : {A : Type 0} (make : A → Attr) (value : ℕ → Option A) → ((n : ℕ) (x : A) → value n ≡ Some x → n < length tokens) →
      ReadsLongest (length tokens) 1 (AttrOf tokens make value) (λ _. ⊥) (attr_of tokens make value)
  value_longest make value inside = built_longest make (led_one (attr_word tokens) (attr_word_inside tokens) (terminal_longest (length tokens) value inside))

  attr_by_word : (w : AttrWord) → ReadsLongest (length tokens) 1 (AttrBy tokens w) (λ _. ⊥) (attr_by tokens w)
  attr_by_word a.Organization = value_longest attr.Organization (organization tokens) (organization_inside tokens)
  attr_by_word a.Rectype = value_longest attr.Rectype (rectype tokens) (rectype_inside tokens)
  attr_by_word a.Access = value_longest attr.Access (access tokens) (access_inside tokens)
  attr_by_word a.Create = value_longest attr.Create (create tokens) (create_inside tokens)
  attr_by_word a.Recsize = value_longest attr.Recsize (digits tokens) (digits_inside tokens)

  attr_longest : ReadsLongest (length tokens) 1 (IsAttr tokens) (λ _. ⊥) (one_attr tokens)
  unfolding one_attr
  attr_longest = weaker (dispatched_longest (attr_word tokens) attr_by_word) (λ _. ⊥) 1 (λ n g. g.1) (omega arith)

  pub next_attr_longest : ReadsLongest (length tokens) (1 + 1) (Behind (at_mark comma tokens) (IsAttr tokens)) (λ _. ⊥) (next_attr tokens)
  next_attr_longest = led_longest (at_mark comma tokens) (mark_inside tokens comma) attr_longest

  before_attr : (n : ℕ) → GoesExpr tokens n → (b : Attr) (m : ℕ) → Behind (at_mark comma tokens) (IsAttr tokens) n b m → ⊥
  before_attr n g b m h = let none = no_comma_past tokens n g in let l = led (at_mark comma tokens) (IsAttr tokens) n b m h in let some = l.1 in absurd (cc)

  -- where the name of a file and its attributes may go on
  abbrev pub GoesNamed : ℕ → Type 0
  GoesNamed n = GoesExpr tokens n ⊎ IsSome (at_mark comma tokens n)

  pub named_longest : ReadsLongest (length tokens) 1 (IsNamed tokens) GoesNamed (named tokens)
  unfolding named
  named_longest = led_one (spells (codes "NAME") tokens) (spells_inside tokens (codes "NAME"))
      (weaker (repeating_longest (an_expr tokens) next_attr_longest two before_attr (λ n z b m h. z)) GoesNamed 1
      (λ n g. elim g as (λ _. GoesNamed n) [ inl d ↦ inl d | inr (inl z) ↦ absurd z | inr (inr d) ↦ inr (led_begins (at_mark comma tokens) (mark_inside tokens comma) attr_longest n d) ]) (omega arith))
