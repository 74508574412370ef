-- What stands at a place: of words, marks and numerals one at most, and where two words are the same.
use Rattle.std.proofs.Common.{◌≡◌, ℕ, ◌+◌, ◌<◌, List, length, Option, Some, None, IsSome, codes, refl, arith}
use Rattle.std.specs.Str.{str_to_ascii_lowercase}
use Rattle.bas_form.specs.Form.{Form}
use Rattle.bas_form.specs.Reader.{Reader, ReadsLongest, Begins}
use Rattle.bas_form.proofs.ElementLaws.{element_inside, element_is}
use Rattle.bas_form.proofs.ReaderLaws.{bound, some_is, terminal_longest, built_longest, weaker, begun}
use Rattle.bas_form.proofs.SequenceLaws.{then_longest}
use Rattle.bas_token.specs.declared.token.TokenKind.TheVariants as kind
use Rattle.bas_ast.specs.declared.record_statement.Organization.{Organization}
use Rattle.bas_ast.specs.declared.record_statement.Rectype.{Rectype}
use Rattle.bas_ast.specs.declared.record_statement.Access.{Access}
use Rattle.bas_ast.specs.declared.record_statement.Create.{Create}
use Rattle.bas_ast.specs.declared.record_statement.MissWhen.{MissWhen}
use Rattle.bas_ast.specs.declared.record_statement.MissThen.{MissThen}
use Rattle.bas_expr.specs.declared.mark.Mark.{Mark}
use Rattle.bas_expr.specs.Lexemes.{Lexeme}
use Rattle.bas_expr.specs.Marks.{mark, at_mark}
use Rattle.bas_expr.specs.Separated.{Behind, behind}
use Rattle.bas_declaration.specs.Keywords.{spells}
use Rattle.bas_declaration.specs.Digits.{of_numeral}
use Rattle.bas_declaration.proofs.WordLaws.{lowered, spells_stands, mark_no_spells}
use Rattle.bas_list.specs.Words.{line_number_of_text, line_number}
use Rattle.bas_record.specs.declared.word.Verb.{Verb}
use Rattle.bas_record.specs.declared.word.SetterWord.{SetterWord}
use Rattle.bas_record.specs.declared.word.AttrWord.{AttrWord}
use Rattle.bas_record.specs.declared.word.KeyRelation.{KeyRelation}
use Rattle.bas_record.specs.Words.{word_of, spelled, read_word, verb_of_text, verb, setter_word_of_text, setter_word, attr_word_of_text, attr_word, organization_of_text, organization, rectype_of_text, rectype, access_of_text, access, create_of_text, create, miss_when_of_text, miss_when, exit_of_text, exit, key_relation_of, key_relation}

-- ---- an element in front of a form

module _ {A O : Type 0} {len least : ℕ} (element : ℕ → Option O) (inside : (n : ℕ) (o : O) → element n ≡ Some o → n < len)
    {F : Form A} {GoesOn : ℕ → Type 0} {f : Reader A} (is : ReadsLongest len least F GoesOn f) where
  pub led_longest : ReadsLongest len (1 + least) (Behind element F) GoesOn (behind element f)
  led_longest = built_longest (λ (parts : O × A). parts.1) (then_longest (terminal_longest len element inside) is (λ n z b m h. z))

  pub led_begins : (n : ℕ) → Begins (behind element f) n → IsSome (element n)
  led_begins n h = let b = begun led_longest n h in let body = b.2.2 in some_is body.1.0

  pub led_one : ReadsLongest len 1 (Behind element F) GoesOn (behind element f)
  led_one = weaker led_longest GoesOn 1 (λ n g. g) (omega arith)

-- what stands in front of a form, and the form behind it
pub led : {A O : Type 0} (element : ℕ → Option O) (F : Form A) (n : ℕ) (a : A) (m : ℕ) → Behind element F n a m → (o : O) × (element n ≡ Some o) × F (n + 1) a m
led {A = A} element F n a m h =
    let body = h.2 in
    let f : F (n + 1) h.0.1 m = rw (← body.1.1) body.2 in
    (h.0.0, body.1.0, rw h.1 f)

if_no_setter_text : (text : List ℕ) → str_to_ascii_lowercase text ≡ codes "if" → setter_word_of_text text ≡ None
if_no_setter_text text e = rw e refl

module _ (tokens : List Lexeme) where
  spelled_inside : (at : ℕ) (t : List ℕ) → spelled tokens at ≡ Some t → at < length tokens
  unfolding spelled
  spelled_inside at t e = element_inside word_of tokens at t e

  read_inside : {A : Type 0} (read : List ℕ → Option A) (at : ℕ) (a : A) → read_word read tokens at ≡ Some a → at < length tokens
  read_inside read at a e = let b = bound (spelled tokens at) read a e in spelled_inside at b.0 b.1

  pub verb_inside : (at : ℕ) (x : Verb) → verb tokens at ≡ Some x → at < length tokens
  unfolding verb
  verb_inside at x e = read_inside verb_of_text at x e

  pub setter_word_inside : (at : ℕ) (x : SetterWord) → setter_word tokens at ≡ Some x → at < length tokens
  unfolding setter_word
  setter_word_inside at x e = read_inside setter_word_of_text at x e

  pub attr_word_inside : (at : ℕ) (x : AttrWord) → attr_word tokens at ≡ Some x → at < length tokens
  unfolding attr_word
  attr_word_inside at x e = read_inside attr_word_of_text at x e

  pub organization_inside : (at : ℕ) (x : Organization) → organization tokens at ≡ Some x → at < length tokens
  unfolding organization
  organization_inside at x e = read_inside organization_of_text at x e

  pub rectype_inside : (at : ℕ) (x : Rectype) → rectype tokens at ≡ Some x → at < length tokens
  unfolding rectype
  rectype_inside at x e = read_inside rectype_of_text at x e

  pub access_inside : (at : ℕ) (x : Access) → access tokens at ≡ Some x → at < length tokens
  unfolding access
  access_inside at x e = read_inside access_of_text at x e

  pub create_inside : (at : ℕ) (x : Create) → create tokens at ≡ Some x → at < length tokens
  unfolding create
  create_inside at x e = read_inside create_of_text at x e

  pub miss_when_inside : (at : ℕ) (x : MissWhen) → miss_when tokens at ≡ Some x → at < length tokens
  unfolding miss_when
  miss_when_inside at x e = read_inside miss_when_of_text at x e

  pub exit_inside : (at : ℕ) (x : MissThen) → exit tokens at ≡ Some x → at < length tokens
  unfolding exit
  exit_inside at x e = read_inside exit_of_text at x e

  pub key_relation_inside : (at : ℕ) (x : KeyRelation) → key_relation tokens at ≡ Some x → at < length tokens
  unfolding key_relation
  key_relation_inside at x e = element_inside key_relation_of tokens at x e

  pub number_inside : (at : ℕ) (x : ℕ) → line_number tokens at ≡ Some x → at < length tokens
  unfolding line_number
  number_inside at x e = element_inside (of_numeral line_number_of_text) tokens at x e

  -- no word stands at a mark
  pub mark_no_word : {A : Type 0} (f : Mark → Option A) (wanted : List ℕ) (at : ℕ) (a : A) (u : Unit {0}) → at_mark f tokens at ≡ Some a → spells wanted tokens at ≡ Some u → ⊥
  mark_no_word f wanted at a u e w =
      let b = bound (mark tokens at) f a e in
      let none = mark_no_spells tokens at wanted b.0 b.1 in
      absurd (cc)

  no_number : (wanted : List ℕ) (at : ℕ) (u : Unit {0}) → spells wanted tokens at ≡ Some u → line_number tokens at ≡ None
  unfolding line_number
  no_number wanted at u e = let x = spells_stands tokens wanted at u e in element_is (of_numeral line_number_of_text) tokens at (kind.Word, x.0) x.1

  -- and none at a line number
  pub number_no_word : (wanted : List ℕ) (at : ℕ) (x : ℕ) (u : Unit {0}) → line_number tokens at ≡ Some x → spells wanted tokens at ≡ Some u → ⊥
  number_no_word wanted at x u e w =
      let none = no_number wanted at u w in
      absurd (cc)

  -- the text of a word that is known
  text_spelled : (wanted : List ℕ) (at : ℕ) (u : Unit {0}) → spells wanted tokens at ≡ Some u → (text : List ℕ) × (spelled tokens at ≡ Some text) × (str_to_ascii_lowercase text ≡ str_to_ascii_lowercase wanted)
  unfolding spelled
  text_spelled wanted at u e =
      let x = spells_stands tokens wanted at u e in
      (x.0, element_is word_of tokens at (kind.Word, x.0) x.1, lowered wanted x.0 x.2)

  -- no setter begins with IF
  pub if_no_setter : (at : ℕ) (w : SetterWord) (u : Unit {0}) → setter_word tokens at ≡ Some w → spells (codes "IF") tokens at ≡ Some u → ⊥
  unfolding setter_word
  if_no_setter at w u es ew =
      let x = text_spelled (codes "IF") at u ew in
      let none = if_no_setter_text x.0 x.2 in
      let f = rw x.1 at es in
      absurd (cc)
