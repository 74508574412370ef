-- What stands at a place: of words, marks, line numbers and remarks one at most.
use Rattle.std.proofs.Common.{◌≡◌, ℕ, ◌<◌, ◌≤◌, inl, inr, ◌==◌, Bool, true, false, List, [], ◌∷◌, length, take, Option, Some, None, slice_get, codes, get_or, refl, sym, ap, ◌∙◌, arith, eqb-true}
use Rattle.std.specs.Char.{to_ascii_lowercase}
use Rattle.std.specs.Str.{str_eq_ignore_ascii_case, str_to_ascii_lowercase}
use Rattle.std.proofs.lemmas.Option.{slice_get_past}
use Rattle.bas_form.specs.Element.{element_at, passing}
use Rattle.bas_form.specs.Reader.{◌>>=◌}
use Rattle.bas_form.proofs.ElementLaws.{element_inside, element_is}
use Rattle.bas_form.proofs.ReaderLaws.{same_some, some_is, value_of}
use Rattle.bas_token.specs.declared.token.TokenKind.TheVariants as kind
use Rattle.bas_expr.specs.declared.mark.Mark.{Mark}
use Rattle.bas_expr.specs.Lexemes.{Lexeme}
use Rattle.bas_expr.specs.Marks.{mark_of, mark, at_mark}
use Rattle.bas_expr.specs.Words.{connective_of, connective}
use Rattle.bas_declaration.specs.declared.keyword.Keyword.{Keyword}
use Rattle.bas_declaration.specs.Keywords.{loop_word, block_word, unit_word, declaring_word, keyword_of_text, keyword_of, keyword, at_word, spelling, spells}
use Rattle.bas_declaration.specs.Digits.{of_numeral}
use Rattle.bas_declaration.proofs.WordLaws.{lowered, spells_stands}
use Rattle.bas_list.specs.Words.{line_number_of_text, line_number, ending_of, ending, Ends}
use Rattle.bas_balance.proofs.ExpressionBalance.{two_words}
use Rattle.bas_line.specs.Words.{behind_rem, rem_of, rem, exclaimed_of, exclaimed, LineEnds}

-- ---- by the kind

on_loop : (text : List ℕ) → str_to_ascii_lowercase text ≡ codes "on" → loop_word text ≡ None
on_loop text e = rw e refl

on_block : (text : List ℕ) → str_to_ascii_lowercase text ≡ codes "on" → block_word text ≡ None
on_block text e = rw e refl

on_unit : (text : List ℕ) → str_to_ascii_lowercase text ≡ codes "on" → unit_word text ≡ None
on_unit text e = rw e refl

on_declaring : (text : List ℕ) → str_to_ascii_lowercase text ≡ codes "on" → declaring_word text ≡ None
on_declaring text e = rw e refl

on_keyword : (text : List ℕ) → str_to_ascii_lowercase text ≡ codes "on" → keyword_of_text text ≡ None
on_keyword text e = rw (on_loop text e, on_block text e, on_unit text e, on_declaring text e) refl

on_text : (text : List ℕ) → str_to_ascii_lowercase text ≡ codes "on" → keyword_of (kind.Word, text) ≡ None
on_text text e = let k = on_keyword text e in rw (e, k) refl

-- no text begins with `!` and with REM
no_rem : (text : List ℕ) → get_or text 0 0 ≡ 33 → str_to_ascii_lowercase (take 3 text) ≡ codes "rem" → ⊥
no_rem [] e h = absurd (omega arith)
no_rem (x ∷ more) e h =
    let first : to_ascii_lowercase x ≡ 114 = ap (λ (t : List ℕ). get_or t 0 0) h in
    let f = rw e at first in
    absurd (omega arith)

exclaimed_text : (text : List ℕ) (t b : Bool) → (get_or text 0 0 == 33) ≡ t → str_eq_ignore_ascii_case (take 3 text) (codes "REM") ≡ b → (u : Unit {0}) → exclaimed_of (kind.Remark, text) ≡ Some u → behind_rem text ≡ None
exclaimed_text text true true et eb u e = absurd (no_rem text (eqb-true (get_or text 0 0) 33 et) (lowered (codes "REM") (take 3 text) eb))
exclaimed_text text true false et eb u e = rw eb refl
exclaimed_text text false b et eb u e = let f = rw et at e in absurd (cc)

-- what no remark is
abbrev pub NoOther : Option Lexeme → Type 0
NoOther o = (passing mark_of o ≡ None) × (passing keyword_of o ≡ None) × (passing connective_of o ≡ None) × (passing (of_numeral line_number_of_text) o ≡ None) × ((wanted : List ℕ) → passing (spelling wanted) o ≡ None)

exclaimed_kind : (o : Option Lexeme) (u : Unit {0}) → passing exclaimed_of o ≡ Some u → NoOther o × ((passing rem_of o ≡ None) × (passing ending_of o ≡ Some tt))
exclaimed_kind None u e = absurd (cc)
exclaimed_kind (Some (kind.Word, text)) u e = absurd (cc)
exclaimed_kind (Some (kind.Numeral, text)) u e = absurd (cc)
exclaimed_kind (Some (kind.Quoted, text)) u e = absurd (cc)
exclaimed_kind (Some (kind.Sign, text)) u e = absurd (cc)
exclaimed_kind (Some (kind.Remark, text)) u e = ((refl, refl, refl, refl, λ wanted. refl), (exclaimed_text text _ _ refl refl u e, refl))

rem_kind : (o : Option Lexeme) (bytes : List ℕ) → passing rem_of o ≡ Some bytes → NoOther o × (passing ending_of o ≡ Some tt)
rem_kind None bytes e = absurd (cc)
rem_kind (Some (kind.Word, text)) bytes e = absurd (cc)
rem_kind (Some (kind.Numeral, text)) bytes e = absurd (cc)
rem_kind (Some (kind.Quoted, text)) bytes e = absurd (cc)
rem_kind (Some (kind.Sign, text)) bytes e = absurd (cc)
rem_kind (Some (kind.Remark, text)) bytes e = ((refl, refl, refl, refl, λ wanted. refl), refl)

nothing_there : (o : Option Lexeme) → o ≡ None → NoOther o × (passing rem_of o ≡ None)
nothing_there None e = ((refl, refl, refl, refl, λ wanted. refl), refl)
nothing_there (Some token) e = absurd (cc)

none_by : {A B : Type 0} (o : Option A) (f : A → Option B) → o ≡ None → (o >>= f) ≡ None
none_by o f e = rw e refl

abbrev one_word : List ℕ → Option Lexeme
one_word text = Some (kind.Word, text)

pub same_text : (s t : List ℕ) → one_word s ≡ one_word t → s ≡ t
same_text s t e = ap (λ (l : Lexeme). l.1) (same_some e)

module _ (tokens : List Lexeme) where
  pub number_inside : (at n : ℕ) → line_number tokens at ≡ Some n → at < length tokens
  unfolding line_number
  number_inside at n e = element_inside (of_numeral line_number_of_text) tokens at n e

  -- one word at most stands at a place
  pub words_apart : (one two : List ℕ) (at : ℕ) (u v : Unit {0}) → (str_to_ascii_lowercase one ≡ str_to_ascii_lowercase two → ⊥) → spells one tokens at ≡ Some u → spells two tokens at ≡ Some v → ⊥
  words_apart one two at u v other e d =
      let x = spells_stands tokens one at u e in
      let y = spells_stands tokens two at v d in
      let same = same_text x.0 y.0 (sym x.1 ∙ y.1) in
      other (two_words y.0 one two (rw (← same) x.2) y.2)

  pub word_no_mark : (wanted : List ℕ) (at : ℕ) (u : Unit {0}) → spells wanted tokens at ≡ Some u → mark tokens at ≡ None
  unfolding mark
  word_no_mark wanted at u e = let x = spells_stands tokens wanted at u e in element_is mark_of tokens at (kind.Word, x.0) x.1

  pub word_no_number : (wanted : List ℕ) (at : ℕ) (u : Unit {0}) → spells wanted tokens at ≡ Some u → line_number tokens at ≡ None
  unfolding line_number
  word_no_number wanted at u e = let x = spells_stands tokens wanted at u e in element_is (of_numeral line_number_of_text) tokens at (kind.Word, x.0) x.1

  pub on_no_keyword : (at : ℕ) (u : Unit {0}) → spells (codes "ON") tokens at ≡ Some u → keyword tokens at ≡ None
  unfolding keyword
  on_no_keyword at u e = let x = spells_stands tokens (codes "ON") at u e in element_is keyword_of tokens at (kind.Word, x.0) x.1 ∙ on_text x.0 (lowered (codes "ON") x.0 x.2)

  else_text : (text : List ℕ) → str_eq_ignore_ascii_case text (codes "ELSE") ≡ true → ending_of (kind.Word, text) ≡ Some tt
  else_text text e = rw e refl

  pub else_ends : (at : ℕ) (u : Unit {0}) → spells (codes "ELSE") tokens at ≡ Some u → Ends tokens at
  unfolding ending
  else_ends at u e =
      let x = spells_stands tokens (codes "ELSE") at u e in
      inr (some_is (element_is ending_of tokens at (kind.Word, x.0) x.1 ∙ else_text x.0 x.2))

  -- ---- where the line ends

  abbrev pub Nothing : ℕ → Type 0
  Nothing at = (mark tokens at ≡ None) × (keyword tokens at ≡ None) × (connective tokens at ≡ None) × (line_number tokens at ≡ None) × ((wanted : List ℕ) → spells wanted tokens at ≡ None)

  exclaimed_first : (at : ℕ) (u : Unit {0}) → exclaimed tokens at ≡ Some u → Nothing at × ((rem tokens at ≡ None) × (ending tokens at ≡ Some tt))
  unfolding exclaimed mark keyword connective line_number spells rem ending element_at
  exclaimed_first at u e = exclaimed_kind (slice_get tokens at) u e

  pub rem_first : (at : ℕ) (bytes : List ℕ) → rem tokens at ≡ Some bytes → Nothing at × (ending tokens at ≡ Some tt)
  unfolding mark keyword connective line_number spells rem ending element_at
  rem_first at bytes e = rem_kind (slice_get tokens at) bytes e

  past_first : (at : ℕ) → length tokens ≤ at → Nothing at × (rem tokens at ≡ None)
  unfolding mark keyword connective line_number spells rem element_at
  past_first at l = nothing_there (slice_get tokens at) (slice_get_past tokens at l)

  -- nothing that an item is made of stands where the line ends
  pub line_ends_at : (at : ℕ) → LineEnds tokens at → Nothing at × (rem tokens at ≡ None)
  line_ends_at at (inl e) = past_first at (omega arith)
  line_ends_at at (inr h) = let v = value_of (exclaimed tokens at) h in let f = exclaimed_first at v.0 v.1 in (f.0, f.1.0)

  pub line_end_ends : (at : ℕ) → LineEnds tokens at → Ends tokens at
  line_end_ends at (inl e) = inl (omega arith)
  line_end_ends at (inr h) = let v = value_of (exclaimed tokens at) h in let f = exclaimed_first at v.0 v.1 in inr (some_is f.1.1)

  pub no_mark : {A : Type 0} (f : Mark → Option A) (at : ℕ) → mark tokens at ≡ None → at_mark f tokens at ≡ None
  no_mark f at e = none_by (mark tokens at) f e

  pub no_keyword : {A : Type 0} (f : Keyword → Option A) (at : ℕ) → keyword tokens at ≡ None → at_word f tokens at ≡ None
  no_keyword f at e = none_by (keyword tokens at) f e
