-- What doesn't stand where a statement ends.
use Rattle.std.proofs.Common.{◌≡◌, ℕ, inl, inr, Bool, true, false, List, Option, Some, None, IsSome, slice_get, codes, refl}
use Rattle.std.specs.Str.{str_eq_ignore_ascii_case, str_to_ascii_lowercase}
use Rattle.std.proofs.lemmas.Option.{slice_get_past}
use Rattle.std.proofs.lemmas.Slice.Eq.{bytes_eq-Decides}
use Rattle.bas_base.specs.Names.{is_name}
use Rattle.bas_form.specs.Element.{element_at, passing}
use Rattle.bas_form.specs.Reader.{◌>>=◌}
use Rattle.bas_form.proofs.ReaderLaws.{value_of}
use Rattle.bas_token.specs.declared.token.TokenKind.TheVariants as kind
use Rattle.bas_expr.specs.declared.mark.Mark.{Mark}
use Rattle.bas_expr.specs.Lexemes.{Lexeme}
use Rattle.bas_expr.specs.Marks.{mark_of, mark, at_mark, comma, opening, sign_of}
use Rattle.bas_expr.specs.Words.{name_of_text, name_of, any_name, numeral_of_lexeme, numeral, quoted_of, quoted, connective_of_text, connective_of, connective}
use Rattle.bas_expr.specs.Reading.{GoesExpr}
use Rattle.bas_expr.proofs.MarkLaws.{goes_mark}
use Rattle.bas_declaration.specs.Keywords.{same_word, spelling, spells}
use Rattle.bas_declaration.specs.Digits.{of_numeral}
use Rattle.bas_declaration.proofs.WordLaws.{same_word_is}
use Rattle.bas_list.specs.Words.{line_number_of_text, line_number, ending_of, ending, Ends}
use Rattle.bas_list.specs.Reading.{GoesList}
use Rattle.bas_list.proofs.FrontLaws.{Front}

-- a text that is one word is no other
pub other_word : (a b t : List ℕ) → str_eq_ignore_ascii_case t a ≡ true → str_eq_ignore_ascii_case a b ≡ false → str_eq_ignore_ascii_case t b ≡ false
other_word a b t is differs =
    let same = (bytes_eq-Decides (str_to_ascii_lowercase t) (str_to_ascii_lowercase a)).0 is in
    rw same differs

else_no_name : (t : List ℕ) (i : Bool) → is_name t ≡ i → str_eq_ignore_ascii_case t (codes "NOT") ≡ false → str_eq_ignore_ascii_case t (codes "ELSE") ≡ true → name_of_text t ≡ None
else_no_name t true ei en e = rw (ei, en, e) refl
else_no_name t false ei en e = rw ei refl

else_no_connective : (t : List ℕ) → str_eq_ignore_ascii_case t (codes "ELSE") ≡ true → connective_of_text t ≡ None
else_no_connective t e =
    let n = other_word (codes "ELSE") (codes "NOT") t e refl in
    let a = other_word (codes "ELSE") (codes "AND") t e refl in
    let o = other_word (codes "ELSE") (codes "OR") t e refl in
    rw (n, a, o) refl

else_no_tab : (t : List ℕ) → str_eq_ignore_ascii_case t (codes "ELSE") ≡ true → same_word (codes "TAB") t ≡ None
else_no_tab t e = let n = other_word (codes "ELSE") (codes "TAB") t e refl in rw n refl

-- none of the tokens that lists are made of
abbrev None5 : Option Lexeme → Type 0
None5 o = (passing mark_of o ≡ None) × (passing numeral_of_lexeme o ≡ None) × (passing quoted_of o ≡ None) × (passing name_of o ≡ None) × (passing (spelling (codes "TAB")) o ≡ None)

ends_kind : (o : Option Lexeme) (u : Unit {0}) → passing ending_of o ≡ Some u → None5 o
ends_kind None u e = absurd (cc)
ends_kind (Some (kind.Word, t)) u e =
    let is = same_word_is (codes "ELSE") t u e in
    (refl, refl, refl, else_no_name t (is_name t) refl (other_word (codes "ELSE") (codes "NOT") t is refl) is, else_no_tab t is)
ends_kind (Some (kind.Numeral, t)) u e = absurd (cc)
ends_kind (Some (kind.Quoted, t)) u e = absurd (cc)
ends_kind (Some (kind.Sign, t)) u e = absurd (cc)
ends_kind (Some (kind.Remark, t)) u e = (refl, refl, refl, refl, refl)

ends_other : (o : Option Lexeme) (u : Unit {0}) → passing ending_of o ≡ Some u → (passing connective_of o ≡ None) × (passing (of_numeral line_number_of_text) o ≡ None)
ends_other None u e = absurd (cc)
ends_other (Some (kind.Word, t)) u e = (else_no_connective t (same_word_is (codes "ELSE") t u e), refl)
ends_other (Some (kind.Numeral, t)) u e = absurd (cc)
ends_other (Some (kind.Quoted, t)) u e = absurd (cc)
ends_other (Some (kind.Sign, t)) u e = absurd (cc)
ends_other (Some (kind.Remark, t)) u e = (refl, refl)

nothing_there : (o : Option Lexeme) → o ≡ None → None5 o
nothing_there o e = (rw e refl, rw e refl, rw e refl, rw e refl, rw e refl)

nothing_other : (o : Option Lexeme) → o ≡ None → (passing connective_of o ≡ None) × (passing (of_numeral line_number_of_text) o ≡ None)
nothing_other o e = (rw e refl, rw e refl)

none_by : {A B : Type 0} (o : Option A) (f : A → Option B) → o ≡ None → IsSome (o >>= f) → ⊥
none_by o f e h = let g = rw e at h in absurd (cc)

none_is : {A : Type 0} (o : Option A) → o ≡ None → IsSome o → ⊥
none_is o e h = let g = rw e at h in absurd (cc)

module _ (tokens : List Lexeme) (n : ℕ) where
  -- no mark, numeral, quoted text, name or TAB ends a statement
  pub ends_at : Ends tokens n → (mark tokens n ≡ None) × (numeral tokens n ≡ None) × (quoted tokens n ≡ None) × (any_name tokens n ≡ None) × (spells (codes "TAB") tokens n ≡ None)
  unfolding ending mark numeral quoted any_name spells element_at
  ends_at (inl past) = nothing_there (slice_get tokens n) (slice_get_past tokens n past)
  ends_at (inr h) = let u = value_of (passing ending_of (slice_get tokens n)) h in ends_kind (slice_get tokens n) u.0 u.1

  -- and no word that joins conditions, and no line number
  pub ends_otherwise : Ends tokens n → (connective tokens n ≡ None) × (line_number tokens n ≡ None)
  unfolding ending connective line_number element_at
  ends_otherwise (inl past) = nothing_other (slice_get tokens n) (slice_get_past tokens n past)
  ends_otherwise (inr h) = let u = value_of (passing ending_of (slice_get tokens n)) h in ends_other (slice_get tokens n) u.0 u.1

  pub mark_ends : {A : Type 0} (f : Mark → Option A) → Ends tokens n → IsSome (at_mark f tokens n) → ⊥
  mark_ends f ends h = none_by (mark tokens n) f (ends_at ends).0 h

  pub tab_ends : Ends tokens n → IsSome (spells (codes "TAB") tokens n) → ⊥
  tab_ends ends h = none_is (spells (codes "TAB") tokens n) (ends_at ends).4 h

  pub front_ends : Ends tokens n → Front tokens n → ⊥
  front_ends ends (inl h) = mark_ends sign_of ends h
  front_ends ends (inr (inl h)) = mark_ends opening ends h
  front_ends ends (inr (inr (inl h))) = none_is (numeral tokens n) (ends_at ends).1 h
  front_ends ends (inr (inr (inr (inl h)))) = none_is (quoted tokens n) (ends_at ends).2 h
  front_ends ends (inr (inr (inr (inr h)))) = none_is (any_name tokens n) (ends_at ends).3 h

  pub expr_ends : Ends tokens n → GoesExpr tokens n → ⊥
  expr_ends ends g = let x = goes_mark tokens n g in let none = (ends_at ends).0 in let some = x.1 in absurd (cc)

pub list_ends : (tokens : List Lexeme) (n : ℕ) → Ends tokens n → GoesList tokens n → ⊥
list_ends tokens n ends (inl g) = expr_ends tokens n ends g
list_ends tokens n ends (inr h) = mark_ends tokens n comma ends h
