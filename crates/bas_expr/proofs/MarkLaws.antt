-- What stands at a place: of marks, words, numerals and quoted texts one at most.
use Rattle.std.proofs.Common.{◌≡◌, ℕ, ◌<◌, inl, inr, Bool, true, false, List, length, Option, Some, None, IsSome, slice_get, codes, refl, arith}
use Rattle.std.specs.Str.{str_eq_ignore_ascii_case}
use Rattle.bas_form.specs.Element.{element_at, passing}
use Rattle.bas_form.specs.Reader.{◌>>=◌}
use Rattle.bas_form.proofs.ElementLaws.{element_inside}
use Rattle.bas_form.proofs.ReaderLaws.{bound}
use Rattle.bas_token.specs.declared.token.TokenKind.TheVariants as kind
use Rattle.bas_ast.specs.declared.expression.Numeral.{Numeral}
use Rattle.bas_expr.specs.declared.mark.Mark.{Mark}
use Rattle.bas_expr.specs.declared.mark.Mark.TheVariants as m
use Rattle.bas_expr.specs.declared.word.Connective.{Connective}
use Rattle.bas_expr.specs.Lexemes.{Lexeme}
use Rattle.bas_expr.specs.Marks.{mark_of, mark, at_mark, opening, closing, comma, colon, hash, caret, sign_of, term_sign_of, factor_sign_of, rel_of}
use Rattle.bas_ast.specs.Supplied.{is_supplied}
use Rattle.bas_expr.specs.Words.{name_of_text, name_of, any_name, unless_supplied, own_name, numeral_of_lexeme, numeral, quoted_of, quoted, connective_of_text, connective_of, connective, negation_by, negation}
use Rattle.bas_expr.specs.Reading.{Opens, GoesFactor, GoesTerm, GoesExpr}

-- ---- by the mark

-- none of these marks goes on with an expression
abbrev pub Stops : Option Mark → Type 0
Stops o = ((o >>= comma) ≡ None) × ((o >>= colon) ≡ None) × ((o >>= closing) ≡ None) × ((o >>= rel_of) ≡ None)

past_opening : (o : Option Mark) → IsSome (o >>= opening) → Stops o
past_opening (Some m.Opening) h = (refl, refl, refl, refl)
past_opening _ h = absurd (cc)

past_caret : (o : Option Mark) → IsSome (o >>= caret) → Stops o
past_caret (Some m.Caret) h = (refl, refl, refl, refl)
past_caret _ h = absurd (cc)

past_factor : (o : Option Mark) → IsSome (o >>= factor_sign_of) → Stops o
past_factor (Some m.Asterisk) h = (refl, refl, refl, refl)
past_factor (Some m.Slash) h = (refl, refl, refl, refl)
past_factor _ h = absurd (cc)

past_term : (o : Option Mark) → IsSome (o >>= term_sign_of) → Stops o
past_term (Some m.Plus) h = (refl, refl, refl, refl)
past_term (Some m.Minus) h = (refl, refl, refl, refl)
past_term (Some m.Ampersand) h = (refl, refl, refl, refl)
past_term _ h = absurd (cc)

opening_signs : (o : Option Mark) → IsSome (o >>= opening) → ((o >>= caret) ≡ None) × ((o >>= factor_sign_of) ≡ None) × ((o >>= term_sign_of) ≡ None)
opening_signs (Some m.Opening) h = (refl, refl, refl)
opening_signs _ h = absurd (cc)

caret_signs : (o : Option Mark) → IsSome (o >>= caret) → ((o >>= factor_sign_of) ≡ None) × ((o >>= term_sign_of) ≡ None)
caret_signs (Some m.Caret) h = (refl, refl)
caret_signs _ h = absurd (cc)

factor_signs : (o : Option Mark) → IsSome (o >>= factor_sign_of) → (o >>= term_sign_of) ≡ None
factor_signs (Some m.Asterisk) h = refl
factor_signs (Some m.Slash) h = refl
factor_signs _ h = absurd (cc)

opening_begins : (o : Option Mark) → IsSome (o >>= opening) → ((o >>= hash) ≡ None) × ((o >>= sign_of) ≡ None)
opening_begins (Some m.Opening) h = (refl, refl)
opening_begins _ h = absurd (cc)

sign_begins : (o : Option Mark) → IsSome (o >>= sign_of) → ((o >>= hash) ≡ None) × ((o >>= opening) ≡ None)
sign_begins (Some m.Plus) h = (refl, refl)
sign_begins (Some m.Minus) h = (refl, refl)
sign_begins _ h = absurd (cc)

comma_stops : (o : Option Mark) → IsSome (o >>= comma) → ((o >>= colon) ≡ None) × ((o >>= closing) ≡ None)
comma_stops (Some m.Comma) h = (refl, refl)
comma_stops _ h = absurd (cc)

closing_stops : (o : Option Mark) → IsSome (o >>= closing) → ((o >>= colon) ≡ None) × ((o >>= comma) ≡ None) × ((o >>= rel_of) ≡ None)
closing_stops (Some m.Closing) h = (refl, refl, refl)
closing_stops _ h = absurd (cc)

some_by : {A : Type 0} (o : Option Mark) (f : Mark → Option A) → IsSome (o >>= f) → (x : Mark) × (o ≡ Some x)
some_by None f h = absurd (cc)
some_by (Some x) f h = (x, refl)

module _ (tokens : List Lexeme) (n : ℕ) where
  pub no_caret : Opens tokens n → at_mark caret tokens n ≡ None
  no_caret h = (opening_signs (mark tokens n) h).0

  pub no_factor_sign : GoesFactor tokens n → at_mark factor_sign_of tokens n ≡ None
  no_factor_sign (inl h) = (opening_signs (mark tokens n) h).1
  no_factor_sign (inr h) = (caret_signs (mark tokens n) h).0

  pub no_term_sign : GoesTerm tokens n → at_mark term_sign_of tokens n ≡ None
  no_term_sign (inl (inl h)) = (opening_signs (mark tokens n) h).2
  no_term_sign (inl (inr h)) = (caret_signs (mark tokens n) h).1
  no_term_sign (inr h) = factor_signs (mark tokens n) h

  pub stops : GoesExpr tokens n → Stops (mark tokens n)
  stops (inl (inl (inl h))) = past_opening (mark tokens n) h
  stops (inl (inl (inr h))) = past_caret (mark tokens n) h
  stops (inl (inr h)) = past_factor (mark tokens n) h
  stops (inr h) = past_term (mark tokens n) h

  -- an expression goes on at a mark
  pub goes_mark : GoesExpr tokens n → (x : Mark) × (mark tokens n ≡ Some x)
  goes_mark (inl (inl (inl h))) = some_by (mark tokens n) opening h
  goes_mark (inl (inl (inr h))) = some_by (mark tokens n) caret h
  goes_mark (inl (inr h)) = some_by (mark tokens n) factor_sign_of h
  goes_mark (inr h) = some_by (mark tokens n) term_sign_of h

  pub at_opening : IsSome (at_mark opening tokens n) → (at_mark hash tokens n ≡ None) × (at_mark sign_of tokens n ≡ None)
  at_opening h = opening_begins (mark tokens n) h

  pub at_sign : IsSome (at_mark sign_of tokens n) → (at_mark hash tokens n ≡ None) × (at_mark opening tokens n ≡ None)
  at_sign h = sign_begins (mark tokens n) h

  pub at_comma : IsSome (at_mark comma tokens n) → (at_mark colon tokens n ≡ None) × (at_mark closing tokens n ≡ None)
  at_comma h = comma_stops (mark tokens n) h

  pub at_closing : IsSome (at_mark closing tokens n) → (at_mark colon tokens n ≡ None) × (at_mark comma tokens n ≡ None) × (at_mark rel_of tokens n ≡ None)
  at_closing h = closing_stops (mark tokens n) h

  pub is_mark : {A : Type 0} (f : Mark → Option A) → IsSome (at_mark f tokens n) → (x : Mark) × (mark tokens n ≡ Some x)
  is_mark f h = some_by (mark tokens n) f h

module _ (tokens : List Lexeme) {A : Type 0} (f : Mark → Option A) where
  mark_within : (at : ℕ) (x : Mark) → mark tokens at ≡ Some x → at < length tokens
  unfolding mark
  mark_within at x e = element_inside mark_of tokens at x e

  pub mark_inside : (at : ℕ) (a : A) → at_mark f tokens at ≡ Some a → at < length tokens
  mark_inside at a e = let b = bound (mark tokens at) f a e in mark_within at b.0 b.1

-- ---- by the kind

-- what stands there is no mark and no negation
abbrev Apart : Option Lexeme → Type 0
Apart o = (passing mark_of o ≡ None) × (negation_by (passing connective_of o) ≡ None)

numeral_kind : (o : Option Lexeme) (v : Numeral) → passing numeral_of_lexeme o ≡ Some v → Apart o × ((passing quoted_of o ≡ None) × (passing name_of o ≡ None))
numeral_kind None v e = absurd (cc)
numeral_kind (Some (kind.Word, t)) v e = absurd (cc)
numeral_kind (Some (kind.Numeral, t)) v e = ((refl, refl), (refl, refl))
numeral_kind (Some (kind.Quoted, t)) v e = absurd (cc)
numeral_kind (Some (kind.Sign, t)) v e = absurd (cc)
numeral_kind (Some (kind.Remark, t)) v e = absurd (cc)

quoted_kind : (o : Option Lexeme) (v : List ℕ) → passing quoted_of o ≡ Some v → Apart o × ((passing numeral_of_lexeme o ≡ None) × (passing name_of o ≡ None))
quoted_kind None v e = absurd (cc)
quoted_kind (Some (kind.Word, t)) v e = absurd (cc)
quoted_kind (Some (kind.Numeral, t)) v e = absurd (cc)
quoted_kind (Some (kind.Quoted, t)) v e = ((refl, refl), (refl, refl))
quoted_kind (Some (kind.Sign, t)) v e = absurd (cc)
quoted_kind (Some (kind.Remark, t)) v e = absurd (cc)

no_name_not : (t v : List ℕ) → name_of_text t ≡ Some v → str_eq_ignore_ascii_case t (codes "NOT") ≡ false
no_name_not t v e = by_value (str_eq_ignore_ascii_case t (codes "NOT")) refl
  where
    by_value : (b : Bool) → str_eq_ignore_ascii_case t (codes "NOT") ≡ b → str_eq_ignore_ascii_case t (codes "NOT") ≡ false
    by_value false eb = eb
    by_value true eb = absurd (grind arith)

negation_else : (t : List ℕ) (a o : Bool) → str_eq_ignore_ascii_case t (codes "AND") ≡ a → str_eq_ignore_ascii_case t (codes "OR") ≡ o →
    str_eq_ignore_ascii_case t (codes "NOT") ≡ false → negation_by (connective_of_text t) ≡ None
negation_else t true o ea eo en = rw (en, ea) refl
negation_else t false true ea eo en = rw (en, ea, eo) refl
negation_else t false false ea eo en = rw (en, ea, eo) refl

name_kind : (o : Option Lexeme) (v : List ℕ) → passing name_of o ≡ Some v → Apart o × ((passing numeral_of_lexeme o ≡ None) × (passing quoted_of o ≡ None))
name_kind None v e = absurd (cc)
name_kind (Some (kind.Word, t)) v e = ((refl, negation_else t _ _ refl refl (no_name_not t v e)), (refl, refl))
name_kind (Some (kind.Numeral, t)) v e = absurd (cc)
name_kind (Some (kind.Quoted, t)) v e = absurd (cc)
name_kind (Some (kind.Sign, t)) v e = absurd (cc)
name_kind (Some (kind.Remark, t)) v e = absurd (cc)

mark_kind : (o : Option Lexeme) (x : Mark) → passing mark_of o ≡ Some x → (passing connective_of o ≡ None) × (passing numeral_of_lexeme o ≡ None) × (passing quoted_of o ≡ None) × (passing name_of o ≡ None)
mark_kind None x e = absurd (cc)
mark_kind (Some (kind.Word, t)) x e = absurd (cc)
mark_kind (Some (kind.Numeral, t)) x e = absurd (cc)
mark_kind (Some (kind.Quoted, t)) x e = absurd (cc)
mark_kind (Some (kind.Sign, t)) x e = (refl, refl, refl, refl)
mark_kind (Some (kind.Remark, t)) x e = absurd (cc)

module _ (tokens : List Lexeme) (at : ℕ) where
  pub numeral_first : (v : Numeral) → numeral tokens at ≡ Some v → ((mark tokens at ≡ None) × (negation tokens at ≡ None)) × ((quoted tokens at ≡ None) × (any_name tokens at ≡ None))
  unfolding numeral mark quoted any_name connective element_at
  numeral_first v e = numeral_kind (slice_get tokens at) v e

  pub quoted_first : (v : List ℕ) → quoted tokens at ≡ Some v → ((mark tokens at ≡ None) × (negation tokens at ≡ None)) × ((numeral tokens at ≡ None) × (any_name tokens at ≡ None))
  unfolding numeral mark quoted any_name connective element_at
  quoted_first v e = quoted_kind (slice_get tokens at) v e

  pub name_first : (v : List ℕ) → any_name tokens at ≡ Some v → ((mark tokens at ≡ None) × (negation tokens at ≡ None)) × ((numeral tokens at ≡ None) × (quoted tokens at ≡ None))
  unfolding numeral mark quoted any_name connective element_at
  name_first v e = name_kind (slice_get tokens at) v e

  pub mark_first : (x : Mark) → mark tokens at ≡ Some x → (connective tokens at ≡ None) × (numeral tokens at ≡ None) × (quoted tokens at ≡ None) × (any_name tokens at ≡ None)
  unfolding numeral mark quoted any_name connective element_at
  mark_first x e = mark_kind (slice_get tokens at) x e

module _ (tokens : List Lexeme) where
  pub numeral_inside : (at : ℕ) (v : Numeral) → numeral tokens at ≡ Some v → at < length tokens
  unfolding numeral
  numeral_inside at v e = element_inside numeral_of_lexeme tokens at v e

  pub quoted_inside : (at : ℕ) (v : List ℕ) → quoted tokens at ≡ Some v → at < length tokens
  unfolding quoted
  quoted_inside at v e = element_inside quoted_of tokens at v e

  pub name_inside : (at : ℕ) (v : List ℕ) → any_name tokens at ≡ Some v → at < length tokens
  unfolding any_name
  name_inside at v e = element_inside name_of tokens at v e

  connective_inside : (at : ℕ) (c : Connective) → connective tokens at ≡ Some c → at < length tokens
  unfolding connective
  connective_inside at c e = element_inside connective_of tokens at c e

  own_by : (o : Option (List ℕ)) (b : Bool) (v : List ℕ) → ((x : List ℕ) → o ≡ Some x → is_supplied x ≡ b) → unless_supplied o ≡ Some v → (o ≡ Some v) × (is_supplied v ≡ false)
  own_by None b v h e = absurd (cc)
  own_by (Some x) true v h e = let f = rw (h x refl) at e in absurd (cc)
  own_by (Some x) false v h e =
      let s = h x refl in
      let f = rw s at e in
      let same : x ≡ v = cc in
      (f, rw (← same) s)

  own_of : (o : Option (List ℕ)) (v : List ℕ) → unless_supplied o ≡ Some v → (o ≡ Some v) × (is_supplied v ≡ false)
  own_of None v e = absurd (cc)
  own_of (Some x) v e = own_by (Some x) (is_supplied x) v (λ y d. let same : x ≡ y = cc in rw same refl) e

  -- a name that is no supplied function's
  pub own_is : (at : ℕ) (v : List ℕ) → own_name tokens at ≡ Some v → (any_name tokens at ≡ Some v) × (is_supplied v ≡ false)
  own_is at v e = own_of (any_name tokens at) v e

  pub own_from : (at : ℕ) (v : List ℕ) → any_name tokens at ≡ Some v → is_supplied v ≡ false → own_name tokens at ≡ Some v
  own_from at v e s = rw (e, s) refl

  pub own_inside : (at : ℕ) (v : List ℕ) → own_name tokens at ≡ Some v → at < length tokens
  own_inside at v e = name_inside at v (own_is at v e).0

  some_connective : (o : Option Connective) (f : Option Connective → Option (Unit {0})) → f None ≡ None → IsSome (f o) → (c : Connective) × (o ≡ Some c)
  some_connective None f z h = absurd (cc)
  some_connective (Some c) f z h = (c, refl)

  pub is_connective : (at : ℕ) (f : Option Connective → Option (Unit {0})) → f None ≡ None → IsSome (f (connective tokens at)) → (c : Connective) × (connective tokens at ≡ Some c)
  is_connective at f z h = some_connective (connective tokens at) f z h

  pub word_inside : (f : Option Connective → Option (Unit {0})) → f None ≡ None → (at : ℕ) (u : Unit {0}) → f (connective tokens at) ≡ Some u → at < length tokens
  word_inside f z at u e = let c = is_connective at f z (rw e refl) in connective_inside at c.0 c.1
