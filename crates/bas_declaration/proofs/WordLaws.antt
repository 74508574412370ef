-- What stands at a place: of words, marks, numerals and quoted texts one at most.
use Rattle.std.proofs.Common.{◌≡◌, ℕ, ◌<◌, inl, inr, Bool, true, false, List, length, Option, Some, None, IsSome, slice_get, refl, ap, ◌∙◌}
use Rattle.std.specs.Str.{str_eq_ignore_ascii_case, str_to_ascii_lowercase}
use Rattle.std.proofs.lemmas.Slice.Eq.{bytes_eq-Decides}
use Rattle.bas_form.specs.Form.{Terminal}
use Rattle.bas_form.specs.Element.{element_at, passing}
use Rattle.bas_form.specs.Reader.{◌>>=◌, terminal, ReadsLongest, Begins}
use Rattle.bas_form.proofs.ElementLaws.{element_inside, element_from}
use Rattle.bas_form.proofs.ReaderLaws.{bound, some_is, terminal_longest, begun}
use Rattle.bas_token.specs.declared.token.TokenKind.TheVariants as kind
use Rattle.bas_ast.specs.declared.expression.Numeral.{Numeral}
use Rattle.bas_expr.specs.declared.mark.Mark.{Mark}
use Rattle.bas_expr.specs.declared.word.Connective.{Connective}
use Rattle.bas_expr.specs.Lexemes.{Lexeme}
use Rattle.bas_expr.specs.Marks.{mark_of, mark, at_mark}
use Rattle.bas_expr.specs.Words.{numeral_of_lexeme, numeral, quoted_of, quoted, connective_of, connective, and_by, or_by}
use Rattle.bas_expr.specs.Reading.{GoesExpr}
use Rattle.bas_expr.specs.Testing.{GoesCond}
use Rattle.bas_expr.proofs.MarkLaws.{goes_mark, mark_inside, is_connective}
use Rattle.bas_declaration.specs.declared.keyword.Keyword.{Keyword}
use Rattle.bas_declaration.specs.declared.keyword.Keyword.TheVariants as k
use Rattle.bas_declaration.specs.Keywords.{keyword_of, keyword, at_word, same_word, spelling, spells, is_word, else_word, in_word, use_word}
use Rattle.bas_declaration.specs.Digits.{of_numeral, digits_of_text, digits}
use Rattle.bas_declaration.specs.Reading.{GoesLine}

-- ---- by the kind

mark_kind : (o : Option Lexeme) (x : Mark) → passing mark_of o ≡ Some x → passing keyword_of o ≡ None
mark_kind None x e = absurd (cc)
mark_kind (Some (kind.Word, t)) x e = absurd (cc)
mark_kind (Some (kind.Numeral, t)) x e = absurd (cc)
mark_kind (Some (kind.Quoted, t)) x e = absurd (cc)
mark_kind (Some (kind.Sign, t)) x e = refl
mark_kind (Some (kind.Remark, t)) x e = absurd (cc)

numeral_kind : (o : Option Lexeme) (x : Numeral) → passing numeral_of_lexeme o ≡ Some x → passing keyword_of o ≡ None
numeral_kind None x e = absurd (cc)
numeral_kind (Some (kind.Word, t)) x e = absurd (cc)
numeral_kind (Some (kind.Numeral, t)) x e = refl
numeral_kind (Some (kind.Quoted, t)) x e = absurd (cc)
numeral_kind (Some (kind.Sign, t)) x e = absurd (cc)
numeral_kind (Some (kind.Remark, t)) x e = absurd (cc)

quoted_kind : (o : Option Lexeme) (x : List ℕ) → passing quoted_of o ≡ Some x → passing keyword_of o ≡ None
quoted_kind None x e = absurd (cc)
quoted_kind (Some (kind.Word, t)) x e = absurd (cc)
quoted_kind (Some (kind.Numeral, t)) x e = absurd (cc)
quoted_kind (Some (kind.Quoted, t)) x e = refl
quoted_kind (Some (kind.Sign, t)) x e = absurd (cc)
quoted_kind (Some (kind.Remark, t)) x e = absurd (cc)

connective_kind : (o : Option Lexeme) (x : Connective) → passing connective_of o ≡ Some x → passing keyword_of o ≡ None
connective_kind None x e = absurd (cc)
connective_kind (Some (kind.Word, t)) x e = rw e refl
connective_kind (Some (kind.Numeral, t)) x e = absurd (cc)
connective_kind (Some (kind.Quoted, t)) x e = absurd (cc)
connective_kind (Some (kind.Sign, t)) x e = absurd (cc)
connective_kind (Some (kind.Remark, t)) x e = absurd (cc)

pub read_kind : {A : Type 0} (read : List ℕ → Option A) (o : Option Lexeme) (x : A) → passing (of_numeral read) o ≡ Some x → (passing mark_of o ≡ None) × (passing keyword_of o ≡ None)
read_kind read None x e = absurd (cc)
read_kind read (Some (kind.Word, t)) x e = absurd (cc)
read_kind read (Some (kind.Numeral, t)) x e = (refl, refl)
read_kind read (Some (kind.Quoted, t)) x e = absurd (cc)
read_kind read (Some (kind.Sign, t)) x e = absurd (cc)
read_kind read (Some (kind.Remark, t)) x e = absurd (cc)

mark_spelling : (wanted : List ℕ) (o : Option Lexeme) (x : Mark) → passing mark_of o ≡ Some x → passing (spelling wanted) o ≡ None
mark_spelling wanted None x e = absurd (cc)
mark_spelling wanted (Some (kind.Word, t)) x e = absurd (cc)
mark_spelling wanted (Some (kind.Numeral, t)) x e = absurd (cc)
mark_spelling wanted (Some (kind.Quoted, t)) x e = absurd (cc)
mark_spelling wanted (Some (kind.Sign, t)) x e = refl
mark_spelling wanted (Some (kind.Remark, t)) x e = absurd (cc)

-- ---- by the text

pub same_word_is : (wanted text : List ℕ) (u : Unit {0}) → same_word wanted text ≡ Some u → str_eq_ignore_ascii_case text wanted ≡ true
same_word_is wanted text u e = by_value (str_eq_ignore_ascii_case text wanted) refl
  where
    by_value : (b : Bool) → str_eq_ignore_ascii_case text wanted ≡ b → str_eq_ignore_ascii_case text wanted ≡ true
    by_value true eb = eb
    by_value false eb = let f = rw eb at e in absurd (cc)

pub lowered : (wanted text : List ℕ) → str_eq_ignore_ascii_case text wanted ≡ true → str_to_ascii_lowercase text ≡ str_to_ascii_lowercase wanted
lowered wanted text e = (bytes_eq-Decides (str_to_ascii_lowercase text) (str_to_ascii_lowercase wanted)).0 e

spelling_kind : (wanted : List ℕ) (token : Lexeme) (u : Unit {0}) → spelling wanted token ≡ Some u → (text : List ℕ) × (token ≡ (kind.Word, text)) × (str_eq_ignore_ascii_case text wanted ≡ true)
spelling_kind wanted (kind.Word, text) u e = (text, refl, same_word_is wanted text u e)
spelling_kind wanted (kind.Numeral, text) u e = absurd (cc)
spelling_kind wanted (kind.Quoted, text) u e = absurd (cc)
spelling_kind wanted (kind.Sign, text) u e = absurd (cc)
spelling_kind wanted (kind.Remark, text) u e = absurd (cc)

none_by : {A B : Type 0} (o : Option A) (f : A → Option B) → o ≡ None → (o >>= f) ≡ None
none_by o f e = rw e refl

some_by : {A B : Type 0} (o : Option A) (f : A → Option B) → IsSome (o >>= f) → (x : A) × (o ≡ Some x)
some_by None f h = absurd (cc)
some_by (Some x) f h = (x, refl)

pub is_no_else : (o : Option Keyword) (u : Unit {0}) → (o >>= is_word) ≡ Some u → (o >>= else_word) ≡ None
is_no_else (Some k.Is) u e = refl
is_no_else _ u e = absurd (cc)

pub in_no_use : (o : Option Keyword) (u v : Unit {0}) → (o >>= in_word) ≡ Some u → (o >>= use_word) ≡ Some v → ⊥
in_no_use (Some k.In) u v a b = absurd (cc)
in_no_use _ u v a b = absurd (cc)

module _ (tokens : List Lexeme) where
  pub keyword_inside : (at : ℕ) (x : Keyword) → keyword tokens at ≡ Some x → at < length tokens
  unfolding keyword
  keyword_inside at x e = element_inside keyword_of tokens at x e

  pub word_inside : {A : Type 0} (test : Keyword → Option A) (at : ℕ) (a : A) → at_word test tokens at ≡ Some a → at < length tokens
  word_inside test at a e = let b = bound (keyword tokens at) test a e in keyword_inside at b.0 b.1

  pub spells_inside : (wanted : List ℕ) (at : ℕ) (u : Unit {0}) → spells wanted tokens at ≡ Some u → at < length tokens
  unfolding spells
  spells_inside wanted at u e = element_inside (spelling wanted) tokens at u e

  -- the token at a place that spells a word
  pub spells_stands : (wanted : List ℕ) (at : ℕ) (u : Unit {0}) → spells wanted tokens at ≡ Some u → (text : List ℕ) × (slice_get tokens at ≡ Some (kind.Word, text)) × (str_eq_ignore_ascii_case text wanted ≡ true)
  unfolding spells
  spells_stands wanted at u e =
      let x = element_from (spelling wanted) tokens at u e in
      let w = spelling_kind wanted x.0 u x.2 in
      (w.0, x.1 ∙ ap (λ t. Some t) w.1, w.2)

  pub digits_inside : (at : ℕ) (x : ℕ) → digits tokens at ≡ Some x → at < length tokens
  unfolding digits
  digits_inside at x e = element_inside (of_numeral digits_of_text) tokens at x e

  module _ (at : ℕ) where
    pub at_a_mark : (x : Mark) → mark tokens at ≡ Some x → keyword tokens at ≡ None
    unfolding mark keyword element_at
    at_a_mark x e = mark_kind (slice_get tokens at) x e

    pub mark_no_spells : (wanted : List ℕ) (x : Mark) → mark tokens at ≡ Some x → spells wanted tokens at ≡ None
    unfolding mark spells element_at
    mark_no_spells wanted x e = mark_spelling wanted (slice_get tokens at) x e

    pub at_numeral : (x : Numeral) → numeral tokens at ≡ Some x → keyword tokens at ≡ None
    unfolding numeral keyword element_at
    at_numeral x e = numeral_kind (slice_get tokens at) x e

    pub at_quoted : (x : List ℕ) → quoted tokens at ≡ Some x → keyword tokens at ≡ None
    unfolding quoted keyword element_at
    at_quoted x e = quoted_kind (slice_get tokens at) x e

    pub at_connective : (x : Connective) → connective tokens at ≡ Some x → keyword tokens at ≡ None
    unfolding connective keyword element_at
    at_connective x e = connective_kind (slice_get tokens at) x e

    pub digits_first : (x : ℕ) → digits tokens at ≡ Some x → (mark tokens at ≡ None) × (keyword tokens at ≡ None)
    unfolding digits mark keyword element_at
    digits_first x e = read_kind digits_of_text (slice_get tokens at) x e

    pub at_some_mark : {A : Type 0} (f : Mark → Option A) → IsSome (at_mark f tokens at) → keyword tokens at ≡ None
    at_some_mark f h = let x = some_by (mark tokens at) f h in at_a_mark x.0 x.1

    -- no word stands where an expression goes on
    pub past_expr : GoesExpr tokens at → keyword tokens at ≡ None
    past_expr g = let x = goes_mark tokens at g in at_a_mark x.0 x.1

    and_stands : IsSome (and_by (connective tokens at)) → (c : Connective) × (connective tokens at ≡ Some c)
    and_stands h = is_connective tokens at and_by refl h

    or_stands : IsSome (or_by (connective tokens at)) → (c : Connective) × (connective tokens at ≡ Some c)
    or_stands h = is_connective tokens at or_by refl h

    -- and none where a condition goes on
    pub past_cond : GoesCond tokens at → keyword tokens at ≡ None
    past_cond (inl (inl g)) = past_expr g
    past_cond (inl (inr h)) = let c = and_stands h in at_connective c.0 c.1
    past_cond (inr h) = let c = or_stands h in at_connective c.0 c.1

    pub no_word : {A : Type 0} (test : Keyword → Option A) → keyword tokens at ≡ None → at_word test tokens at ≡ None
    no_word test e = none_by (keyword tokens at) test e

    pub some_word : {A : Type 0} (test : Keyword → Option A) → IsSome (at_word test tokens at) → IsSome (keyword tokens at)
    some_word test h = let x = some_by (keyword tokens at) test h in some_is x.1

    -- ---- a part that may go on there is one behind which the line may

    pub line_expr : GoesExpr tokens at → GoesLine tokens at
    line_expr g = let x = goes_mark tokens at g in inl (some_is x.1)

    pub line_mark : {A : Type 0} (f : Mark → Option A) → IsSome (at_mark f tokens at) → GoesLine tokens at
    line_mark f h = let x = some_by (mark tokens at) f h in inl (some_is x.1)

    pub line_word : {A : Type 0} (test : Keyword → Option A) → IsSome (at_word test tokens at) → GoesLine tokens at
    line_word test h = inr (inl (some_word test h))

    pub line_cond : GoesCond tokens at → GoesLine tokens at
    line_cond (inl (inl g)) = line_expr g
    line_cond (inl (inr h)) = let c = and_stands h in inr (inr (some_is c.1))
    line_cond (inr h) = let c = or_stands h in inr (inr (some_is c.1))

    marked_word : (o : Option Mark) → mark tokens at ≡ o → IsSome (keyword tokens at) → mark tokens at ≡ None
    marked_word None e h = e
    marked_word (Some x) e h = let f = at_a_mark x e in let z = rw f at h in absurd (cc)

    pub word_no_mark : {A : Type 0} (f : Mark → Option A) → IsSome (keyword tokens at) → at_mark f tokens at ≡ None
    word_no_mark f h = none_by (mark tokens at) f (marked_word (mark tokens at) refl h)

  -- ---- single tokens

  pub lead_longest : ReadsLongest (length tokens) 1 (Terminal (keyword tokens)) (λ _. ⊥) (terminal (keyword tokens))
  lead_longest = terminal_longest (length tokens) (keyword tokens) keyword_inside

  pub word_longest : {A : Type 0} (test : Keyword → Option A) → ReadsLongest (length tokens) 1 (Terminal (at_word test tokens)) (λ _. ⊥) (terminal (at_word test tokens))
  word_longest test = terminal_longest (length tokens) (at_word test tokens) (word_inside test)

  pub mark_longest : {A : Type 0} (f : Mark → Option A) → ReadsLongest (length tokens) 1 (Terminal (at_mark f tokens)) (λ _. ⊥) (terminal (at_mark f tokens))
  mark_longest f = terminal_longest (length tokens) (at_mark f tokens) (mark_inside tokens f)

-- where a token is read it stands
pub token_stands : {A : Type 0} (len : ℕ) (element : ℕ → Option A) → ((n : ℕ) (a : A) → element n ≡ Some a → n < len) → (n : ℕ) → Begins (terminal element) n → IsSome (element n)
token_stands len element inside n h = let b = begun (terminal_longest len element inside) n h in some_is b.2.0
