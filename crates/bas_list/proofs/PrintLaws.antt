-- The reader of print lists takes the longest.
use Rattle.std.proofs.Common.{◌≡◌, ℕ, ◌+◌, ◌<◌, ◌≤◌, ◌⊎◌, inl, inr, Bool, true, false, List, length, Option, Some, None, IsSome, slice_get, codes, refl, arith}
use Rattle.std.specs.Str.{str_eq_ignore_ascii_case}
use Rattle.bas_base.specs.Names.{is_name}
use Rattle.bas_form.specs.Form.{Optional, Built}
use Rattle.bas_form.specs.Element.{element_at, passing}
use Rattle.bas_form.specs.Reader.{◌>>=◌, optional, ReadsLongest, Begins}
use Rattle.bas_form.proofs.ElementLaws.{element_inside}
use Rattle.bas_form.proofs.ReaderLaws.{some_is, value_of, built_longest, optional_longest, either_longest, weaker, begun}
use Rattle.bas_form.proofs.SequenceLaws.{then_longest}
use Rattle.bas_form.proofs.RepetitionLaws.{repeating_longest}
use Rattle.bas_token.specs.declared.token.TokenKind.TheVariants as kind
use Rattle.bas_ast.specs.declared.expression.Expr.{Expr}
use Rattle.bas_ast.specs.declared.statement.Sep.{Sep}
use Rattle.bas_ast.specs.declared.statement.Pitem.{Pitem}
use Rattle.bas_ast.specs.declared.statement.Pitem.TheVariants as pitem
use Rattle.bas_expr.specs.declared.mark.Mark.{Mark}
use Rattle.bas_expr.specs.declared.mark.Mark.TheVariants as m
use Rattle.bas_expr.specs.Lexemes.{Lexeme}
use Rattle.bas_expr.specs.Marks.{mark_of, mark, at_mark, opening, closing, caret, sign_of, term_sign_of, factor_sign_of}
use Rattle.bas_expr.specs.Words.{name_of_text, name_of, any_name, numeral_of_lexeme, numeral, quoted_of, quoted}
use Rattle.bas_expr.specs.Separated.{Behind}
use Rattle.bas_expr.specs.Grammar.{Parenthesized}
use Rattle.bas_expr.specs.Reading.{GoesExpr}
use Rattle.bas_expr.proofs.MarkLaws.{stops, numeral_first, quoted_first, name_first}
use Rattle.bas_expr.proofs.SeparatedLaws.{behind_longest, separator_first}
use Rattle.bas_expr.proofs.ExpressionLaws.{expr_longest}
use Rattle.bas_expr.specs.declared.TheConstants.{LEVELS}
use Rattle.bas_declaration.specs.Keywords.{spelling, spells}
use Rattle.bas_declaration.specs.Parts.{E}
use Rattle.bas_declaration.proofs.PartLaws.{enclosed_longest, an_expr}
use Rattle.bas_declaration.proofs.WordLaws.{same_word_is, mark_longest}
use Rattle.bas_list.specs.declared.TheConstants.{INNER_LEVELS}
use Rattle.bas_list.specs.Words.{separator_of, Ends}
use Rattle.bas_list.specs.Lists.{Inner, IsPitem, IsNext, IsPlist, plist_of}
use Rattle.bas_list.specs.Reading.{enclosed_expr, tab_item, print_item, next_item, print_list, GoesPrint}
use Rattle.bas_list.proofs.FrontLaws.{Front, expr_front}
use Rattle.bas_list.proofs.EndLaws.{other_word, mark_ends, tab_ends, front_ends, expr_ends}

pub one_and_none : 1 ≤ 1 + 0
one_and_none = omega arith

one : 1 ≤ 1
one = omega arith

-- ---- no separator stands where an expression begins or may go on

past_opening : (o : Option Mark) → IsSome (o >>= opening) → (o >>= separator_of) ≡ None
past_opening (Some m.Opening) h = refl
past_opening _ h = absurd (cc)

past_caret : (o : Option Mark) → IsSome (o >>= caret) → (o >>= separator_of) ≡ None
past_caret (Some m.Caret) h = refl
past_caret _ h = absurd (cc)

past_factor : (o : Option Mark) → IsSome (o >>= factor_sign_of) → (o >>= separator_of) ≡ None
past_factor (Some m.Asterisk) h = refl
past_factor (Some m.Slash) h = refl
past_factor _ h = absurd (cc)

past_term : (o : Option Mark) → IsSome (o >>= term_sign_of) → (o >>= separator_of) ≡ None
past_term (Some m.Plus) h = refl
past_term (Some m.Minus) h = refl
past_term (Some m.Ampersand) h = refl
past_term _ h = absurd (cc)

past_sign : (o : Option Mark) → IsSome (o >>= sign_of) → (o >>= separator_of) ≡ None
past_sign (Some m.Plus) h = refl
past_sign (Some m.Minus) h = refl
past_sign _ h = absurd (cc)

-- ---- TAB is no other token that an item begins with

tab_no_name : (t : List ℕ) (i : Bool) → is_name t ≡ i → str_eq_ignore_ascii_case t (codes "TAB") ≡ true → name_of_text t ≡ None
tab_no_name t true ei e =
    let n = other_word (codes "TAB") (codes "NOT") t e refl in
    let l = other_word (codes "TAB") (codes "ELSE") t e refl in
    let p = other_word (codes "TAB") (codes "PRINT") t e refl in
    let r = other_word (codes "TAB") (codes "REM") t e refl in
    rw (ei, n, l, p, r, e) refl
tab_no_name t false ei e = rw ei refl

tab_kind : (o : Option Lexeme) (u : Unit {0}) → passing (spelling (codes "TAB")) o ≡ Some u → (passing mark_of o ≡ None) × (passing numeral_of_lexeme o ≡ None) × (passing quoted_of o ≡ None) × (passing name_of o ≡ None)
tab_kind None u e = absurd (cc)
tab_kind (Some (kind.Word, t)) u e = (refl, refl, refl, tab_no_name t (is_name t) refl (same_word_is (codes "TAB") t u e))
tab_kind (Some (kind.Numeral, t)) u e = absurd (cc)
tab_kind (Some (kind.Quoted, t)) u e = absurd (cc)
tab_kind (Some (kind.Sign, t)) u e = absurd (cc)
tab_kind (Some (kind.Remark, t)) u e = absurd (cc)

none_by : {A B : Type 0} (o : Option A) (f : A → Option B) → o ≡ None → (o >>= f) ≡ None
none_by o f e = rw e refl

no_some : {A B : Type 0} (o : Option A) (f : A → Option B) → o ≡ None → IsSome (o >>= f) → ⊥
no_some o f e h = let g = rw e at h in absurd (cc)

no_value : {A : Type 0} (o : Option A) → o ≡ None → IsSome o → ⊥
no_value o e h = let g = rw e at h in absurd (cc)

module _ (tokens : List Lexeme) where
  tab_inside : (at : ℕ) (u : Unit {0}) → spells (codes "TAB") tokens at ≡ Some u → at < length tokens
  unfolding spells
  tab_inside at u e = element_inside (spelling (codes "TAB")) tokens at u e

  module _ (n : ℕ) where
    tab_first : (u : Unit {0}) → spells (codes "TAB") tokens n ≡ Some u → (mark tokens n ≡ None) × (numeral tokens n ≡ None) × (quoted tokens n ≡ None) × (any_name tokens n ≡ None)
    unfolding spells mark numeral quoted any_name element_at
    tab_first u e = tab_kind (slice_get tokens n) u e

    tab_no_front : (u : Unit {0}) → spells (codes "TAB") tokens n ≡ Some u → Front tokens n → ⊥
    tab_no_front u e (inl h) = no_some (mark tokens n) sign_of (tab_first u e).0 h
    tab_no_front u e (inr (inl h)) = no_some (mark tokens n) opening (tab_first u e).0 h
    tab_no_front u e (inr (inr (inl h))) = no_value (numeral tokens n) (tab_first u e).1 h
    tab_no_front u e (inr (inr (inr (inl h)))) = no_value (quoted tokens n) (tab_first u e).2 h
    tab_no_front u e (inr (inr (inr (inr h)))) = no_value (any_name tokens n) (tab_first u e).3 h

    pub past_expr : GoesExpr tokens n → at_mark separator_of tokens n ≡ None
    past_expr (inl (inl (inl h))) = past_opening (mark tokens n) h
    past_expr (inl (inl (inr h))) = past_caret (mark tokens n) h
    past_expr (inl (inr h)) = past_factor (mark tokens n) h
    past_expr (inr h) = past_term (mark tokens n) h

    -- no mark of a numeral, a quoted text and a name is asked for
    pub front_mark : {A : Type 0} (f : Mark → Option A) → (IsSome (at_mark sign_of tokens n) → at_mark f tokens n ≡ None) → (IsSome (at_mark opening tokens n) → at_mark f tokens n ≡ None) → Front tokens n → at_mark f tokens n ≡ None
    front_mark f sign paren (inl h) = sign h
    front_mark f sign paren (inr (inl h)) = paren h
    front_mark f sign paren (inr (inr (inl h))) = let v = value_of (numeral tokens n) h in none_by (mark tokens n) f (numeral_first tokens n v.0 v.1).0.0
    front_mark f sign paren (inr (inr (inr (inl h)))) = let v = value_of (quoted tokens n) h in none_by (mark tokens n) f (quoted_first tokens n v.0 v.1).0.0
    front_mark f sign paren (inr (inr (inr (inr h)))) = let v = value_of (any_name tokens n) h in none_by (mark tokens n) f (name_first tokens n v.0 v.1).0.0

    pub before_expr : Front tokens n → at_mark separator_of tokens n ≡ None
    before_expr h = front_mark separator_of (past_sign (mark tokens n)) (past_opening (mark tokens n)) h

    before_tab : (u : Unit {0}) → spells (codes "TAB") tokens n ≡ Some u → at_mark separator_of tokens n ≡ None
    before_tab u e = none_by (mark tokens n) separator_of (tab_first u e).0

  -- ---- items

  not_closed : (n : ℕ) → GoesExpr tokens n → (u : Unit {0}) → at_mark closing tokens n ≡ Some u → ⊥
  not_closed n g u e = let f = (stops tokens n g).2 in absurd (cc)

  enclosed_expr_longest : ReadsLongest (length tokens) 3 (Parenthesized tokens (Inner tokens)) (λ _. ⊥) (enclosed_expr tokens)
  unfolding enclosed_expr
  enclosed_expr_longest = weaker (enclosed_longest tokens (expr_longest tokens INNER_LEVELS) not_closed) (λ _. ⊥) 3 (λ n z. z) (omega arith)

  tab_item_longest : ReadsLongest (length tokens) (1 + 3) (Behind (spells (codes "TAB") tokens) (Parenthesized tokens (Inner tokens))) (λ _. ⊥) (tab_item tokens)
  unfolding tab_item
  tab_item_longest = behind_longest (spells (codes "TAB") tokens) tab_inside enclosed_expr_longest (λ n z. absurd z)

  tab_stands : (n : ℕ) (b : Expr) (k : ℕ) → Behind (spells (codes "TAB") tokens) (Parenthesized tokens (Inner tokens)) n b k → IsSome (spells (codes "TAB") tokens n)
  tab_stands n b k h = separator_first (spells (codes "TAB") tokens) tab_inside enclosed_expr_longest (λ n z. absurd z) n b k h

  item_apart : (n : ℕ) (a : Pitem) (i : ℕ) → Built pitem.Expr (E tokens) n a i → (b : Pitem) (j : ℕ) → Built pitem.Tab (Behind (spells (codes "TAB") tokens) (Parenthesized tokens (Inner tokens))) n b j → ⊥
  item_apart n a i h b j q =
      let t = value_of (spells (codes "TAB") tokens n) (tab_stands n q.0 j q.2) in
      tab_no_front n t.0 t.1 (expr_front tokens LEVELS n h.0 i h.2)

  pub item_longest : ReadsLongest (length tokens) 1 (IsPitem tokens) (GoesExpr tokens) (print_item tokens)
  unfolding print_item
  item_longest = weaker (either_longest (built_longest pitem.Expr (an_expr tokens)) (weaker (built_longest pitem.Tab tab_item_longest) (GoesExpr tokens) 1 (λ n z. absurd z) (omega arith)) item_apart)
      (GoesExpr tokens) 1 (λ n g. elim g as (λ _. GoesExpr tokens n) [ inl d ↦ d | inr d ↦ d ]) (omega arith)

  -- what stands where an item begins
  pub item_starts : (n : ℕ) (b : Pitem) (k : ℕ) → IsPitem tokens n b k → Front tokens n ⊎ IsSome (spells (codes "TAB") tokens n)
  item_starts n b k (inl h) = inl (expr_front tokens LEVELS n h.0 k h.2)
  item_starts n b k (inr h) = inr (tab_stands n h.0 k h.2)

  start_no_separator : (n : ℕ) → (Front tokens n ⊎ IsSome (spells (codes "TAB") tokens n)) → at_mark separator_of tokens n ≡ None
  start_no_separator n (inl h) = before_expr n h
  start_no_separator n (inr h) = let t = value_of (spells (codes "TAB") tokens n) h in before_tab n t.0 t.1

  -- where an item or nothing may go on
  abbrev GoesItem : ℕ → Type 0
  GoesItem n = GoesExpr tokens n ⊎ Begins (print_item tokens) n

  perhaps_item_longest : ReadsLongest (length tokens) 0 (Optional (IsPitem tokens)) GoesItem (optional (print_item tokens))
  perhaps_item_longest = optional_longest item_longest one

  begins_starts : (n : ℕ) → Begins (print_item tokens) n → Front tokens n ⊎ IsSome (spells (codes "TAB") tokens n)
  begins_starts n h = let b = begun item_longest n h in item_starts n b.0 b.1 b.2

  item_no_separator : (n : ℕ) → GoesItem n → at_mark separator_of tokens n ≡ None
  item_no_separator n (inl g) = past_expr n g
  item_no_separator n (inr h) = start_no_separator n (begins_starts n h)

  -- ---- lists

  pub next_item_longest : ReadsLongest (length tokens) (1 + 0) (IsNext tokens) GoesItem (next_item tokens)
  unfolding next_item
  next_item_longest = then_longest (mark_longest tokens separator_of) perhaps_item_longest (λ n z b k h. z)

  before_next : (n : ℕ) → GoesItem n → (b : Sep × Option Pitem) (k : ℕ) → IsNext tokens n b k → ⊥
  before_next n g b k h = let none = item_no_separator n g in let some = h.1.0 in absurd (cc)

  next_begins : (n : ℕ) → Begins (next_item tokens) n → IsSome (at_mark separator_of tokens n)
  next_begins n h = let b = begun next_item_longest n h in some_is b.2.1.0

  goes_print : (n : ℕ) → (GoesItem n ⊎ (GoesItem n ⊎ Begins (next_item tokens) n)) → GoesPrint tokens n
  goes_print n (inl (inl g)) = inl g
  goes_print n (inl (inr h)) = inr (inr h)
  goes_print n (inr (inl (inl g))) = inl g
  goes_print n (inr (inl (inr h))) = inr (inr h)
  goes_print n (inr (inr h)) = inr (inl (next_begins n h))

  pub print_list_longest : ReadsLongest (length tokens) 0 (IsPlist tokens) (GoesPrint tokens) (print_list tokens)
  unfolding print_list
  print_list_longest = weaker (built_longest plist_of (repeating_longest perhaps_item_longest next_item_longest one_and_none before_next before_next)) (GoesPrint tokens) 0 goes_print (omega arith)

  start_ends : (n : ℕ) → Ends tokens n → (Front tokens n ⊎ IsSome (spells (codes "TAB") tokens n)) → ⊥
  start_ends n ends (inl h) = front_ends tokens n ends h
  start_ends n ends (inr h) = tab_ends tokens n ends h

  -- no print list goes on where a statement may end
  pub print_ends : (n : ℕ) → Ends tokens n → GoesPrint tokens n → ⊥
  print_ends n ends (inl g) = expr_ends tokens n ends g
  print_ends n ends (inr (inl h)) = mark_ends tokens n separator_of ends h
  print_ends n ends (inr (inr h)) = start_ends n ends (begins_starts n h)
