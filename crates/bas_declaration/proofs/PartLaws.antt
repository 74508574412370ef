-- The readers of the lines of constructs, procedures and units take the longest.
use Rattle.std.proofs.Common.{◌≡◌, ℕ, suc, ap, ◌-◌, ◌+◌, ◌<◌, ◌≤◌, ◌⊎◌, inl, inr, List, [], ◌∷◌, length, Option, Some, None, IsSome, refl, arith}
use Rattle.bas_form.specs.Form.{Form, Terminal, ◌then◌, Optional, Repeated, ◌or◌, Built, ◌perhaps◌}
use Rattle.bas_form.specs.Reader.{Reader, ◌>>=◌, terminal, repeated, built, ReadsLongest, Begins}
use Rattle.bas_form.proofs.ReaderLaws.{some_is, terminal_longest, optional_longest, built_longest, either_longest, dispatched_longest, no_form_longest, weaker, begun, value_of}
use Rattle.bas_form.proofs.SequenceLaws.{then_longest, perhaps_longest, between_longest}
use Rattle.bas_form.proofs.RepetitionLaws.{repeated_longest, all_on, all_end}
use Rattle.bas_ast.specs.declared.expression.Sign.{Sign}
use Rattle.bas_ast.specs.declared.expression.Numeral.{Numeral}
use Rattle.bas_ast.specs.declared.expression.Expr.{Expr}
use Rattle.bas_ast.specs.declared.condition.Rel.{Rel}
use Rattle.bas_ast.specs.declared.condition.Cond.{Cond}
use Rattle.bas_ast.specs.declared.declaration.ProcedureKind.{ProcedureKind}
use Rattle.bas_ast.specs.declared.part.Const.{Const}
use Rattle.bas_ast.specs.declared.part.Const.TheVariants as constant
use Rattle.bas_ast.specs.declared.part.Case.{Case}
use Rattle.bas_ast.specs.declared.part.Case.TheVariants as case
use Rattle.bas_ast.specs.declared.part.Formal.{Formal}
use Rattle.bas_ast.specs.declared.part.Formal.TheVariants as formal
use Rattle.bas_ast.specs.declared.part.Formals.{Formals}
use Rattle.bas_ast.specs.declared.part.Loopc.{Loopc}
use Rattle.bas_ast.specs.declared.part.Part.{Part}
use Rattle.bas_ast.specs.declared.part.Part.TheVariants as part
use Rattle.bas_expr.specs.Lexemes.{Lexeme}
use Rattle.bas_expr.specs.Marks.{mark, at_mark, comma, hash, opening, closing, sign_of, rel_of}
use Rattle.bas_expr.specs.Words.{own_name, numeral, quoted}
use Rattle.bas_expr.specs.Separated.{Behind}
use Rattle.bas_expr.specs.Grammar.{Parenthesized}
use Rattle.bas_expr.specs.Reading.{parenthesized, GoesExpr}
use Rattle.bas_expr.specs.Testing.{GoesCond}
use Rattle.bas_expr.proofs.MarkLaws.{stops, mark_inside, at_comma, numeral_first, quoted_first, numeral_inside, quoted_inside, own_inside, own_is, name_first}
use Rattle.bas_expr.proofs.SeparatedLaws.{behind_longest, separated_longest, separator_first}
use Rattle.bas_expr.proofs.ExpressionLaws.{expr_longest}
use Rattle.bas_expr.proofs.ConditionLaws.{cond_longest}
use Rattle.bas_declaration.specs.declared.keyword.Keyword.{Keyword}
use Rattle.bas_declaration.specs.declared.keyword.Keyword.TheVariants as k
use Rattle.bas_expr.specs.declared.TheConstants.{LEVELS}
use Rattle.bas_declaration.specs.Keywords.{keyword, at_word, then_word, to_word, step_word, case_word, else_word, is_word, exception_word, in_word, use_word, turn_word, procedure_word, closed_word}
use Rattle.bas_declaration.specs.Digits.{digits}
use Rattle.bas_declaration.specs.Parts.{listed_of, Listed, equals, only_equal, case_of, name_formal_of, formals_of, loopc_of, for_of, end_of, external_of, E, C, Word, Name, IsConst, IsCase, IsFormal, IsFormals, IsHeading, IsLoopc, Alone, Named, Headed, Tested, Looping, IsFor, IsSelect, IsCaseLine, IsWhen, IsExternal, IsDef, IsEnd, PartBy, IsPart}
use Rattle.bas_declaration.specs.Reading.{GoesLine, listed, e, c, word, name, loop_cond, alone, named, headed, tested, looping, step, for_line, select_line, end_line, signed_numeral, one_const, to_const, const_case, is_case, one_case, next_case, cases, row, commas, name_formal, chan_formal, one_formal, next_formal, formal_list, formals, heading, case_or_else, case_line, use_name, in_or_use, when_line, external_line, def_line, part_by, part_at}
use Rattle.bas_declaration.proofs.WordLaws.{past_expr, past_cond, no_word, line_expr, line_cond, line_word, line_mark, lead_longest, word_longest, mark_longest, token_stands, word_inside, at_some_mark, at_numeral, at_quoted, some_word, word_no_mark, is_no_else, in_no_use, digits_inside}

-- each turn of a list takes two tokens at least
pub two : 1 ≤ 1 + 1
two = omega arith

one_is : 1 ≤ 1
one_is = omega arith

-- ---- lists

module _ {A : Type 0} (tokens : List Lexeme) {least : ℕ} {F : Form A} {GoesOn : ℕ → Type 0} {f : Reader A} (is : ReadsLongest (length tokens) least F GoesOn f)
    (apart : (n : ℕ) → GoesOn n → at_mark comma tokens n ≡ None) where
  pub listed_longest : ReadsLongest (length tokens) (least + 0) (Listed tokens F) (λ n. GoesOn n ⊎ IsSome (at_mark comma tokens n)) (listed tokens f)
  listed_longest = built_longest (λ (p : A × List A). listed_of p) (separated_longest (at_mark comma tokens) (mark_inside tokens comma) is apart)

module _ (tokens : List Lexeme) where
  pub an_expr : ReadsLongest (length tokens) 1 (E tokens) (GoesExpr tokens) (e tokens)
  an_expr = expr_longest tokens LEVELS

  a_cond : ReadsLongest (length tokens) 1 (C tokens) (GoesCond tokens) (c tokens)
  a_cond = cond_longest tokens LEVELS

  pub name_longest : ReadsLongest (length tokens) 1 (Name tokens) (λ _. ⊥) (name tokens)
  name_longest = terminal_longest (length tokens) (own_name tokens) (own_inside tokens)

  -- no word stands where an expression or a condition goes on
  pub expr_before : {A : Type 0} (test : Keyword → Option A) (n : ℕ) → GoesExpr tokens n → (b : A) (m : ℕ) → Terminal (at_word test tokens) n b m → ⊥
  expr_before test n g b m h = let absent = no_word tokens n test (past_expr tokens n g) in let some = h.0 in absurd (cc)

  cond_before : {A : Type 0} (test : Keyword → Option A) (n : ℕ) → GoesCond tokens n → (b : A) (m : ℕ) → Terminal (at_word test tokens) n b m → ⊥
  cond_before test n g b m h = let absent = no_word tokens n test (past_cond tokens n g) in let some = h.0 in absurd (cc)

  -- ---- conditions

  pub tested_longest : (make : Cond → Part) → ReadsLongest (length tokens) 1 (Tested tokens make) (GoesLine tokens) (tested tokens make)
  unfolding tested
  tested_longest make = weaker (built_longest (λ (p : Keyword × (Cond × Unit {0})). make p.1.0)
      (then_longest (lead_longest tokens) (then_longest a_cond (word_longest tokens then_word) (cond_before then_word)) (λ n z b m h. z)))
      (GoesLine tokens) 1 (λ n z. absurd z) (omega arith)

  loopc_longest : ReadsLongest (length tokens) (1 + 1) (IsLoopc tokens) (GoesCond tokens) (loop_cond tokens)
  unfolding loop_cond
  loopc_longest = built_longest loopc_of (then_longest (word_longest tokens turn_word) a_cond (λ n z b m h. z))

  loop_begins : (n : ℕ) → Begins (loop_cond tokens) n → GoesLine tokens n
  loop_begins n h = let b = begun loopc_longest n h in let body = b.2.2 in line_word tokens n turn_word (some_is body.1.0)

  pub looping_longest : (make : Option Loopc → Part) → ReadsLongest (length tokens) 1 (Looping tokens make) (GoesLine tokens) (looping tokens make)
  unfolding looping
  looping_longest make = weaker (built_longest (λ (p : Keyword × Option Loopc). make p.1)
      (perhaps_longest (lead_longest tokens) loopc_longest (omega arith) (λ n z b m h. z)))
      (GoesLine tokens) 1 (λ n g. elim g as (λ _. GoesLine tokens n) [ inl z ↦ absurd z | inr (inl d) ↦ line_cond tokens n d | inr (inr d) ↦ loop_begins n d ]) (omega arith)

  -- ---- single words and names

  pub alone_longest : (x : Part) → ReadsLongest (length tokens) 1 (Alone tokens x) (GoesLine tokens) (alone tokens x)
  unfolding alone
  alone_longest x = weaker (built_longest (λ (lead : Keyword). x) (lead_longest tokens)) (GoesLine tokens) 1 (λ n z. absurd z) (omega arith)

  pub named_longest : (make : List ℕ → Part) → ReadsLongest (length tokens) 1 (Named tokens make) (GoesLine tokens) (named tokens make)
  unfolding named
  named_longest make = weaker (built_longest (λ (p : Keyword × List ℕ). make p.1) (then_longest (lead_longest tokens) name_longest (λ n z b m h. z)))
      (GoesLine tokens) 1 (λ n z. absurd z) (omega arith)

  closed_begins : (n : ℕ) → Begins (terminal (at_word closed_word tokens)) n → GoesLine tokens n
  closed_begins n h = line_word tokens n closed_word (token_stands (length tokens) (at_word closed_word tokens) (word_inside tokens closed_word) n h)

  pub end_longest : ReadsLongest (length tokens) 1 (IsEnd tokens) (GoesLine tokens) (end_line tokens)
  unfolding end_line
  end_longest = weaker (built_longest end_of (perhaps_longest (lead_longest tokens) (word_longest tokens closed_word) (omega arith) (λ n z b m h. z)))
      (GoesLine tokens) 1 (λ n g. elim g as (λ _. GoesLine tokens n) [ inl z ↦ absurd z | inr (inl z) ↦ absurd z | inr (inr d) ↦ closed_begins n d ]) (omega arith)

  -- ---- loops that count

  equals_by : (n : ℕ) (u : Unit {0}) (o : Option Rel) → at_mark rel_of tokens n ≡ o → (o >>= only_equal) ≡ Some u → n < length tokens
  equals_by n u None eo h = absurd (cc)
  equals_by n u (Some r) eo h = mark_inside tokens rel_of n r eo

  equals_longest : ReadsLongest (length tokens) 1 (Terminal (equals tokens)) (λ _. ⊥) (terminal (equals tokens))
  equals_longest = terminal_longest (length tokens) (equals tokens) (λ n u h. equals_by n u (at_mark rel_of tokens n) refl h)

  step_longest : ReadsLongest (length tokens) (1 + 1) (Behind (at_word step_word tokens) (E tokens)) (GoesExpr tokens) (step tokens)
  unfolding step
  step_longest = behind_longest (at_word step_word tokens) (word_inside tokens step_word) an_expr (λ n g. no_word tokens n step_word (past_expr tokens n g))

  step_stands : (n : ℕ) (b : Expr) (m : ℕ) → Behind (at_word step_word tokens) (E tokens) n b m → IsSome (at_word step_word tokens n)
  step_stands n b m h = separator_first (at_word step_word tokens) (word_inside tokens step_word) an_expr (λ n g. no_word tokens n step_word (past_expr tokens n g)) n b m h

  before_step : (n : ℕ) → GoesExpr tokens n → (b : Expr) (m : ℕ) → Behind (at_word step_word tokens) (E tokens) n b m → ⊥
  before_step n g b m h = let absent = no_word tokens n step_word (past_expr tokens n g) in let some = step_stands n b m h in let f = rw absent at some in absurd (cc)

  step_begins : (n : ℕ) → Begins (step tokens) n → GoesLine tokens n
  step_begins n h = let b = begun step_longest n h in line_word tokens n step_word (step_stands n b.0 b.1 b.2)

  pub for_longest : ReadsLongest (length tokens) 1 (IsFor tokens) (GoesLine tokens) (for_line tokens)
  unfolding for_line
  for_longest = weaker (built_longest for_of
      (then_longest (lead_longest tokens) (then_longest name_longest (then_longest equals_longest
      (then_longest an_expr (then_longest (word_longest tokens to_word) (perhaps_longest an_expr step_longest (omega arith) before_step)
      (λ n z b m h. z)) (λ n g b m h. expr_before to_word n g b.0 h.0 h.1)) (λ n z b m h. z)) (λ n z b m h. z)) (λ n z b m h. z)))
      (GoesLine tokens) 1 (λ n g. elim g as (λ _. GoesLine tokens n) [ inl d ↦ line_expr tokens n d | inr (inl d) ↦ line_expr tokens n d | inr (inr d) ↦ step_begins n d ]) (omega arith)

  pub select_longest : ReadsLongest (length tokens) 1 (IsSelect tokens) (GoesLine tokens) (select_line tokens)
  unfolding select_line
  select_longest = weaker (built_longest (λ (p : Keyword × (Unit {0} × Expr)). part.SelectCase p.1.1)
      (then_longest (lead_longest tokens) (then_longest (word_longest tokens case_word) an_expr (λ n z b m h. z)) (λ n z b m h. z)))
      (GoesLine tokens) 1 (λ n g. line_expr tokens n g) (omega arith)

  -- ---- what a CASE line takes

  sign_or_numeral : (n : ℕ) (s : Option Sign) (v : Numeral) (middle m : ℕ) → Optional (Terminal (at_mark sign_of tokens)) n s middle → Terminal (numeral tokens) middle v m →
      IsSome (at_mark sign_of tokens n) ⊎ IsSome (numeral tokens n)
  sign_or_numeral n None v middle m o h = let e = rw o at h.0 in inr (some_is e)
  sign_or_numeral n (Some s) v middle m o h = inl (some_is o.0)

  sign_begins : (n : ℕ) → Begins (terminal (at_mark sign_of tokens)) n → IsSome (at_mark sign_of tokens n)
  sign_begins n h = token_stands (length tokens) (at_mark sign_of tokens) (mark_inside tokens sign_of) n h

  no_sign : (n : ℕ) → mark tokens n ≡ None → IsSome (at_mark sign_of tokens n) → ⊥
  no_sign n e h = let f = rw e at h in absurd (cc)

  numeral_longest : ReadsLongest (length tokens) 1 (Terminal (numeral tokens)) (λ _. ⊥) (terminal (numeral tokens))
  numeral_longest = terminal_longest (length tokens) (numeral tokens) (numeral_inside tokens)

  before_numeral : (n : ℕ) → (⊥ ⊎ Begins (terminal (at_mark sign_of tokens)) n) → (v : Numeral) (m : ℕ) → Terminal (numeral tokens) n v m → ⊥
  before_numeral n (inl z) v m h = z
  before_numeral n (inr d) v m h = no_sign n (numeral_first tokens n v h.0).0.0 (sign_begins n d)

  signed_longest : ReadsLongest (length tokens) 1 (Built (λ (p : Option Sign × Numeral). constant.Numeral p.0 p.1) (Optional (Terminal (at_mark sign_of tokens)) then Terminal (numeral tokens))) (λ _. ⊥) (signed_numeral tokens)
  unfolding signed_numeral
  signed_longest = weaker (built_longest (λ (p : Option Sign × Numeral). constant.Numeral p.0 p.1) (then_longest (optional_longest (mark_longest tokens sign_of) (omega arith)) numeral_longest before_numeral))
      (λ _. ⊥) 1 (λ n z. z) (omega arith)

  quoted_longest : ReadsLongest (length tokens) 1 (Built constant.Quoted (Terminal (quoted tokens))) (λ _. ⊥) (built constant.Quoted (terminal (quoted tokens)))
  quoted_longest = built_longest constant.Quoted (terminal_longest (length tokens) (quoted tokens) (quoted_inside tokens))

  signed_or_quoted : (n : ℕ) (q : List ℕ) → quoted tokens n ≡ Some q → (IsSome (at_mark sign_of tokens n) ⊎ IsSome (numeral tokens n)) → ⊥
  signed_or_quoted n q e (inl s) = no_sign n (quoted_first tokens n q e).0.0 s
  signed_or_quoted n q e (inr s) = let f = (quoted_first tokens n q e).1.0 in let z = rw f at s in absurd (cc)

  const_apart : (n : ℕ) (a : Const) (i : ℕ) → Built (λ (p : Option Sign × Numeral). constant.Numeral p.0 p.1) (Optional (Terminal (at_mark sign_of tokens)) then Terminal (numeral tokens)) n a i →
      (b : Const) (j : ℕ) → Built constant.Quoted (Terminal (quoted tokens)) n b j → ⊥
  const_apart n a i h b j q = let body = h.2 in signed_or_quoted n q.0 q.2.0 (sign_or_numeral n h.0.0 h.0.1 body.0 i body.1 body.2)

  const_longest : ReadsLongest (length tokens) 1 (IsConst tokens) (λ _. ⊥) (one_const tokens)
  unfolding one_const
  const_longest = weaker (either_longest signed_longest quoted_longest const_apart) (λ _. ⊥) 1 (λ n g. elim g as (λ _. ⊥) [ inl z ↦ z | inr z ↦ z ]) (omega arith)

  -- no word begins a constant
  const_first : (n : ℕ) (a : Const) (m : ℕ) → IsConst tokens n a m → keyword tokens n ≡ None
  const_first n a m (inl h) = let body = h.2 in
      elim (sign_or_numeral n h.0.0 h.0.1 body.0 m body.1 body.2) as (λ _. keyword tokens n ≡ None) [
        | inl s ↦ at_some_mark tokens n sign_of s
        | inr s ↦ (let v = value_of (numeral tokens n) s in at_numeral tokens n v.0 v.1)
      ]
  const_first n a m (inr h) = at_quoted tokens n h.0 h.2.0

  to_longest : ReadsLongest (length tokens) (1 + 1) (Behind (at_word to_word tokens) (IsConst tokens)) (λ _. ⊥) (to_const tokens)
  unfolding to_const
  to_longest = behind_longest (at_word to_word tokens) (word_inside tokens to_word) const_longest (λ n z. absurd z)

  to_begins : (n : ℕ) → Begins (to_const tokens) n → IsSome (keyword tokens n)
  to_begins n h = let b = begun to_longest n h in some_word tokens n to_word (separator_first (at_word to_word tokens) (word_inside tokens to_word) const_longest (λ n z. absurd z) n b.0 b.1 b.2)

  -- where a case may go on, at TO
  abbrev GoesCase : ℕ → Type 0
  GoesCase n = IsSome (keyword tokens n)

  const_case_longest : ReadsLongest (length tokens) 1 (Built case_of (IsConst tokens perhaps Behind (at_word to_word tokens) (IsConst tokens))) GoesCase (const_case tokens)
  unfolding const_case
  const_case_longest = weaker (built_longest case_of (perhaps_longest const_longest to_longest (omega arith) (λ n z b m h. z)))
      GoesCase 1 (λ n g. elim g as (λ _. GoesCase n) [ inl z ↦ absurd z | inr (inl z) ↦ absurd z | inr (inr d) ↦ to_begins n d ]) (omega arith)

  is_longest : ReadsLongest (length tokens) 1 (Built (λ (p : Unit {0} × (Rel × Const)). case.Is p.1.0 p.1.1) (Word tokens is_word then Terminal (at_mark rel_of tokens) then IsConst tokens)) (λ _. ⊥) (is_case tokens)
  unfolding is_case
  is_longest = weaker (built_longest (λ (p : Unit {0} × (Rel × Const)). case.Is p.1.0 p.1.1) (then_longest (word_longest tokens is_word) (then_longest (mark_longest tokens rel_of) const_longest (λ n z b m h. z)) (λ n z b m h. z)))
      (λ _. ⊥) 1 (λ n z. z) (omega arith)

  case_apart : (n : ℕ) (a : Case) (i : ℕ) → Built case_of (IsConst tokens perhaps Behind (at_word to_word tokens) (IsConst tokens)) n a i →
      (b : Case) (j : ℕ) → Built (λ (p : Unit {0} × (Rel × Const)). case.Is p.1.0 p.1.1) (Word tokens is_word then Terminal (at_mark rel_of tokens) then IsConst tokens) n b j → ⊥
  case_apart n a i h b j q =
      let front = h.2 in
      let body = q.2 in
      let absent = no_word tokens n is_word (const_first n h.0.0 front.0 front.1) in
      let some = body.1.0 in
      absurd (cc)

  case_longest : ReadsLongest (length tokens) 1 (IsCase tokens) GoesCase (one_case tokens)
  unfolding one_case
  case_longest = weaker (either_longest const_case_longest is_longest case_apart) GoesCase 1 (λ n g. elim g as (λ _. GoesCase n) [ inl d ↦ d | inr z ↦ absurd z ]) (omega arith)

  no_comma : (n : ℕ) → IsSome (keyword tokens n) → at_mark comma tokens n ≡ None
  no_comma n h = word_no_mark tokens n comma h

  pub next_case_longest : ReadsLongest (length tokens) (1 + 1) (Behind (at_mark comma tokens) (IsCase tokens)) GoesCase (next_case tokens)
  next_case_longest = behind_longest (at_mark comma tokens) (mark_inside tokens comma) case_longest no_comma

  cases_longest : ReadsLongest (length tokens) (1 + 0) (Listed tokens (IsCase tokens)) (λ n. GoesCase n ⊎ IsSome (at_mark comma tokens n)) (cases tokens)
  unfolding cases
  cases_longest = listed_longest tokens case_longest no_comma

  -- ---- formal parameters and headings

  no_hash : (n : ℕ) → mark tokens n ≡ None → IsSome (at_mark hash tokens n) → ⊥
  no_hash n e h = let f = rw e at h in absurd (cc)

  no_equals : (n : ℕ) (u : Unit {0}) → at_mark rel_of tokens n ≡ None → equals tokens n ≡ Some u → ⊥
  no_equals n u e h = let f = rw e at h in absurd (cc)

  -- where an expression may go on no list does
  pub no_comma_past : (n : ℕ) → GoesExpr tokens n → at_mark comma tokens n ≡ None
  no_comma_past n g = (stops tokens n g).0

  not_closed : (n : ℕ) → (GoesExpr tokens n ⊎ IsSome (at_mark comma tokens n)) → (u : Unit {0}) → at_mark closing tokens n ≡ Some u → ⊥
  not_closed n (inl g) u e = let f = (stops tokens n g).2 in absurd (cc)
  not_closed n (inr h) u e = let f = (at_comma tokens n h).1 in absurd (cc)

  pub opens : (n : ℕ) → IsSome (at_mark opening tokens n) → GoesExpr tokens n
  opens n h = inl (inl (inl h))

  module _ {A : Type 0} {least : ℕ} {F : Form A} {GoesOn : ℕ → Type 0} {f : Reader A} (is : ReadsLongest (length tokens) least F GoesOn f)
      (apart : (n : ℕ) → GoesOn n → (u : Unit {0}) → at_mark closing tokens n ≡ Some u → ⊥) where
    pub enclosed_longest : ReadsLongest (length tokens) (1 + (least + 1)) (Parenthesized tokens F) (λ _. ⊥) (parenthesized tokens f)
    enclosed_longest = between_longest (at_mark opening tokens) (mark_inside tokens opening) (at_mark closing tokens) (mark_inside tokens closing) is apart

    pub enclosed_begins : (n : ℕ) → Begins (parenthesized tokens f) n → GoesExpr tokens n
    enclosed_begins n h = let b = begun enclosed_longest n h in let body = b.2.2 in opens n (some_is body.1.0)

  one_comma_longest : ReadsLongest (length tokens) 1 (Terminal (at_mark comma tokens)) (λ _. ⊥) (terminal (at_mark comma tokens))
  one_comma_longest = mark_longest tokens comma

  read_comma : (at : ℕ) (u : Unit {0}) → at_mark comma tokens at ≡ Some u → terminal (at_mark comma tokens) at ≡ Some (u, at + 1)
  unfolding terminal
  read_comma at u e = rw e refl

  read_no_comma : (at : ℕ) → at_mark comma tokens at ≡ None → terminal (at_mark comma tokens) at ≡ None
  unfolding terminal
  read_no_comma at e = rw e refl

  -- the commas that a comma begins, and where there is none
  pub row_on : (at : ℕ) (u : Unit {0}) → at_mark comma tokens at ≡ Some u → row tokens at ≡ (u ∷ (row tokens (at + 1)).0, (row tokens (at + 1)).1)
  row_on at u e = all_on one_comma_longest one_is at (u, at + 1) (read_comma at u e)

  pub row_end : (at : ℕ) → at_mark comma tokens at ≡ None → row tokens at ≡ ([], at)
  row_end at e = all_end one_comma_longest one_is at (read_no_comma at e)

  pub row_count : (at : ℕ) (u : Unit {0}) → at_mark comma tokens at ≡ Some u → length (row tokens at).0 ≡ suc (length (row tokens (at + 1)).0)
  row_count at u e = ap (λ (r : List (Unit {0}) × ℕ). length r.0) (row_on at u e)

  pub row_rest : (at : ℕ) (u : Unit {0}) → at_mark comma tokens at ≡ Some u → (row tokens at).1 ≡ (row tokens (at + 1)).1
  row_rest at u e = ap (λ (r : List (Unit {0}) × ℕ). r.1) (row_on at u e)

  pub row_none : (at : ℕ) → at_mark comma tokens at ≡ None → length (row tokens at).0 ≡ 0
  row_none at e = ap (λ (r : List (Unit {0}) × ℕ). length r.0) (row_end at e)

  pub row_stays : (at : ℕ) → at_mark comma tokens at ≡ None → (row tokens at).1 ≡ at
  row_stays at e = ap (λ (r : List (Unit {0}) × ℕ). r.1) (row_end at e)

  pub comma_smaller : (at : ℕ) (u : Unit {0}) → at_mark comma tokens at ≡ Some u → length tokens - (at + 1) < length tokens - at
  comma_smaller at u e = let i = mark_inside tokens comma at u e in omega arith

  row_longest : ReadsLongest (length tokens) 0 (Repeated (Terminal (at_mark comma tokens))) (λ n. ⊥ ⊎ Begins (terminal (at_mark comma tokens)) n) (repeated (terminal (at_mark comma tokens)) (length tokens))
  row_longest = repeated_longest one_comma_longest (omega arith) (λ n z a m h. z)

  row_not_closed : (n : ℕ) → (⊥ ⊎ Begins (terminal (at_mark comma tokens)) n) → (u : Unit {0}) → at_mark closing tokens n ≡ Some u → ⊥
  row_not_closed n (inl z) u e = z
  row_not_closed n (inr h) u e = not_closed n (inr (token_stands (length tokens) (at_mark comma tokens) (mark_inside tokens comma) n h)) u e

  commas_longest : ReadsLongest (length tokens) (1 + (0 + 1)) (Parenthesized tokens (Repeated (Terminal (at_mark comma tokens)))) (λ _. ⊥) (commas tokens)
  unfolding commas
  commas_longest = enclosed_longest row_longest row_not_closed

  commas_begin : (n : ℕ) → Begins (commas tokens) n → GoesExpr tokens n
  unfolding commas
  commas_begin n h = enclosed_begins row_longest row_not_closed n h

  name_formal_longest : ReadsLongest (length tokens) 1 (Built name_formal_of (Name tokens perhaps Parenthesized tokens (Repeated (Terminal (at_mark comma tokens))))) (GoesExpr tokens) (name_formal tokens)
  unfolding name_formal
  name_formal_longest = weaker (built_longest name_formal_of (perhaps_longest name_longest commas_longest (omega arith) (λ n z b m h. z)))
      (GoesExpr tokens) 1 (λ n g. elim g as (λ _. GoesExpr tokens n) [ inl z ↦ absurd z | inr (inl z) ↦ absurd z | inr (inr d) ↦ commas_begin n d ]) (omega arith)

  chan_formal_longest : ReadsLongest (length tokens) 1 (Built (λ (p : Unit {0} × ℕ). formal.Chan p.1) (Terminal (at_mark hash tokens) then Terminal (digits tokens))) (λ _. ⊥) (chan_formal tokens)
  unfolding chan_formal
  chan_formal_longest = weaker (built_longest (λ (p : Unit {0} × ℕ). formal.Chan p.1) (then_longest (mark_longest tokens hash) (terminal_longest (length tokens) (digits tokens) (digits_inside tokens)) (λ n z b m h. z)))
      (λ _. ⊥) 1 (λ n z. z) (omega arith)

  formal_apart : (n : ℕ) (a : Formal) (i : ℕ) → Built name_formal_of (Name tokens perhaps Parenthesized tokens (Repeated (Terminal (at_mark comma tokens)))) n a i →
      (b : Formal) (j : ℕ) → Built (λ (p : Unit {0} × ℕ). formal.Chan p.1) (Terminal (at_mark hash tokens) then Terminal (digits tokens)) n b j → ⊥
  formal_apart n a i h b j q =
      let front = h.2 in
      let body = q.2 in
      let marked = (name_first tokens n h.0.0 (own_is tokens n h.0.0 front.1.0).0).0.0 in
      let some = body.1.0 in
      no_hash n marked (some_is some)

  formal_longest : ReadsLongest (length tokens) 1 (IsFormal tokens) (GoesExpr tokens) (one_formal tokens)
  unfolding one_formal
  formal_longest = weaker (either_longest name_formal_longest chan_formal_longest formal_apart) (GoesExpr tokens) 1 (λ n g. elim g as (λ _. GoesExpr tokens n) [ inl d ↦ d | inr z ↦ absurd z ]) (omega arith)

  pub next_formal_longest : ReadsLongest (length tokens) (1 + 1) (Behind (at_mark comma tokens) (IsFormal tokens)) (GoesExpr tokens) (next_formal tokens)
  next_formal_longest = behind_longest (at_mark comma tokens) (mark_inside tokens comma) formal_longest no_comma_past

  formal_list_longest : ReadsLongest (length tokens) (1 + 0) (Listed tokens (IsFormal tokens)) (λ n. GoesExpr tokens n ⊎ IsSome (at_mark comma tokens n)) (formal_list tokens)
  unfolding formal_list
  formal_list_longest = listed_longest tokens formal_longest no_comma_past

  formals_longest : ReadsLongest (length tokens) (1 + (1 + 0 + 1)) (IsFormals tokens) (λ _. ⊥) (formals tokens)
  unfolding formals
  formals_longest = enclosed_longest formal_list_longest not_closed

  formals_begin : (n : ℕ) → Begins (formals tokens) n → GoesExpr tokens n
  unfolding formals
  formals_begin n h = enclosed_begins formal_list_longest not_closed n h

  heading_longest : ReadsLongest (length tokens) 1 (IsHeading tokens) (GoesExpr tokens) (heading tokens)
  unfolding heading
  heading_longest = weaker (built_longest (λ (p : List ℕ × Option (List Formal)). (p.0, formals_of p.1)) (perhaps_longest name_longest formals_longest (omega arith) (λ n z b m h. z)))
      (GoesExpr tokens) 1 (λ n g. elim g as (λ _. GoesExpr tokens n) [ inl z ↦ absurd z | inr (inl z) ↦ absurd z | inr (inr d) ↦ formals_begin n d ]) (omega arith)

  -- ---- choices, handlers, procedures and units

  else_longest : ReadsLongest (length tokens) 1 (Built (λ (word : Unit {0}). part.CaseElse) (Word tokens else_word)) (λ _. ⊥) (built (λ (word : Unit {0}). part.CaseElse) (word tokens else_word))
  else_longest = built_longest (λ (word : Unit {0}). part.CaseElse) (word_longest tokens else_word)

  is_word_stands : (n : ℕ) (b : Case) (m : ℕ) → IsCase tokens n b m → at_word else_word tokens n ≡ None
  is_word_stands n b m (inl h) = let front = h.2 in no_word tokens n else_word (const_first n h.0.0 front.0 front.1)
  is_word_stands n b m (inr q) = let body = q.2 in is_no_else (keyword tokens n) q.0.0 body.1.0

  case_else_apart : (n : ℕ) (a : Part) (i : ℕ) → Built part.Case (Listed tokens (IsCase tokens)) n a i → (b : Part) (j : ℕ) → Built (λ (word : Unit {0}). part.CaseElse) (Word tokens else_word) n b j → ⊥
  case_else_apart n a i h b j q =
      let list = h.2 in
      let items = list.2 in
      let absent = is_word_stands n list.0.0 items.0 items.1 in
      let some = q.2.0 in
      absurd (cc)

  case_or_else_longest : ReadsLongest (length tokens) 1 (Built part.Case (Listed tokens (IsCase tokens)) or Built (λ (word : Unit {0}). part.CaseElse) (Word tokens else_word)) (GoesLine tokens) (case_or_else tokens)
  unfolding case_or_else
  case_or_else_longest = weaker (either_longest (weaker (built_longest part.Case cases_longest) (GoesLine tokens) 1
      (λ n g. elim g as (λ _. GoesLine tokens n) [ inl d ↦ inr (inl d) | inr d ↦ line_mark tokens n comma d ]) (omega arith)) else_longest case_else_apart)
      (GoesLine tokens) 1 (λ n g. elim g as (λ _. GoesLine tokens n) [ inl d ↦ d | inr z ↦ absurd z ]) (omega arith)

  case_line_longest : ReadsLongest (length tokens) 1 (IsCaseLine tokens) (GoesLine tokens) (case_line tokens)
  unfolding case_line
  case_line_longest = weaker (built_longest (λ (p : Keyword × Part). p.1) (then_longest (lead_longest tokens) case_or_else_longest (λ n z b m h. z))) (GoesLine tokens) 1 (λ n g. g) (omega arith)

  use_longest : ReadsLongest (length tokens) (1 + 1) (Behind (at_word use_word tokens) (Name tokens)) (λ _. ⊥) (use_name tokens)
  unfolding use_name
  use_longest = behind_longest (at_word use_word tokens) (word_inside tokens use_word) name_longest (λ n z. absurd z)

  in_use_apart : (n : ℕ) (a : Part) (i : ℕ) → Built (λ (word : Unit {0}). part.WhenExceptionIn) (Word tokens in_word) n a i → (b : Part) (j : ℕ) → Built part.WhenExceptionUse (Behind (at_word use_word tokens) (Name tokens)) n b j → ⊥
  in_use_apart n a i h b j q =
      let front = q.2 in
      let body = front.2 in
      in_no_use (keyword tokens n) h.0 front.0.0 h.2.0 body.1.0

  in_or_use_longest : ReadsLongest (length tokens) 1 (Built (λ (word : Unit {0}). part.WhenExceptionIn) (Word tokens in_word) or Built part.WhenExceptionUse (Behind (at_word use_word tokens) (Name tokens))) (λ _. ⊥) (in_or_use tokens)
  unfolding in_or_use
  in_or_use_longest = weaker (either_longest (built_longest (λ (word : Unit {0}). part.WhenExceptionIn) (word_longest tokens in_word))
      (weaker (built_longest part.WhenExceptionUse use_longest) (λ _. ⊥) 1 (λ n z. z) (omega arith)) in_use_apart)
      (λ _. ⊥) 1 (λ n g. elim g as (λ _. ⊥) [ inl z ↦ z | inr z ↦ z ]) (omega arith)

  when_longest : ReadsLongest (length tokens) 1 (IsWhen tokens) (GoesLine tokens) (when_line tokens)
  unfolding when_line
  when_longest = weaker (built_longest (λ (p : Keyword × (Unit {0} × Part)). p.1.1) (then_longest (lead_longest tokens) (then_longest (word_longest tokens exception_word) in_or_use_longest (λ n z b m h. z)) (λ n z b m h. z)))
      (GoesLine tokens) 1 (λ n z. absurd z) (omega arith)

  headed_longest : (make : List ℕ → Formals → Part) → ReadsLongest (length tokens) 1 (Headed tokens make) (GoesLine tokens) (headed tokens make)
  unfolding headed
  headed_longest make = weaker (built_longest (λ (p : Keyword × (List ℕ × Formals)). make p.1.0 p.1.1) (then_longest (lead_longest tokens) heading_longest (λ n z b m h. z)))
      (GoesLine tokens) 1 (line_expr tokens) (omega arith)

  external_longest : ReadsLongest (length tokens) 1 (IsExternal tokens) (GoesLine tokens) (external_line tokens)
  unfolding external_line
  external_longest = weaker (built_longest (λ (p : Keyword × (ProcedureKind × (List ℕ × Formals))). external_of p.1.0 p.1.1.0 p.1.1.1)
      (then_longest (lead_longest tokens) (then_longest (word_longest tokens procedure_word) heading_longest (λ n z b m h. z)) (λ n z b m h. z)))
      (GoesLine tokens) 1 (line_expr tokens) (omega arith)

  before_equals : (n : ℕ) → GoesExpr tokens n → (b : Unit {0} × Expr) (m : ℕ) → (Terminal (equals tokens) then E tokens) n b m → ⊥
  before_equals n g b m h = let absent = (stops tokens n g).3 in no_equals n b.0 absent h.1.0

  def_longest : ReadsLongest (length tokens) 1 (IsDef tokens) (GoesLine tokens) (def_line tokens)
  unfolding def_line
  def_longest = weaker (built_longest (λ (p : Keyword × ((List ℕ × Formals) × (Unit {0} × Expr))). part.Def p.1.0.0 p.1.0.1 p.1.1.1)
      (then_longest (lead_longest tokens) (then_longest heading_longest (then_longest equals_longest an_expr (λ n z b m h. z)) before_equals) (λ n z b m h. z)))
      (GoesLine tokens) 1 (line_expr tokens) (omega arith)

  -- ---- all alternatives

  by_word : (w : Keyword) → ReadsLongest (length tokens) 1 (PartBy tokens w) (GoesLine tokens) (part_by tokens w)
  by_word k.If = tested_longest part.If
  by_word k.Elseif = tested_longest part.Elseif
  by_word k.Else = alone_longest part.Else
  by_word k.For = for_longest
  by_word k.Next = named_longest part.Next
  by_word k.Do = looping_longest part.Do
  by_word k.Loop = looping_longest part.Loop
  by_word k.Select = select_longest
  by_word k.Case = case_line_longest
  by_word k.When = when_longest
  by_word k.Use = alone_longest part.Use
  by_word k.Handler = named_longest part.Handler
  by_word k.External = external_longest
  by_word k.Sub = headed_longest part.Sub
  by_word k.Function = headed_longest part.Function
  by_word k.Def = def_longest
  by_word k.Program = headed_longest part.Program
  by_word k.Module = named_longest part.Module
  by_word k.End = end_longest
  by_word _ = no_form_longest (length tokens) 1 (GoesLine tokens)

  pub part_longest : ReadsLongest (length tokens) 1 (IsPart tokens) (GoesLine tokens) (part_at tokens)
  unfolding part_at
  part_longest = weaker (dispatched_longest (keyword tokens) by_word) (GoesLine tokens) 1 (λ n g. g.1) (omega arith)
