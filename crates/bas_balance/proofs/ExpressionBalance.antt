-- Expressions and conditions stand on balanced tokens.
use Rattle.std.proofs.Common.{◌≡◌, ℕ, zero, suc, inl, inr, Bool, true, false, List, length, Option, Some, None, codes, refl, sym, subst, arith}
use Rattle.std.specs.Str.{str_to_ascii_lowercase, str_eq_ignore_ascii_case}
use Rattle.std.proofs.lemmas.Slice.Eq.{bytes_eq-Decides}
use Rattle.bas_form.specs.Form.{Form, Terminal, ◌then◌, Optional, Repeated, Built, ◌perhaps◌, Chain}
use Rattle.bas_form.specs.Element.{element_at}
use Rattle.bas_form.proofs.ElementLaws.{element_from}
use Rattle.bas_token.specs.declared.token.TokenKind.TheVariants as kind
use Rattle.bas_ast.specs.declared.expression.Numeral.{Numeral}
use Rattle.bas_ast.specs.declared.expression.Expr.{Expr}
use Rattle.bas_ast.specs.declared.expression.Actual as actual
use Rattle.bas_ast.specs.declared.condition.Cond.{Cond}
use Rattle.bas_expr.specs.declared.word.Connective.{Connective}
use Rattle.bas_expr.specs.Lexemes.{Lexeme}
use Rattle.bas_expr.specs.Marks.{mark_of, at_mark, comma, colon, hash, caret, sign_of, term_sign_of, factor_sign_of, rel_of}
use Rattle.bas_expr.specs.Words.{name_of_text, name_of, any_name, own_name, numeral_of_lexeme, numeral, quoted_of, quoted, connective_of_text, connective_of, connective, negation_by, negation, and_by, and_word, or_by, or_word}
use Rattle.bas_expr.specs.Separated.{Separated}
use Rattle.bas_expr.specs.Grammar.{factor_of, term_of, expr_of, target_of, Parenthesized, IsActual, IsArgs, IsTarget, IsRange, IsPrimary, IsFactor, IsTerm, IsSum, IsExpr}
use Rattle.bas_expr.specs.Conditions.{conj_of, cond_of, IsComparison, IsTest, IsConj, IsAlternative, IsCond}
use Rattle.bas_expr.proofs.MarkLaws.{own_is, is_connective}
use Rattle.bas_balance.specs.Balance.{is_end, BalancedIn, Balances, ExpressionsBalance, ConditionsBalance}
use Rattle.bas_balance.proofs.BalanceLaws.{token_balanced, unmarked, mark_balances, comma_plain, hash_plain, caret_plain, sign_plain, term_sign_plain, factor_sign_plain, rel_plain, colon_balances, parenthesized_balances, then_balances, optional_balances, or_balances, built_balances, perhaps_balances, behind_balances, separated_balances, repeated_balances, deeper_balances}

-- ---- by the kind

-- neither a mark nor the end of a statement
abbrev pub Passes : Lexeme → Type 0
Passes token = (is_end token ≡ false) × (mark_of token ≡ None)

no_else : (text v : List ℕ) → name_of_text text ≡ Some v → str_eq_ignore_ascii_case text (codes "ELSE") ≡ false
no_else text v e = by_value (str_eq_ignore_ascii_case text (codes "ELSE")) refl
  where
    by_value : (b : Bool) → str_eq_ignore_ascii_case text (codes "ELSE") ≡ b → str_eq_ignore_ascii_case text (codes "ELSE") ≡ false
    by_value false eb = eb
    by_value true eb = absurd (grind arith)

name_passes : (token : Lexeme) (v : List ℕ) → name_of token ≡ Some v → Passes token
name_passes (kind.Word, text) v e = (no_else text v e, refl)
name_passes (kind.Numeral, text) v e = absurd (cc)
name_passes (kind.Quoted, text) v e = absurd (cc)
name_passes (kind.Sign, text) v e = absurd (cc)
name_passes (kind.Remark, text) v e = absurd (cc)

numeral_passes : (token : Lexeme) (v : Numeral) → numeral_of_lexeme token ≡ Some v → Passes token
numeral_passes (kind.Word, text) v e = absurd (cc)
numeral_passes (kind.Numeral, text) v e = (refl, refl)
numeral_passes (kind.Quoted, text) v e = absurd (cc)
numeral_passes (kind.Sign, text) v e = absurd (cc)
numeral_passes (kind.Remark, text) v e = absurd (cc)

quoted_passes : (token : Lexeme) (v : List ℕ) → quoted_of token ≡ Some v → Passes token
quoted_passes (kind.Word, text) v e = absurd (cc)
quoted_passes (kind.Numeral, text) v e = absurd (cc)
quoted_passes (kind.Quoted, text) v e = (refl, refl)
quoted_passes (kind.Sign, text) v e = absurd (cc)
quoted_passes (kind.Remark, text) v e = absurd (cc)

-- a text is one word at most
pub two_words : (text one two : List ℕ) → str_eq_ignore_ascii_case text one ≡ true → str_eq_ignore_ascii_case text two ≡ true → str_to_ascii_lowercase one ≡ str_to_ascii_lowercase two
two_words text one two a b = grind (arith, bytes_eq-Decides (str_to_ascii_lowercase text) (str_to_ascii_lowercase one), bytes_eq-Decides (str_to_ascii_lowercase text) (str_to_ascii_lowercase two))

-- a word that is spelled is not ELSE
pub word_is_no_else : (text word : List ℕ) → str_eq_ignore_ascii_case text word ≡ true → (str_to_ascii_lowercase word ≡ codes "else" → ⊥) → str_eq_ignore_ascii_case text (codes "ELSE") ≡ false
word_is_no_else text word e other = by_value (str_eq_ignore_ascii_case text (codes "ELSE")) refl
  where
    by_value : (b : Bool) → str_eq_ignore_ascii_case text (codes "ELSE") ≡ b → str_eq_ignore_ascii_case text (codes "ELSE") ≡ false
    by_value false eb = eb
    by_value true eb = absurd (other (two_words text word (codes "ELSE") e eb))

connective_no_else : (text : List ℕ) (c : Connective) (n a o : Bool) → str_eq_ignore_ascii_case text (codes "NOT") ≡ n → str_eq_ignore_ascii_case text (codes "AND") ≡ a → str_eq_ignore_ascii_case text (codes "OR") ≡ o →
    connective_of_text text ≡ Some c → str_eq_ignore_ascii_case text (codes "ELSE") ≡ false
connective_no_else text c true a o en ea eo e = word_is_no_else text (codes "NOT") en (λ z. cc)
connective_no_else text c false true o en ea eo e = word_is_no_else text (codes "AND") ea (λ z. cc)
connective_no_else text c false false true en ea eo e = word_is_no_else text (codes "OR") eo (λ z. cc)
connective_no_else text c false false false en ea eo e = let f = rw (en, ea, eo) at e in absurd (cc)

connective_passes : (token : Lexeme) (c : Connective) → connective_of token ≡ Some c → Passes token
connective_passes (kind.Word, text) c e = (connective_no_else text c _ _ _ refl refl refl e, refl)
connective_passes (kind.Numeral, text) c e = absurd (cc)
connective_passes (kind.Quoted, text) c e = absurd (cc)
connective_passes (kind.Sign, text) c e = absurd (cc)
connective_passes (kind.Remark, text) c e = absurd (cc)

-- a token that passes a test of tokens that are neither marks nor ends
pub element_balances : {A : Type 0} (least : ℕ) (tokens : List Lexeme) (test : Lexeme → Option A) → ((token : Lexeme) (a : A) → test token ≡ Some a → Passes token) →
    Balances least tokens (Terminal (element_at test tokens))
element_balances least tokens test passes at a next h =
    let x = element_from test tokens at a h.0 in
    let p = passes x.0 a x.2 in
    let b = token_balanced tokens least at x.0 x.1 (λ level l. unmarked x.0 p.0 p.1 level) in
    subst (λ (n : ℕ). BalancedIn least tokens at n) (sym h.1) b

module _ (least : ℕ) (tokens : List Lexeme) where
  pub name_balances : Balances least tokens (Terminal (any_name tokens))
  unfolding any_name
  name_balances = element_balances least tokens name_of name_passes

  pub own_name_balances : Balances least tokens (Terminal (own_name tokens))
  own_name_balances at a next h = name_balances at a next ((own_is tokens at a h.0).0, h.1)

  pub numeral_balances : Balances least tokens (Terminal (numeral tokens))
  unfolding numeral
  numeral_balances = element_balances least tokens numeral_of_lexeme numeral_passes

  pub quoted_balances : Balances least tokens (Terminal (quoted tokens))
  unfolding quoted
  quoted_balances = element_balances least tokens quoted_of quoted_passes

  connective_balances : Balances least tokens (Terminal (connective tokens))
  unfolding connective
  connective_balances = element_balances least tokens connective_of connective_passes

  connected_balances : (f : Option Connective → Option (Unit {0})) → f None ≡ None → Balances least tokens (Terminal (λ at. f (connective tokens at)))
  connected_balances f z at u next h = let c = is_connective tokens at f z (rw h.0 refl) in connective_balances at c.0 next (c.1, h.1)

-- ---- expressions

module _ (tokens : List Lexeme) (Inner : Form Expr) (inside : Balances 0 tokens Inner) where
  -- inside more parentheses
  deep : Balances 1 tokens Inner
  deep = deeper_balances 1 tokens Inner inside

  pub actual_balances : Balances 1 tokens (IsActual tokens Inner)
  actual_balances = or_balances 1 tokens (Built actual.Expr Inner) (Built (λ (p : Unit {0} × Expr). actual.Chan p.1) (Terminal (at_mark hash tokens) then Inner))
      (built_balances 1 tokens actual.Expr Inner deep)
      (built_balances 1 tokens (λ (p : Unit {0} × Expr). actual.Chan p.1) (Terminal (at_mark hash tokens) then Inner)
      (then_balances 1 tokens (Terminal (at_mark hash tokens)) Inner (mark_balances tokens 1 hash hash_plain) deep))

  pub args_balances : Balances 1 tokens (IsArgs tokens Inner)
  args_balances = separated_balances 1 tokens (at_mark comma tokens) (mark_balances tokens 1 comma comma_plain) (IsActual tokens Inner) actual_balances

  list_balances : Balances 1 tokens (Separated (at_mark comma tokens) Inner)
  list_balances = separated_balances 1 tokens (at_mark comma tokens) (mark_balances tokens 1 comma comma_plain) Inner deep

  -- a target has no `:` outside parentheses
  pub target_balances : Balances 0 tokens (IsTarget tokens Inner)
  target_balances = built_balances 0 tokens target_of (Terminal (own_name tokens) perhaps Parenthesized tokens (Separated (at_mark comma tokens) Inner))
      (perhaps_balances 0 tokens (Terminal (own_name tokens)) (Parenthesized tokens (Separated (at_mark comma tokens) Inner)) (own_name_balances 0 tokens)
      (parenthesized_balances tokens (Separated (at_mark comma tokens) Inner) list_balances))

  range_balances : Balances 1 tokens (IsRange tokens Inner)
  range_balances = built_balances 1 tokens (λ (p : Expr × (Unit {0} × Expr)). (p.0, p.1.1)) (Inner then Terminal (at_mark colon tokens) then Inner)
      (then_balances 1 tokens Inner (Terminal (at_mark colon tokens) then Inner) deep (then_balances 1 tokens (Terminal (at_mark colon tokens)) Inner (colon_balances tokens) deep))

  primary_balances : Balances 0 tokens (IsPrimary tokens Inner)
  primary_balances at x next (inl h) = numeral_balances 0 tokens at h.0 next h.2
  primary_balances at x next (inr (inl h)) = quoted_balances 0 tokens at h.0 next h.2
  primary_balances at x next (inr (inr (inl h))) = parenthesized_balances tokens Inner deep at h.0 next h.2
  primary_balances at x next (inr (inr (inr (inl h)))) =
      perhaps_balances 0 tokens (Terminal (any_name tokens)) (Parenthesized tokens (IsArgs tokens Inner)) (name_balances 0 tokens) (parenthesized_balances tokens (IsArgs tokens Inner) args_balances) at h.0 next h.2
  primary_balances at x next (inr (inr (inr (inr h)))) =
      then_balances 0 tokens (IsTarget tokens Inner) (Parenthesized tokens (IsRange tokens Inner)) target_balances (parenthesized_balances tokens (IsRange tokens Inner) range_balances) at h.0 next h.2

  factor_balances : Balances 0 tokens (IsFactor tokens Inner)
  factor_balances = built_balances 0 tokens factor_of (Separated (at_mark caret tokens) (IsPrimary tokens Inner))
      (separated_balances 0 tokens (at_mark caret tokens) (mark_balances tokens 0 caret caret_plain) (IsPrimary tokens Inner) primary_balances)

  chain_balances : {A O : Type 0} (operator : ℕ → Option O) (F : Form A) → Balances 0 tokens (Terminal operator) → Balances 0 tokens F → Balances 0 tokens (Chain operator F)
  chain_balances operator F o f = then_balances 0 tokens F (Repeated (Terminal operator then F)) f (repeated_balances 0 tokens (Terminal operator then F) (then_balances 0 tokens (Terminal operator) F o f))

  term_balances : Balances 0 tokens (IsTerm tokens Inner)
  term_balances = built_balances 0 tokens term_of (Chain (at_mark factor_sign_of tokens) (IsFactor tokens Inner))
      (chain_balances (at_mark factor_sign_of tokens) (IsFactor tokens Inner) (mark_balances tokens 0 factor_sign_of factor_sign_plain) factor_balances)

  sum_balances : Balances 0 tokens (IsSum tokens Inner)
  sum_balances = built_balances 0 tokens expr_of (Optional (Terminal (at_mark sign_of tokens)) then Chain (at_mark term_sign_of tokens) (IsTerm tokens Inner))
      (then_balances 0 tokens (Optional (Terminal (at_mark sign_of tokens))) (Chain (at_mark term_sign_of tokens) (IsTerm tokens Inner))
      (optional_balances 0 tokens (Terminal (at_mark sign_of tokens)) (mark_balances tokens 0 sign_of sign_plain))
      (chain_balances (at_mark term_sign_of tokens) (IsTerm tokens Inner) (mark_balances tokens 0 term_sign_of term_sign_plain) term_balances))

pub expr_balances : (tokens : List Lexeme) (depth : ℕ) → Balances 0 tokens (IsExpr tokens depth)
unfolding IsExpr
expr_balances tokens zero at e next h = absurd h
expr_balances tokens (suc depth) at e next h = sum_balances tokens (IsExpr tokens depth) (expr_balances tokens depth) at e next h

-- ---- conditions

module _ (tokens : List Lexeme) (E : Form Expr) (of_expr : Balances 0 tokens E) (Inner : Form Cond) (inside : Balances 0 tokens Inner) where
  comparison_balances : Balances 0 tokens (IsComparison tokens E)
  comparison_balances = then_balances 0 tokens E (Terminal (at_mark rel_of tokens) then E) of_expr (then_balances 0 tokens (Terminal (at_mark rel_of tokens)) E (mark_balances tokens 0 rel_of rel_plain) of_expr)

  test_balances : (nots : ℕ) → Balances 0 tokens (IsTest tokens E Inner nots)
  unfolding IsTest
  test_balances zero at x next h = absurd h
  test_balances (suc nots) at x next (inl h) = behind_balances 0 tokens (negation tokens) (connected_balances 0 tokens negation_by refl) (IsTest tokens E Inner nots) (test_balances nots) at h.0 next h.2
  test_balances (suc nots) at x next (inr (inl h)) = parenthesized_balances tokens Inner (deeper_balances 1 tokens Inner inside) at h.0 next h.2
  test_balances (suc nots) at x next (inr (inr h)) = comparison_balances at h.0 next h.2

  conj_balances : (nots : ℕ) → Balances 0 tokens (IsConj tokens E Inner nots)
  conj_balances nots = built_balances 0 tokens conj_of (Separated (and_word tokens) (IsTest tokens E Inner nots))
      (separated_balances 0 tokens (and_word tokens) (connected_balances 0 tokens and_by refl) (IsTest tokens E Inner nots) (test_balances nots))

  alternative_balances : (nots : ℕ) → Balances 0 tokens (IsAlternative tokens E Inner nots)
  alternative_balances nots = built_balances 0 tokens cond_of (Separated (or_word tokens) (IsConj tokens E Inner nots))
      (separated_balances 0 tokens (or_word tokens) (connected_balances 0 tokens or_by refl) (IsConj tokens E Inner nots) (conj_balances nots))

pub cond_balances : (tokens : List Lexeme) (depth : ℕ) → Balances 0 tokens (IsCond tokens depth)
unfolding IsCond
cond_balances tokens zero at c next h = absurd h
cond_balances tokens (suc depth) at c next h =
    alternative_balances tokens (IsExpr tokens (suc depth)) (expr_balances tokens (suc depth)) (IsCond tokens depth) (cond_balances tokens depth) (length tokens) at c next h

pub expressions_balance : ExpressionsBalance
expressions_balance tokens depth at e next h = expr_balances tokens depth at e next h

pub conditions_balance : ConditionsBalance
conditions_balance tokens depth at c next h = cond_balances tokens depth at c next h
