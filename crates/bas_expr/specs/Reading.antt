-- How the expression that a token begins is read, in one pass from the left.
use Rattle.std.specs.Prelude.{ℕ, zero, suc, ◌+◌, ◌⊎◌, if◌then◌else◌, Bool, true, false, List, [], ◌∷◌, length, map, Option, Some, None, IsSome}
use Rattle.std.specs.List.{list_all}
use Rattle.bas_form.specs.Reader.{Reader, ◌>>=◌, terminal, ◌followed_by◌, optional, built, all_from, chain, between}
use Rattle.bas_ast.specs.declared.expression.TermSign.{TermSign}
use Rattle.bas_ast.specs.declared.expression.FactorSign.{FactorSign}
use Rattle.bas_ast.specs.declared.expression.Numeral.{Numeral}
use Rattle.bas_ast.specs.declared.expression.Expr.{Expr}
use Rattle.bas_ast.specs.declared.expression.Term.{Term}
use Rattle.bas_ast.specs.declared.expression.Factor.{Factor}
use Rattle.bas_ast.specs.declared.expression.Primary.{Primary}
use Rattle.bas_ast.specs.declared.expression.Primary as primary
use Rattle.bas_ast.specs.declared.expression.Actual.{Actual, Actual-F, out-Actual}
use Rattle.bas_ast.specs.declared.expression.Actual as actual
use Rattle.bas_ast.specs.declared.expression.Actual.TheOpen as layer
use Rattle.bas_ast.specs.declared.expression.Target.{roll-Target}
use Rattle.bas_expr.specs.declared.bracket.Bracket.{Bracket}
use Rattle.bas_expr.specs.declared.bracket.Bracket.TheVariants as bracket
use Rattle.bas_expr.specs.Lexemes.{Lexeme}
use Rattle.bas_expr.specs.Marks.{at_mark, opening, closing, comma, colon, hash, caret, sign_of, term_sign_of, factor_sign_of}
use Rattle.bas_ast.specs.Supplied.{is_supplied}
use Rattle.bas_expr.specs.Words.{any_name, numeral, quoted}
use Rattle.bas_expr.specs.Separated.{behind, separated}
use Rattle.bas_expr.specs.Grammar.{args_of, factor_of, term_of, expr_of}

-- whether it is an expression, by its form
abbrev pub is_plain_layer : {A P R E F T M : Type 0} → Actual-F A P R E F T M → Bool
is_plain_layer (layer.Expr e) = true
is_plain_layer (layer.Chan e) = false

-- the expression in it, by its form
abbrev pub expr_in_layer : {A P R E F T M : Type 0} → Actual-F A P R E F T M → E
expr_in_layer (layer.Expr e) = e
expr_in_layer (layer.Chan e) = e

-- whether an argument is an expression, and no channel
unfoldable pub is_plain : Actual → Bool
is_plain a = is_plain_layer (out-Actual a)

-- the expression in an argument
unfoldable pub expr_in : Actual → Expr
expr_in a = expr_in_layer (out-Actual a)

-- reads "(" something ")"
abbrev pub parenthesized : {A : Type 0} → List Lexeme → Reader A → Reader A
parenthesized tokens inside = between (at_mark opening tokens) (at_mark closing tokens) inside

-- whether no argument is a channel
abbrev pub are_plain : List Actual → Bool
are_plain actuals = list_all is_plain actuals

-- a name with arguments, or with none
abbrev pub name_with : List ℕ → List Actual → Primary
name_with name actuals = primary.Name name (args_of actuals)

-- a name with no arguments
abbrev pub plain_name : List ℕ → Primary
plain_name name = name_with name []

-- a part of a variable, or of an element where there are subscripts
abbrev pub substring : List ℕ → List Expr → Expr → Expr → Primary
substring name subscripts first last = primary.Substring (roll-Target (record { name = name; subscripts = subscripts })) first last

-- the `#` at a place
abbrev pub hash_at : List Lexeme → ℕ → Option (Unit {0})
hash_at tokens at = at_mark hash tokens at

-- `inner` reads what stands inside parentheses.
module _ (tokens : List Lexeme) (inner : Reader Expr) where
  -- an argument, by whether a `#` stands there
  abbrev pub actual_by : ℕ → Option (Unit {0}) → Option (Actual × ℕ)
  actual_by at (Some mark) = do
    e ← inner (at + 1)
    Some (actual.Chan e.0, e.1)
  actual_by at None = do
    e ← inner at
    Some (actual.Expr e.0, e.1)

  -- reads an argument
  unfoldable pub one_actual : Reader Actual
  one_actual at = actual_by at (at_mark hash tokens at)

  -- "," actual
  abbrev pub next_actual : Reader Actual
  next_actual = behind (at_mark comma tokens) one_actual

  -- the arguments with the first one, and the place behind them
  abbrev pub more_actuals : Actual → ℕ → List Actual × ℕ
  more_actuals first at = (first ∷ (all_from next_actual (length tokens) at).0, (all_from next_actual (length tokens) at).1)

  -- the arguments behind the first, up to the closing parenthesis
  unfoldable pub list_from : Actual → Reader Bracket
  list_from first at = do
    mark ← at_mark closing tokens (more_actuals first at).1
    Some (bracket.List (more_actuals first at).0, (more_actuals first at).1 + 1)

  -- behind a first expression and a colon
  unfoldable pub range_from : Expr → Reader Bracket
  range_from first at = do
    last ← inner at
    mark ← at_mark closing tokens last.1
    Some (bracket.Range first last.0, last.1 + 1)

  -- behind a first expression, by whether a colon stands there
  abbrev pub after_first : Expr × ℕ → Option (Unit {0}) → Option (Bracket × ℕ)
  after_first e (Some mark) = range_from e.0 (e.1 + 1)
  after_first e None = list_from (actual.Expr e.0) e.1

  -- behind an opening parenthesis, by whether a `#` stands there
  abbrev pub after_opening : ℕ → Option (Unit {0}) → Option (Bracket × ℕ)
  after_opening at (Some mark) = do
    e ← inner (at + 1)
    list_from (actual.Chan e.0) e.1
  after_opening at None = do
    e ← inner at
    after_first e (at_mark colon tokens e.1)

  -- "(" args ")" or "(" expr ":" expr ")"
  unfoldable pub bracket_at : Reader Bracket
  bracket_at at = do
    mark ← at_mark opening tokens at
    after_opening (at + 1) (at_mark hash tokens (at + 1))

  -- behind a name with arguments
  abbrev pub after_list : List ℕ → List Actual → ℕ → Option (Bracket × ℕ) → Primary × ℕ
  after_list name actuals at None = (name_with name actuals, at)
  after_list name actuals at (Some (bracket.List more, next)) = (name_with name actuals, at)
  after_list name actuals at (Some (bracket.Range first last, next)) = (substring name (map expr_in actuals) first last, next)

  -- behind a name with arguments, by whether they may be subscripts
  abbrev pub element_or_call : List ℕ → List Actual → ℕ → Bool → Primary × ℕ
  element_or_call name actuals at true = after_list name actuals at (bracket_at at)
  element_or_call name actuals at false = (name_with name actuals, at)

  -- behind a name that may have a substring
  abbrev pub after_own : List ℕ → ℕ → Option (Bracket × ℕ) → Primary × ℕ
  after_own name at None = (plain_name name, at)
  after_own name at (Some (bracket.Range first last, next)) = (substring name [] first last, next)
  after_own name at (Some (bracket.List actuals, next)) = element_or_call name actuals next (are_plain actuals)

  -- behind the name of a supplied function
  abbrev pub after_supplied : List ℕ → ℕ → Option (Bracket × ℕ) → Primary × ℕ
  after_supplied name at None = (plain_name name, at)
  after_supplied name at (Some (bracket.Range first last, next)) = (plain_name name, at)
  after_supplied name at (Some (bracket.List actuals, next)) = (name_with name actuals, next)

  -- behind a name
  unfoldable pub named : List ℕ → ℕ → Primary × ℕ
  named name at = if is_supplied name then after_supplied name at (bracket_at at) else after_own name at (bracket_at at)

  -- reads "(" expr ")"
  unfoldable pub group : Reader Primary
  group = built primary.Group (parenthesized tokens inner)

  -- an operand, by what stands there
  abbrev pub primary_by : ℕ → Option Numeral → Option (List ℕ) → Option (List ℕ) → Option (Primary × ℕ)
  primary_by at (Some value) text name = Some (primary.Numeral value, at + 1)
  primary_by at None (Some text) name = Some (primary.Quoted text, at + 1)
  primary_by at None None (Some name) = Some (named name (at + 1))
  primary_by at None None None = group at

  -- reads an operand
  unfoldable pub one_primary : Reader Primary
  one_primary at = primary_by at (numeral tokens at) (quoted tokens at) (any_name tokens at)

  -- "^" primary
  abbrev pub next_primary : Reader Primary
  next_primary = behind (at_mark caret tokens) one_primary

  -- reads a factor
  unfoldable pub one_factor : Reader Factor
  one_factor = built factor_of (separated (at_mark caret tokens) one_primary (length tokens))

  -- ( "*" | "/" ) factor
  abbrev pub next_factor : Reader (FactorSign × Factor)
  next_factor = terminal (at_mark factor_sign_of tokens) followed_by one_factor

  -- reads a term
  unfoldable pub one_term : Reader Term
  one_term = built term_of (chain (at_mark factor_sign_of tokens) one_factor (length tokens))

  -- ( "+" | "-" | "&" ) term
  abbrev pub next_term : Reader (TermSign × Term)
  next_term = terminal (at_mark term_sign_of tokens) followed_by one_term

  -- reads an expression whose parentheses `inner` reads
  unfoldable pub sum : Reader Expr
  sum = built expr_of (optional (terminal (at_mark sign_of tokens)) followed_by chain (at_mark term_sign_of tokens) one_term (length tokens))

-- reads an expression with parentheses nested less deep than the number
unfoldable pub expr : List Lexeme → ℕ → Reader Expr
expr tokens zero at = None
expr tokens (suc depth) at = sum tokens (expr tokens depth) at

-- ---- the places at which a part of an expression may go on

-- where an operand may go on: at "("
abbrev pub Opens : List Lexeme → ℕ → Type 0
Opens tokens n = IsSome (at_mark opening tokens n)

-- or at "^"
abbrev pub GoesFactor : List Lexeme → ℕ → Type 0
GoesFactor tokens n = Opens tokens n ⊎ IsSome (at_mark caret tokens n)

-- or at "*" and "/"
abbrev pub GoesTerm : List Lexeme → ℕ → Type 0
GoesTerm tokens n = GoesFactor tokens n ⊎ IsSome (at_mark factor_sign_of tokens n)

-- or at "+", "-" and "&"
abbrev pub GoesExpr : List Lexeme → ℕ → Type 0
GoesExpr tokens n = GoesTerm tokens n ⊎ IsSome (at_mark term_sign_of tokens n)
