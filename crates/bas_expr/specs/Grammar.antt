-- The grammar of expressions: which tokens spell which tree, one form for each production.
use Rattle.std.specs.Prelude.{ℕ, zero, suc, List, [], ◌∷◌, Option, Some, None}
use Rattle.bas_form.specs.Form.{Form, Terminal, ◌then◌, Optional, ◌or◌, Built, ◌perhaps◌, Chain, Between}
use Rattle.bas_ast.specs.declared.expression.Sign.{Sign}
use Rattle.bas_ast.specs.declared.expression.TermSign.{TermSign}
use Rattle.bas_ast.specs.declared.expression.FactorSign.{FactorSign}
use Rattle.bas_ast.specs.declared.expression.Expr.{Expr, roll-Expr}
use Rattle.bas_ast.specs.declared.expression.Term.{Term, roll-Term}
use Rattle.bas_ast.specs.declared.expression.Factor.{Factor, roll-Factor}
use Rattle.bas_ast.specs.declared.expression.Primary.{Primary}
use Rattle.bas_ast.specs.declared.expression.Primary as primary
use Rattle.bas_ast.specs.declared.expression.Args.{Args, roll-Args}
use Rattle.bas_ast.specs.declared.expression.Actual.{Actual}
use Rattle.bas_ast.specs.declared.expression.Actual as actual
use Rattle.bas_ast.specs.declared.expression.Target.{Target, roll-Target}
use Rattle.bas_expr.specs.Lexemes.{Lexeme}
use Rattle.bas_expr.specs.Marks.{at_mark, opening, closing, comma, colon, hash, caret, sign_of, term_sign_of, factor_sign_of}
use Rattle.bas_expr.specs.Words.{any_name, own_name, numeral, quoted}
use Rattle.bas_expr.specs.Separated.{Separated}

-- ---- the trees that parts make

-- a base and its exponents
abbrev pub factor_of : Primary × List Primary → Factor
factor_of p = roll-Factor (record { base = p.0; exponents = p.1 })

-- a factor, and those that multiply or divide it
abbrev pub term_of : Factor × List (FactorSign × Factor) → Term
term_of p = roll-Term (record { first = p.0; rest = p.1 })

-- a sign, a term, and those that are added, subtracted or joined
abbrev pub expr_of : Option Sign × (Term × List (TermSign × Term)) → Expr
expr_of p = roll-Expr (record { sign = p.0; first = p.1.0; rest = p.1.1 })

-- no list is the empty one
abbrev pub listed : {A : Type 0} → Option (A × List A) → List A
listed None = []
listed (Some p) = p.0 ∷ p.1

-- arguments in a list
abbrev pub args_of : List Actual → Args
args_of actuals = roll-Args (record { actuals = actuals })

-- a name and its subscripts
abbrev pub target_of : List ℕ × Option (Expr × List Expr) → Target
target_of p = roll-Target (record { name = p.0; subscripts = listed p.1 })

-- a name and its arguments
abbrev pub named_of : List ℕ × Option (Actual × List Actual) → Primary
named_of p = primary.Name p.0 (args_of (listed p.1))

-- a target, and the ends of a part of it
abbrev pub substring_of : Target × (Expr × Expr) → Primary
substring_of p = primary.Substring p.0 p.1.0 p.1.1

-- "(" something ")"
abbrev pub Parenthesized : {A : Type 0} → List Lexeme → Form A → Form A
Parenthesized tokens Inside = Between (at_mark opening tokens) (at_mark closing tokens) Inside

-- `Inner` is what an expression inside parentheses is.
module _ (tokens : List Lexeme) (Inner : Form Expr) where
  -- actual = expr | "#" expr
  abbrev pub IsActual : Form Actual
  IsActual = Built actual.Expr Inner or Built (λ (p : Unit {0} × Expr). actual.Chan p.1) (Terminal (at_mark hash tokens) then Inner)

  -- args = actual { "," actual }
  abbrev pub IsArgs : Form (Actual × List Actual)
  IsArgs = Separated (at_mark comma tokens) IsActual

  -- target = name [ "(" expr { "," expr } ")" ]
  abbrev pub IsTarget : Form Target
  IsTarget = Built target_of (Terminal (own_name tokens) perhaps Parenthesized tokens (Separated (at_mark comma tokens) Inner))

  -- expr ":" expr
  abbrev pub IsRange : Form (Expr × Expr)
  IsRange = Built (λ (p : Expr × (Unit {0} × Expr)). (p.0, p.1.1)) (Inner then Terminal (at_mark colon tokens) then Inner)

  -- primary = numeral | quoted | "(" expr ")" | name [ "(" args ")" ] | target "(" expr ":" expr ")"
  abbrev pub IsPrimary : Form Primary
  IsPrimary =
      Built primary.Numeral (Terminal (numeral tokens))
      or Built primary.Quoted (Terminal (quoted tokens))
      or Built primary.Group (Parenthesized tokens Inner)
      or Built named_of (Terminal (any_name tokens) perhaps Parenthesized tokens IsArgs)
      or Built substring_of (IsTarget then Parenthesized tokens IsRange)

  -- factor = primary { "^" primary }
  abbrev pub IsFactor : Form Factor
  IsFactor = Built factor_of (Separated (at_mark caret tokens) IsPrimary)

  -- term = factor { ( "*" | "/" ) factor }
  abbrev pub IsTerm : Form Term
  IsTerm = Built term_of (Chain (at_mark factor_sign_of tokens) IsFactor)

  -- expr = [ "+" | "-" ] term { ( "+" | "-" | "&" ) term }
  abbrev pub IsSum : Form Expr
  IsSum = Built expr_of (Optional (Terminal (at_mark sign_of tokens)) then Chain (at_mark term_sign_of tokens) IsTerm)

-- an expression with parentheses nested less deep than the number
unfoldable pub IsExpr : List Lexeme → ℕ → Form Expr
IsExpr tokens zero at e next = ⊥
IsExpr tokens (suc depth) at e next = IsSum tokens (IsExpr tokens depth) at e next

-- parentheses are nested less deep than this
abbrev pub levels : ℕ
levels = 65
