-- The grammar of conditions: which tokens spell which tree, one form for each production.
use Rattle.std.specs.Prelude.{ℕ, zero, suc, List, length}
use Rattle.bas_form.specs.Form.{Form, Terminal, ◌then◌, ◌or◌, Built}
use Rattle.bas_ast.specs.declared.expression.Expr.{Expr}
use Rattle.bas_ast.specs.declared.condition.Rel.{Rel}
use Rattle.bas_ast.specs.declared.condition.Test.{Test}
use Rattle.bas_ast.specs.declared.condition.Test as t
use Rattle.bas_ast.specs.declared.condition.Conj.{Conj, roll-Conj}
use Rattle.bas_ast.specs.declared.condition.Cond.{Cond, roll-Cond}
use Rattle.bas_expr.specs.Lexemes.{Lexeme}
use Rattle.bas_expr.specs.Marks.{at_mark, rel_of}
use Rattle.bas_expr.specs.Words.{negation, and_word, or_word}
use Rattle.bas_expr.specs.Separated.{Behind, Separated}
use Rattle.bas_expr.specs.Grammar.{IsExpr, Parenthesized}

-- a test, and those behind AND
abbrev pub conj_of : Test × List Test → Conj
conj_of p = roll-Conj (record { first = p.0; rest = p.1 })

-- a conjunction, and those behind OR
abbrev pub cond_of : Conj × List Conj → Cond
cond_of p = roll-Cond (record { first = p.0; rest = p.1 })

-- two expressions and the relation between them
abbrev pub compare_of : Expr × (Rel × Expr) → Test
compare_of p = t.Compare p.0 p.1.0 p.1.1

-- expr rel expr
abbrev pub IsComparison : List Lexeme → Form Expr → Form (Expr × (Rel × Expr))
IsComparison tokens E = E then Terminal (at_mark rel_of tokens) then E

-- `E` is what an expression is, and `Inner` what a condition inside parentheses is.
module _ (tokens : List Lexeme) (E : Form Expr) (Inner : Form Cond) where
  -- test = "NOT" test | "(" cond ")" | expr rel expr; so many NOT may stand in a row, less one
  unfoldable pub IsTest : ℕ → Form Test
  IsTest zero at x next = ⊥
  IsTest (suc nots) at x next =
      (Built t.Not (Behind (negation tokens) (IsTest nots))
      or Built t.Group (Parenthesized tokens Inner)
      or Built compare_of (IsComparison tokens E)) at x next

  -- conj = test { "AND" test }
  abbrev pub IsConj : ℕ → Form Conj
  IsConj nots = Built conj_of (Separated (and_word tokens) (IsTest nots))

  -- cond = conj { "OR" conj }
  abbrev pub IsAlternative : ℕ → Form Cond
  IsAlternative nots = Built cond_of (Separated (or_word tokens) (IsConj nots))

-- a condition with parentheses nested less deep than the number; no line has as many NOT in a row as tokens
unfoldable pub IsCond : List Lexeme → ℕ → Form Cond
IsCond tokens zero at c next = ⊥
IsCond tokens (suc depth) at c next = IsAlternative tokens (IsExpr tokens (suc depth)) (IsCond tokens depth) (length tokens) at c next
