-- The grammar of the lists that statements share, one form for each production.
use Rattle.std.specs.Prelude.{ℕ, List, Option, codes}
use Rattle.bas_form.specs.Form.{Form, Terminal, ◌then◌, Optional, ◌or◌, Built, ◌repeating◌}
use Rattle.bas_ast.specs.declared.expression.Expr.{Expr}
use Rattle.bas_ast.specs.declared.expression.Target.{Target}
use Rattle.bas_ast.specs.declared.statement.Targets.{Targets}
use Rattle.bas_ast.specs.declared.statement.Sep.{Sep}
use Rattle.bas_ast.specs.declared.statement.Pitem.{Pitem}
use Rattle.bas_ast.specs.declared.statement.Pitem.TheVariants as pitem
use Rattle.bas_ast.specs.declared.statement.Plist.{Plist}
use Rattle.bas_expr.specs.Lexemes.{Lexeme}
use Rattle.bas_expr.specs.Marks.{at_mark}
use Rattle.bas_expr.specs.Separated.{Behind}
use Rattle.bas_expr.specs.Grammar.{IsExpr, IsTarget, Parenthesized}
use Rattle.bas_declaration.specs.Parts.{Listed, E}
use Rattle.bas_list.specs.declared.TheConstants.{INNER_LEVELS}
use Rattle.bas_declaration.specs.Keywords.{spells}
use Rattle.bas_list.specs.Words.{separator_of}

-- targets in a list
abbrev pub targets_of : List Target → Targets
targets_of targets = record { targets = targets }

-- a first item, and separators with the items behind them
abbrev pub plist_of : Option Pitem × List (Sep × Option Pitem) → Plist
plist_of p = record { first = p.0; rest = p.1 }

module _ (tokens : List Lexeme) where
  -- an expression inside parentheses
  abbrev pub Inner : Form Expr
  Inner = IsExpr tokens INNER_LEVELS

  -- values = expr { "," expr }, with parentheses nested less deep than the number
  abbrev pub IsValues : ℕ → Form (List Expr)
  IsValues depth = Listed tokens (IsExpr tokens depth)

  -- "(" values ")"
  abbrev pub IsEnclosed : Form (List Expr)
  IsEnclosed = Parenthesized tokens (IsValues INNER_LEVELS)

  -- targets = target { "," target }
  abbrev pub IsTargets : Form Targets
  IsTargets = Built targets_of (Listed tokens (IsTarget tokens Inner))

  -- pitem = expr | "TAB" "(" expr ")"
  abbrev pub IsPitem : Form Pitem
  IsPitem = Built pitem.Expr (E tokens) or Built pitem.Tab (Behind (spells (codes "TAB") tokens) (Parenthesized tokens Inner))

  -- sep [ pitem ]
  abbrev pub IsNext : Form (Sep × Option Pitem)
  IsNext = Terminal (at_mark separator_of tokens) then Optional IsPitem

  -- plist = [ pitem ] { sep [ pitem ] }
  abbrev pub IsPlist : Form Plist
  IsPlist = Built plist_of (Optional IsPitem repeating IsNext)
