-- How the list that a token begins is read, in one pass from the left.
use Rattle.std.specs.Prelude.{ℕ, ◌⊎◌, List, ◌∷◌, length, Option, IsSome, codes}
use Rattle.bas_form.specs.Reader.{Reader, terminal, ◌followed_by◌, optional, repeated, either, built, ◌maybe◌, Begins}
use Rattle.bas_ast.specs.declared.expression.Expr.{Expr}
use Rattle.bas_ast.specs.declared.expression.Target.{Target}
use Rattle.bas_ast.specs.declared.statement.Targets.{Targets}
use Rattle.bas_ast.specs.declared.statement.Sep.{Sep}
use Rattle.bas_ast.specs.declared.statement.Pitem.{Pitem}
use Rattle.bas_ast.specs.declared.statement.Pitem.TheVariants as pitem
use Rattle.bas_ast.specs.declared.statement.Plist.{Plist}
use Rattle.bas_expr.specs.Lexemes.{Lexeme}
use Rattle.bas_expr.specs.Marks.{at_mark, comma}
use Rattle.bas_expr.specs.Words.{own_name}
use Rattle.bas_expr.specs.Separated.{behind, separated}
use Rattle.bas_expr.specs.Grammar.{target_of}
use Rattle.bas_expr.specs.Reading.{parenthesized, expr, GoesExpr}
use Rattle.bas_declaration.specs.Reading.{listed, e}
use Rattle.bas_list.specs.declared.TheConstants.{INNER_LEVELS}
use Rattle.bas_declaration.specs.Keywords.{spells}
use Rattle.bas_list.specs.Words.{separator_of}
use Rattle.bas_list.specs.Lists.{targets_of, plist_of}

-- the items of a list with a first one
abbrev pub in_list : {A : Type 0} → (A × List A) × ℕ → List A × ℕ
in_list r = (r.0.0 ∷ r.0.1, r.1)

module _ (tokens : List Lexeme) where
  abbrev pub inner : Reader Expr
  inner = expr tokens INNER_LEVELS

  abbrev pub next_value : ℕ → Reader Expr
  next_value depth = behind (at_mark comma tokens) (expr tokens depth)

  unfoldable pub values : ℕ → Reader (List Expr)
  values depth = listed tokens (expr tokens depth)

  unfoldable pub enclosed_values : Reader (List Expr)
  enclosed_values = parenthesized tokens (values INNER_LEVELS)

  unfoldable pub subscripts : Reader (Expr × List Expr)
  subscripts = parenthesized tokens (separated (at_mark comma tokens) inner (length tokens))

  unfoldable pub one_target : Reader Target
  one_target = built target_of (terminal (own_name tokens) maybe subscripts)

  abbrev pub next_target : Reader Target
  next_target = behind (at_mark comma tokens) one_target

  unfoldable pub target_list : Reader (List Target)
  target_list = listed tokens one_target

  unfoldable pub targets : Reader Targets
  targets = built targets_of target_list

  unfoldable pub enclosed_expr : Reader Expr
  enclosed_expr = parenthesized tokens inner

  unfoldable pub tab_item : Reader Expr
  tab_item = behind (spells (codes "TAB") tokens) enclosed_expr

  unfoldable pub print_item : Reader Pitem
  print_item = either (built pitem.Expr (e tokens)) (built pitem.Tab tab_item)

  unfoldable pub next_item : Reader (Sep × Option Pitem)
  next_item = terminal (at_mark separator_of tokens) followed_by optional print_item

  unfoldable pub print_list : Reader Plist
  print_list = built plist_of (optional print_item followed_by repeated next_item (length tokens))

-- ---- the places at which a list may go on

-- targets and values: where an expression may, and at a comma
abbrev pub GoesList : List Lexeme → ℕ → Type 0
GoesList tokens n = GoesExpr tokens n ⊎ IsSome (at_mark comma tokens n)

-- a print list: where an expression may, at a separator, and where an item begins
abbrev pub GoesPrint : List Lexeme → ℕ → Type 0
GoesPrint tokens n = GoesExpr tokens n ⊎ (IsSome (at_mark separator_of tokens n) ⊎ Begins (print_item tokens) n)
