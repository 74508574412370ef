-- How the statement that a token begins is read, in one pass from the left.
use Rattle.std.specs.Prelude.{ℕ, List, Option, Some, None, codes}
use Rattle.bas_form.specs.Reader.{Reader, terminal, ◌followed_by◌, optional, either, dispatched, built, ◌maybe◌, between}
use Rattle.bas_ast.specs.declared.expression.Expr.{Expr}
use Rattle.bas_ast.specs.declared.expression.Actual.{Actual}
use Rattle.bas_ast.specs.declared.statement.Targets.{Targets}
use Rattle.bas_ast.specs.declared.statement.Plain.{Plain}
use Rattle.bas_ast.specs.declared.statement.Plain.TheVariants as plain
use Rattle.bas_expr.specs.Lexemes.{Lexeme}
use Rattle.bas_expr.specs.Marks.{at_mark, colon}
use Rattle.bas_expr.specs.Separated.{behind}
use Rattle.bas_expr.specs.Reading.{parenthesized, one_actual, next_actual}
use Rattle.bas_balance.specs.Balance.{GoesOn}
use Rattle.bas_declaration.specs.Keywords.{at_word, exception_word, spells}
use Rattle.bas_declaration.specs.Parts.{equals}
use Rattle.bas_declaration.specs.Reading.{listed, e, name}
use Rattle.bas_list.specs.Words.{line_number}
use Rattle.bas_list.specs.Reading.{inner, enclosed_values, targets, print_list}
use Rattle.bas_statement.specs.declared.verb.Verb.{Verb}
use Rattle.bas_statement.specs.declared.verb.Verb.TheVariants as v
use Rattle.bas_statement.specs.Verbs.{verb, exit_word, jump_word}
use Rattle.bas_statement.specs.Statements.{let_of, go_of, call_of, chain_of}

-- where a statement may go on: at a token that ends none
abbrev pub GoesStatement : List Lexeme → ℕ → Type 0
GoesStatement tokens n = GoesOn tokens n

-- targets with a prompt, and without
abbrev pub prompted : {A B : Type 0} → A × B → Option A × B
prompted p = (Some p.0, p.1)

abbrev pub unprompted : {A B : Type 0} → B → Option A × B
unprompted b = (None, b)

module _ (tokens : List Lexeme) where
  abbrev pub after : {A : Type 0} → Reader A → Reader A
  after rest = behind (verb tokens) rest

  abbrev pub number : Reader ℕ
  number = terminal (line_number tokens)

  unfoldable pub argument : Reader Actual
  argument = one_actual tokens (inner tokens)

  abbrev pub next_argument : Reader Actual
  next_argument = next_actual tokens (inner tokens)

  unfoldable pub argument_list : Reader (List Actual)
  argument_list = listed tokens (one_actual tokens (inner tokens))

  unfoldable pub arguments : Reader (List Actual)
  arguments = parenthesized tokens argument_list

  unfoldable pub prompt : Reader Expr
  prompt = between (spells (codes "PROMPT") tokens) (at_mark colon tokens) (e tokens)

  -- "PROMPT" expr ":" targets
  abbrev pub prompted_targets : Reader (Option Expr × Targets)
  prompted_targets = built prompted (prompt followed_by targets tokens)

  -- the prompt is tried first
  unfoldable pub asked : Reader (Option Expr × Targets)
  asked = either prompted_targets (built unprompted (targets tokens))

  unfoldable pub equals_value : Reader (Unit {0} × Expr)
  equals_value = terminal (equals tokens) followed_by e tokens

  unfoldable pub let_statement : Reader Plain
  let_statement = built let_of (after (targets tokens followed_by equals_value))

  unfoldable pub print_statement : Reader Plain
  print_statement = built plain.Print (after (print_list tokens))

  unfoldable pub input_statement : Reader Plain
  input_statement = built (λ (p : Option Expr × Targets). plain.Input p.0 p.1) (after asked)

  unfoldable pub input_asked : Reader (Option Expr × Targets)
  input_asked = behind (spells (codes "INPUT") tokens) asked

  unfoldable pub line_input_statement : Reader Plain
  line_input_statement = built (λ (p : Option Expr × Targets). plain.LineInput p.0 p.1) (after input_asked)

  unfoldable pub read_statement : Reader Plain
  read_statement = built plain.Read (after (targets tokens))

  unfoldable pub restore_statement : Reader Plain
  restore_statement = built plain.Restore (after (optional number))

  unfoldable pub jumping : (ℕ → Plain) → Reader Plain
  jumping make = built make (after number)

  unfoldable pub go_statement : Reader Plain
  go_statement = built go_of (after (terminal (at_word jump_word tokens) followed_by number))

  unfoldable pub alone : Plain → Reader Plain
  alone x = built (λ (lead : Verb). x) (terminal (verb tokens))

  unfoldable pub exit_statement : Reader Plain
  exit_statement = after (terminal (at_word exit_word tokens))

  unfoldable pub call_statement : Reader Plain
  call_statement = built call_of (after (name tokens maybe arguments))

  unfoldable pub exception : Reader Expr
  exception = behind (at_word exception_word tokens) (e tokens)

  unfoldable pub cause_statement : Reader Plain
  cause_statement = built plain.CauseException (after exception)

  unfoldable pub with_values : Reader (List Expr)
  with_values = behind (spells (codes "WITH") tokens) (enclosed_values tokens)

  unfoldable pub chain_statement : Reader Plain
  chain_statement = built chain_of (after (e tokens maybe with_values))

  abbrev pub statement_by : Verb → Reader Plain
  statement_by v.Let = let_statement
  statement_by v.Print = print_statement
  statement_by v.Line = line_input_statement
  statement_by v.Input = input_statement
  statement_by v.Read = read_statement
  statement_by v.Restore = restore_statement
  statement_by v.Goto = jumping plain.Goto
  statement_by v.Gosub = jumping plain.Gosub
  statement_by v.Go = go_statement
  statement_by v.Return = alone plain.Return
  statement_by v.Stop = alone plain.Stop
  statement_by v.Exit = exit_statement
  statement_by v.Call = call_statement
  statement_by v.Retry = alone plain.Retry
  statement_by v.Continue = alone plain.Continue
  statement_by v.Cause = cause_statement
  statement_by v.Chain = chain_statement

  unfoldable pub statement_at : Reader Plain
  statement_at = dispatched (verb tokens) statement_by
