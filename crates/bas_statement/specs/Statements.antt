-- The grammar of statements of one line that name no channel, one form for each production.
use Rattle.std.specs.Prelude.{ℕ, List, [], Option, Some, None, codes}
use Rattle.bas_form.specs.Form.{Form, Terminal, ◌then◌, Optional, Dispatched, Built, ◌perhaps◌, Between}
use Rattle.bas_ast.specs.declared.expression.Expr.{Expr}
use Rattle.bas_ast.specs.declared.expression.Actual.{Actual}
use Rattle.bas_ast.specs.declared.statement.Targets.{Targets}
use Rattle.bas_ast.specs.declared.statement.Plain.{Plain}
use Rattle.bas_ast.specs.declared.statement.Plain.TheVariants as plain
use Rattle.bas_expr.specs.Lexemes.{Lexeme}
use Rattle.bas_expr.specs.Marks.{at_mark, colon}
use Rattle.bas_expr.specs.Separated.{Behind}
use Rattle.bas_expr.specs.Grammar.{Parenthesized, IsActual, args_of}
use Rattle.bas_declaration.specs.Keywords.{at_word, exception_word, spells}
use Rattle.bas_declaration.specs.Parts.{Listed, equals, E, Name}
use Rattle.bas_list.specs.Words.{line_number}
use Rattle.bas_list.specs.Lists.{Inner, IsEnclosed, IsTargets, IsPlist}
use Rattle.bas_statement.specs.declared.verb.Verb.{Verb}
use Rattle.bas_statement.specs.declared.verb.Verb.TheVariants as v
use Rattle.bas_statement.specs.declared.verb.Jump.{Jump}
use Rattle.bas_statement.specs.declared.verb.Jump.TheVariants as jump
use Rattle.bas_statement.specs.Verbs.{verb, exit_word, jump_word}

-- ---- the trees that parts make

abbrev pub let_of : Targets × (Unit {0} × Expr) → Plain
let_of p = plain.Let p.0 p.1.1

abbrev pub go_of : Jump × ℕ → Plain
go_of (jump.To, number) = plain.Goto number
go_of (jump.Sub, number) = plain.Gosub number

-- no list stands without parentheses
abbrev pub list_of : {A : Type 0} → Option (List A) → List A
list_of None = []
list_of (Some items) = items

abbrev pub call_of : List ℕ × Option (List Actual) → Plain
call_of p = plain.Call p.0 (args_of (list_of p.1))

abbrev pub chain_of : Expr × Option (List Expr) → Plain
chain_of p = plain.Chain p.0 (list_of p.1)

module _ (tokens : List Lexeme) where
  -- the word that a statement begins with, and what stands behind it
  abbrev pub After : {A : Type 0} → Form A → Form A
  After Rest = Behind (verb tokens) Rest

  abbrev pub Number : Form ℕ
  Number = Terminal (line_number tokens)

  -- args = actual { "," actual }, in parentheses
  abbrev pub IsArguments : Form (List Actual)
  IsArguments = Parenthesized tokens (Listed tokens (IsActual tokens (Inner tokens)))

  -- "PROMPT" expr ":"
  abbrev pub IsPrompt : Form Expr
  IsPrompt = Between (spells (codes "PROMPT") tokens) (at_mark colon tokens) (E tokens)

  -- [ "PROMPT" expr ":" ] targets
  abbrev pub IsAsked : Form (Option Expr × Targets)
  IsAsked = Optional IsPrompt then IsTargets tokens

  -- "LET" targets "=" expr
  abbrev pub IsLet : Form Plain
  IsLet = Built let_of (After (IsTargets tokens then Terminal (equals tokens) then E tokens))

  -- "PRINT" plist
  abbrev pub IsPrint : Form Plain
  IsPrint = Built plain.Print (After (IsPlist tokens))

  -- "INPUT" [ "PROMPT" expr ":" ] targets
  abbrev pub IsInput : Form Plain
  IsInput = Built (λ (p : Option Expr × Targets). plain.Input p.0 p.1) (After IsAsked)

  -- "LINE" "INPUT" [ "PROMPT" expr ":" ] targets
  abbrev pub IsLineInput : Form Plain
  IsLineInput = Built (λ (p : Option Expr × Targets). plain.LineInput p.0 p.1) (After (Behind (spells (codes "INPUT") tokens) IsAsked))

  -- "READ" targets
  abbrev pub IsRead : Form Plain
  IsRead = Built plain.Read (After (IsTargets tokens))

  -- "RESTORE" [ number ]
  abbrev pub IsRestore : Form Plain
  IsRestore = Built plain.Restore (After (Optional Number))

  -- "GOTO" number | "GOSUB" number
  abbrev pub Jumping : (ℕ → Plain) → Form Plain
  Jumping make = Built make (After Number)

  -- "GO" ( "TO" | "SUB" ) number
  abbrev pub IsGo : Form Plain
  IsGo = Built go_of (After (Terminal (at_word jump_word tokens) then Number))

  -- a statement of one word
  abbrev pub Alone : Plain → Form Plain
  Alone x = Built (λ (lead : Verb). x) (Terminal (verb tokens))

  -- "EXIT" ( "DO" | "FOR" | "SUB" | "FUNCTION" | "HANDLER" )
  abbrev pub IsExit : Form Plain
  IsExit = After (Terminal (at_word exit_word tokens))

  -- "CALL" name [ "(" args ")" ]
  abbrev pub IsCall : Form Plain
  IsCall = Built call_of (After (Name tokens perhaps IsArguments))

  -- "CAUSE" "EXCEPTION" expr
  abbrev pub IsCause : Form Plain
  IsCause = Built plain.CauseException (After (Behind (at_word exception_word tokens) (E tokens)))

  -- "CHAIN" expr [ "WITH" "(" expr { "," expr } ")" ]
  abbrev pub IsChain : Form Plain
  IsChain = Built chain_of (After (E tokens perhaps Behind (spells (codes "WITH") tokens) (IsEnclosed tokens)))

  -- the alternatives, by the word that begins each
  abbrev pub StatementBy : Verb → Form Plain
  StatementBy v.Let = IsLet
  StatementBy v.Print = IsPrint
  StatementBy v.Line = IsLineInput
  StatementBy v.Input = IsInput
  StatementBy v.Read = IsRead
  StatementBy v.Restore = IsRestore
  StatementBy v.Goto = Jumping plain.Goto
  StatementBy v.Gosub = Jumping plain.Gosub
  StatementBy v.Go = IsGo
  StatementBy v.Return = Alone plain.Return
  StatementBy v.Stop = Alone plain.Stop
  StatementBy v.Exit = IsExit
  StatementBy v.Call = IsCall
  StatementBy v.Retry = Alone plain.Retry
  StatementBy v.Continue = Alone plain.Continue
  StatementBy v.Cause = IsCause
  StatementBy v.Chain = IsChain

  abbrev pub IsStatement : Form Plain
  IsStatement = Dispatched (verb tokens) StatementBy
