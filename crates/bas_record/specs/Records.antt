-- The grammar of statements that name a channel, and of PRINT USING, one form for each alternative.
use Rattle.std.specs.Prelude.{ℕ, Bool, true, false, List, Option, Some, None, codes}
use Rattle.bas_form.specs.Reader.{◌>>=◌}
use Rattle.bas_form.specs.Form.{Form, Terminal, ◌then◌, Optional, Repeated, ◌or◌, Dispatched, Built, ◌perhaps◌}
use Rattle.bas_ast.specs.declared.expression.Expr.{Expr}
use Rattle.bas_ast.specs.declared.record_statement.Chan.{Chan}
use Rattle.bas_ast.specs.declared.record_statement.Setter.{Setter}
use Rattle.bas_ast.specs.declared.record_statement.MissWhen.{MissWhen}
use Rattle.bas_ast.specs.declared.record_statement.MissThen.{MissThen}
use Rattle.bas_ast.specs.declared.record_statement.MissThen.TheVariants as goes
use Rattle.bas_ast.specs.declared.record_statement.Miss.{Miss}
use Rattle.bas_ast.specs.declared.record_statement.Attr.{Attr}
use Rattle.bas_ast.specs.declared.statement.Sep.{Sep}
use Rattle.bas_ast.specs.declared.statement.Sep.TheVariants as sep
use Rattle.bas_ast.specs.declared.statement.Targets.{Targets}
use Rattle.bas_ast.specs.declared.statement.Plist.{Plist}
use Rattle.bas_ast.specs.declared.statement.Plain.{Plain}
use Rattle.bas_ast.specs.declared.statement.Plain.TheVariants as plain
use Rattle.bas_expr.specs.Lexemes.{Lexeme}
use Rattle.bas_expr.specs.Marks.{at_mark, comma, colon}
use Rattle.bas_expr.specs.Separated.{Behind}
use Rattle.bas_expr.specs.declared.TheConstants.{LEVELS}
use Rattle.bas_declaration.specs.Keywords.{spells}
use Rattle.bas_declaration.specs.Parts.{E}
use Rattle.bas_list.specs.Words.{separator_of, line_number, Ends}
use Rattle.bas_list.specs.Lists.{IsValues, IsTargets, IsPlist}
use Rattle.bas_record.specs.declared.print.Formatted.{Formatted}
use Rattle.bas_record.specs.declared.word.Verb.{Verb}
use Rattle.bas_record.specs.declared.word.Verb.TheVariants as v
use Rattle.bas_record.specs.Words.{verb, miss_when, exit}
use Rattle.bas_record.specs.Channels.{IsChan, IsSetter, IsNamed}

-- the separator, where it is a semicolon
abbrev pub only_semicolon : Sep → Option (Unit {0})
only_semicolon sep.Semicolon = Some tt
only_semicolon sep.Comma = None

-- ";"
abbrev pub semicolon : List Lexeme → ℕ → Option (Unit {0})
semicolon tokens at = at_mark separator_of tokens at >>= only_semicolon

-- ---- the trees that parts make

-- what is waited for, and where to go
abbrev pub miss_of : MissWhen × MissThen → Miss
miss_of p = record { when = p.0; goes = p.1 }

-- whether it stands
abbrev pub stands : Option (Unit {0}) → Bool
stands None = false
stands (Some u) = true

-- the values of a format
abbrev pub formatted_of : Expr × (List (Sep × Expr) × Option (Unit {0})) → Formatted
formatted_of p = record { first = p.0; rest = p.1.0; semicolon = stands p.1.1 }

-- a channel, a format and its values
abbrev pub print_using_of : Option Chan × (Expr × Formatted) → Plain
print_using_of p = plain.PrintUsing p.0 p.1.0 p.1.1.first p.1.1.rest p.1.1.semicolon

-- a channel, perhaps a setter, and perhaps where to go
abbrev pub Place : Type 0
Place = (Chan × Option Setter) × Option Miss

module _ (tokens : List Lexeme) where
  -- "EXIT" "DO" | "EXIT" "FOR" | number
  abbrev pub IsMissThen : Form MissThen
  IsMissThen = Behind (spells (codes "EXIT") tokens) (Terminal (exit tokens)) or Built goes.Number (Terminal (line_number tokens))

  -- miss = "IF" ( "MISSING" | "THERE" ) "THEN" ( "EXIT" "DO" | "EXIT" "FOR" | number )
  abbrev pub IsMiss : Form Miss
  IsMiss = Built miss_of (Behind (spells (codes "IF") tokens) (Terminal (miss_when tokens) then Behind (spells (codes "THEN") tokens) IsMissThen))

  -- chan [ "," setter ] [ "," miss ]
  abbrev pub IsPlace : Form ((Chan × Option Setter) × Option Miss)
  IsPlace = (IsChan tokens perhaps Behind (at_mark comma tokens) (IsSetter tokens)) perhaps Behind (at_mark comma tokens) IsMiss

  -- chan [ "," miss ] ":" targets
  abbrev pub IsInput : Form ((Chan × Option Miss) × Targets)
  IsInput = (IsChan tokens perhaps Behind (at_mark comma tokens) IsMiss) then Behind (at_mark colon tokens) (IsTargets tokens)

  -- "PRINT" chan [ ":" plist ]
  abbrev pub IsPrintChan : Form Plain
  IsPrintChan = Built (λ (p : Chan × Option Plist). plain.PrintChan p.0 p.1) (Behind (verb tokens) (IsChan tokens perhaps Behind (at_mark colon tokens) (IsPlist tokens)))

  -- chan ","
  abbrev pub IsChanComma : Form Chan
  IsChanComma = Built (λ (p : Chan × Unit {0}). p.0) (IsChan tokens then Terminal (at_mark comma tokens))

  -- sep expr
  abbrev pub IsNextFormatted : Form (Sep × Expr)
  IsNextFormatted = Terminal (at_mark separator_of tokens) then E tokens

  -- { sep expr } [ ";" ]
  abbrev pub IsRestFormatted : Form (List (Sep × Expr) × Option (Unit {0}))
  IsRestFormatted = Repeated IsNextFormatted then Optional (Terminal (semicolon tokens))

  -- expr { sep expr } [ ";" ]
  abbrev pub IsFormatted : Form Formatted
  IsFormatted = Built formatted_of (E tokens then IsRestFormatted)

  -- "USING" expr ":" expr { sep expr } [ ";" ]
  abbrev pub IsUsing : Form (Expr × Formatted)
  IsUsing = Behind (spells (codes "USING") tokens) (E tokens then Behind (at_mark colon tokens) IsFormatted)

  -- "PRINT" [ chan "," ] "USING" expr ":" expr { sep expr } [ ";" ]
  abbrev pub IsPrintUsing : Form Plain
  IsPrintUsing = Built print_using_of (Behind (verb tokens) (Optional IsChanComma then IsUsing))

  -- "LINE" "INPUT" chan [ "," miss ] ":" targets
  abbrev pub IsLineInput : Form Plain
  IsLineInput = Built (λ (p : (Chan × Option Miss) × Targets). plain.LineInputChan p.0.0 p.0.1 p.1) (Behind (verb tokens) (Behind (spells (codes "INPUT") tokens) IsInput))

  -- "INPUT" chan [ "," miss ] ":" targets
  abbrev pub IsInputLine : Form Plain
  IsInputLine = Built (λ (p : (Chan × Option Miss) × Targets). plain.InputChan p.0.0 p.0.1 p.1) (Behind (verb tokens) IsInput)

  -- "OPEN" chan ":" "NAME" expr { "," attr }
  abbrev pub IsOpen : Form Plain
  IsOpen = Built (λ (p : Chan × (Expr × List Attr)). plain.Open p.0 p.1.0 p.1.1) (Behind (verb tokens) (IsChan tokens then Behind (at_mark colon tokens) (IsNamed tokens)))

  -- "CLOSE" chan
  abbrev pub IsClose : Form Plain
  IsClose = Built plain.Close (Behind (verb tokens) (IsChan tokens))

  -- "SET" chan ":" "POINTER" setter
  abbrev pub IsSet : Form Plain
  IsSet = Built (λ (p : Chan × Setter). plain.SetPointer p.0 p.1) (Behind (verb tokens) (IsChan tokens then Behind (at_mark colon tokens) (Behind (spells (codes "POINTER") tokens) (IsSetter tokens))))

  -- "READ" chan [ "," setter ] [ "," miss ] ":" targets
  abbrev pub IsRead : Form Plain
  IsRead = Built (λ (p : Place × Targets). plain.ReadChan p.0.0.0 p.0.0.1 p.0.1 p.1) (Behind (verb tokens) (IsPlace then Behind (at_mark colon tokens) (IsTargets tokens)))

  -- ( "WRITE" | "REWRITE" ) chan [ "," setter ] [ "," miss ] ":" expr { "," expr }
  abbrev pub IsWritten : (Chan → Option Setter → Option Miss → List Expr → Plain) → Form Plain
  IsWritten make = Built (λ (p : Place × List Expr). make p.0.0.0 p.0.0.1 p.0.1 p.1) (Behind (verb tokens) (IsPlace then Behind (at_mark colon tokens) (IsValues tokens LEVELS)))

  -- "DELETE" chan [ "," setter ] [ "," miss ]
  abbrev pub IsDelete : Form Plain
  IsDelete = Built (λ (p : Place). plain.Delete p.0.0 p.0.1 p.1) (Behind (verb tokens) IsPlace)

  -- the alternatives, by the word that begins each
  abbrev pub RecordBy : Verb → Form Plain
  RecordBy v.Print = IsPrintChan or IsPrintUsing
  RecordBy v.Line = IsLineInput
  RecordBy v.Input = IsInputLine
  RecordBy v.Open = IsOpen
  RecordBy v.Close = IsClose
  RecordBy v.Set = IsSet
  RecordBy v.Read = IsRead
  RecordBy v.Write = IsWritten plain.Write
  RecordBy v.Rewrite = IsWritten plain.Rewrite
  RecordBy v.Delete = IsDelete

  -- a statement on a channel, or PRINT USING, by its first word
  abbrev pub IsRecordStatement : Form Plain
  IsRecordStatement = Dispatched (verb tokens) RecordBy

-- where a statement may go on: nowhere behind the last token, at a remark or at ELSE
abbrev pub GoesRecord : List Lexeme → ℕ → Type 0
GoesRecord tokens n = Ends tokens n → ⊥
