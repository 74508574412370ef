-- How the statement on a channel that a token begins is read, in one pass from the left.
use Rattle.std.specs.Prelude.{List, length, Option, codes}
use Rattle.bas_form.specs.Reader.{Reader, terminal, ◌followed_by◌, optional, repeated, either, dispatched, built, ◌maybe◌}
use Rattle.bas_ast.specs.declared.expression.Expr.{Expr}
use Rattle.bas_ast.specs.declared.record_statement.Chan.{Chan}
use Rattle.bas_ast.specs.declared.record_statement.Setter.{Setter}
use Rattle.bas_ast.specs.declared.record_statement.MissThen.{MissThen}
use Rattle.bas_ast.specs.declared.record_statement.MissThen.TheVariants as goes
use Rattle.bas_ast.specs.declared.record_statement.Miss.{Miss}
use Rattle.bas_ast.specs.declared.record_statement.Attr.{Attr}
use Rattle.bas_ast.specs.declared.statement.Sep.{Sep}
use Rattle.bas_ast.specs.declared.statement.Targets.{Targets}
use Rattle.bas_ast.specs.declared.statement.Plist.{Plist}
use Rattle.bas_ast.specs.declared.statement.Plain.{Plain}
use Rattle.bas_ast.specs.declared.statement.Plain.TheVariants as plain
use Rattle.bas_expr.specs.Lexemes.{Lexeme}
use Rattle.bas_expr.specs.Marks.{at_mark, comma, colon}
use Rattle.bas_expr.specs.Separated.{behind}
use Rattle.bas_expr.specs.declared.TheConstants.{LEVELS}
use Rattle.bas_declaration.specs.Keywords.{spells}
use Rattle.bas_declaration.specs.Reading.{e}
use Rattle.bas_list.specs.Words.{separator_of, line_number}
use Rattle.bas_list.specs.Reading.{values, targets, print_list}
use Rattle.bas_record.specs.declared.print.Formatted.{Formatted}
use Rattle.bas_record.specs.declared.word.Verb.{Verb}
use Rattle.bas_record.specs.declared.word.Verb.TheVariants as v
use Rattle.bas_record.specs.Words.{verb, miss_when, exit}
use Rattle.bas_record.specs.Reading.{chan, one_setter, named}
use Rattle.bas_record.specs.Records.{Place, semicolon, miss_of, formatted_of, print_using_of}

module _ (tokens : List Lexeme) where
  unfoldable pub exit_loop : Reader MissThen
  exit_loop = behind (spells (codes "EXIT") tokens) (terminal (exit tokens))

  unfoldable pub miss_then : Reader MissThen
  miss_then = either exit_loop (built goes.Number (terminal (line_number tokens)))

  unfoldable pub then_part : Reader MissThen
  then_part = behind (spells (codes "THEN") tokens) miss_then

  unfoldable pub miss : Reader Miss
  miss = built miss_of (behind (spells (codes "IF") tokens) (terminal (miss_when tokens) followed_by then_part))

  unfoldable pub next_miss : Reader Miss
  next_miss = behind (at_mark comma tokens) miss

  unfoldable pub next_setter : Reader Setter
  next_setter = behind (at_mark comma tokens) (one_setter tokens)

  unfoldable pub chan_and_setter : Reader (Chan × Option Setter)
  chan_and_setter = chan tokens maybe next_setter

  unfoldable pub place : Reader Place
  place = chan_and_setter maybe next_miss

  unfoldable pub chan_and_miss : Reader (Chan × Option Miss)
  chan_and_miss = chan tokens maybe next_miss

  unfoldable pub input : Reader ((Chan × Option Miss) × Targets)
  input = chan_and_miss followed_by behind (at_mark colon tokens) (targets tokens)

  unfoldable pub colon_list : Reader Plist
  colon_list = behind (at_mark colon tokens) (print_list tokens)

  unfoldable pub print_chan : Reader Plain
  print_chan = built (λ (p : Chan × Option Plist). plain.PrintChan p.0 p.1) (behind (verb tokens) (chan tokens maybe colon_list))

  unfoldable pub chan_comma : Reader Chan
  chan_comma = built (λ (p : Chan × Unit {0}). p.0) (chan tokens followed_by terminal (at_mark comma tokens))

  unfoldable pub next_formatted : Reader (Sep × Expr)
  next_formatted = terminal (at_mark separator_of tokens) followed_by e tokens

  unfoldable pub rest_formatted : Reader (List (Sep × Expr) × Option (Unit {0}))
  rest_formatted = repeated next_formatted (length tokens) followed_by optional (terminal (semicolon tokens))

  unfoldable pub formatted : Reader Formatted
  formatted = built formatted_of (e tokens followed_by rest_formatted)

  unfoldable pub using_part : Reader (Expr × Formatted)
  using_part = behind (spells (codes "USING") tokens) (e tokens followed_by behind (at_mark colon tokens) formatted)

  unfoldable pub print_using : Reader Plain
  print_using = built print_using_of (behind (verb tokens) (optional chan_comma followed_by using_part))

  unfoldable pub print_line : Reader Plain
  print_line = either print_using print_chan

  unfoldable pub line_input : Reader Plain
  line_input = built (λ (p : (Chan × Option Miss) × Targets). plain.LineInputChan p.0.0 p.0.1 p.1) (behind (verb tokens) (behind (spells (codes "INPUT") tokens) input))

  unfoldable pub input_line : Reader Plain
  input_line = built (λ (p : (Chan × Option Miss) × Targets). plain.InputChan p.0.0 p.0.1 p.1) (behind (verb tokens) input)

  unfoldable pub open_line : Reader Plain
  open_line = built (λ (p : Chan × (Expr × List Attr)). plain.Open p.0 p.1.0 p.1.1) (behind (verb tokens) (chan tokens followed_by behind (at_mark colon tokens) (named tokens)))

  unfoldable pub close_line : Reader Plain
  close_line = built plain.Close (behind (verb tokens) (chan tokens))

  unfoldable pub set_line : Reader Plain
  set_line = built (λ (p : Chan × Setter). plain.SetPointer p.0 p.1) (behind (verb tokens) (chan tokens followed_by behind (at_mark colon tokens) (behind (spells (codes "POINTER") tokens) (one_setter tokens))))

  unfoldable pub read_line : Reader Plain
  read_line = built (λ (p : Place × Targets). plain.ReadChan p.0.0.0 p.0.0.1 p.0.1 p.1) (behind (verb tokens) (place followed_by behind (at_mark colon tokens) (targets tokens)))

  unfoldable pub written : Reader (Place × List Expr)
  written = behind (verb tokens) (place followed_by behind (at_mark colon tokens) (values tokens LEVELS))

  abbrev pub written_line : (Chan → Option Setter → Option Miss → List Expr → Plain) → Reader Plain
  written_line make = built (λ (p : Place × List Expr). make p.0.0.0 p.0.0.1 p.0.1 p.1) written

  unfoldable pub delete_line : Reader Plain
  delete_line = built (λ (p : Place). plain.Delete p.0.0 p.0.1 p.1) (behind (verb tokens) place)

  abbrev pub record_by : Verb → Reader Plain
  record_by v.Print = print_line
  record_by v.Line = line_input
  record_by v.Input = input_line
  record_by v.Open = open_line
  record_by v.Close = close_line
  record_by v.Set = set_line
  record_by v.Read = read_line
  record_by v.Write = written_line plain.Write
  record_by v.Rewrite = written_line plain.Rewrite
  record_by v.Delete = delete_line

  unfoldable pub record_statement_at : Reader Plain
  record_statement_at = dispatched (verb tokens) record_by
