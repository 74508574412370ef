-- The reader of statements on channels takes the longest.
use Rattle.std.proofs.Common.{ℕ, inl, List, length, Option, codes, arith}
use Rattle.bas_form.specs.Form.{Form, ◌then◌}
use Rattle.bas_form.specs.Reader.{ReadsLongest}
use Rattle.bas_form.proofs.ReaderLaws.{built_longest, dispatched_longest, weaker}
use Rattle.bas_form.proofs.SequenceLaws.{then_longest}
use Rattle.bas_ast.specs.declared.expression.Expr.{Expr}
use Rattle.bas_ast.specs.declared.record_statement.Chan.{Chan}
use Rattle.bas_ast.specs.declared.record_statement.Setter.{Setter}
use Rattle.bas_ast.specs.declared.record_statement.Miss.{Miss}
use Rattle.bas_ast.specs.declared.record_statement.Attr.{Attr}
use Rattle.bas_ast.specs.declared.statement.Targets.{Targets}
use Rattle.bas_ast.specs.declared.statement.Plain.{Plain}
use Rattle.bas_ast.specs.declared.statement.Plain.TheVariants as plain
use Rattle.bas_expr.specs.Lexemes.{Lexeme}
use Rattle.bas_expr.specs.Marks.{at_mark, colon}
use Rattle.bas_expr.specs.Separated.{Behind}
use Rattle.bas_expr.specs.Reading.{GoesExpr}
use Rattle.bas_expr.specs.declared.TheConstants.{LEVELS}
use Rattle.bas_declaration.specs.Keywords.{spells}
use Rattle.bas_declaration.proofs.WordLaws.{spells_inside}
use Rattle.bas_list.specs.Lists.{IsValues, IsTargets}
use Rattle.bas_list.proofs.ListLaws.{values_longest, targets_longest}
use Rattle.bas_record.specs.declared.word.Verb.{Verb}
use Rattle.bas_record.specs.declared.word.Verb.TheVariants as v
use Rattle.bas_record.specs.Words.{verb}
use Rattle.bas_record.specs.Channels.{IsSetter, IsNamed}
use Rattle.bas_record.specs.Records.{Place, IsPlace, IsLineInput, IsInputLine, IsOpen, IsClose, IsSet, IsRead, IsWritten, IsDelete, RecordBy, IsRecordStatement, GoesRecord}
use Rattle.bas_record.specs.Recording.{line_input, input_line, open_line, close_line, set_line, read_line, written, written_line, delete_line, record_by, record_statement_at}
use Rattle.bas_record.proofs.WordLaws.{led_one}
use Rattle.bas_record.proofs.ChannelLaws.{chan_longest, setter_longest, named_longest}
use Rattle.bas_record.proofs.PlaceLaws.{expr_goes, list_goes, place_longest, input_longest, before_colon}
use Rattle.bas_record.proofs.UsingLaws.{verb_then, colon_then, print_line_longest}

module _ (tokens : List Lexeme) where
  -- no colon goes on with a channel
  chan_colon : {A : Type 0} (F : Form A) (n : ℕ) → GoesExpr tokens n → (b : A) (m : ℕ) → Behind (at_mark colon tokens) F n b m → ⊥
  chan_colon F n g b m h = before_colon tokens F n (inl g) b m h

  line_input_longest : ReadsLongest (length tokens) 1 (IsLineInput tokens) (GoesRecord tokens) (line_input tokens)
  unfolding line_input
  line_input_longest = built_longest (λ (p : (Chan × Option Miss) × Targets). plain.LineInputChan p.0.0 p.0.1 p.1)
      (verb_then tokens (led_one (spells (codes "INPUT") tokens) (spells_inside tokens (codes "INPUT")) (input_longest tokens)))

  input_line_longest : ReadsLongest (length tokens) 1 (IsInputLine tokens) (GoesRecord tokens) (input_line tokens)
  unfolding input_line
  input_line_longest = built_longest (λ (p : (Chan × Option Miss) × Targets). plain.InputChan p.0.0 p.0.1 p.1) (verb_then tokens (input_longest tokens))

  open_longest : ReadsLongest (length tokens) 1 (IsOpen tokens) (GoesRecord tokens) (open_line tokens)
  unfolding open_line
  open_longest = weaker (built_longest (λ (p : Chan × (Expr × List Attr)). plain.Open p.0 p.1.0 p.1.1)
      (verb_then tokens (then_longest (chan_longest tokens) (colon_then tokens (named_longest tokens)) (chan_colon (IsNamed tokens))))) (GoesRecord tokens) 1 (list_goes tokens) (omega arith)

  close_longest : ReadsLongest (length tokens) 1 (IsClose tokens) (GoesRecord tokens) (close_line tokens)
  unfolding close_line
  close_longest = weaker (built_longest plain.Close (verb_then tokens (chan_longest tokens))) (GoesRecord tokens) 1 (expr_goes tokens) (omega arith)

  set_longest : ReadsLongest (length tokens) 1 (IsSet tokens) (GoesRecord tokens) (set_line tokens)
  unfolding set_line
  set_longest = weaker (built_longest (λ (p : Chan × Setter). plain.SetPointer p.0 p.1)
      (verb_then tokens (then_longest (chan_longest tokens) (colon_then tokens (led_one (spells (codes "POINTER") tokens) (spells_inside tokens (codes "POINTER")) (setter_longest tokens)))
      (chan_colon (Behind (spells (codes "POINTER") tokens) (IsSetter tokens)))))) (GoesRecord tokens) 1 (expr_goes tokens) (omega arith)

  read_longest : ReadsLongest (length tokens) 1 (IsRead tokens) (GoesRecord tokens) (read_line tokens)
  unfolding read_line
  read_longest = weaker (built_longest (λ (p : Place × Targets). plain.ReadChan p.0.0.0 p.0.0.1 p.0.1 p.1)
      (verb_then tokens (then_longest (place_longest tokens) (colon_then tokens (targets_longest tokens)) (before_colon tokens (IsTargets tokens))))) (GoesRecord tokens) 1 (list_goes tokens) (omega arith)

  written_part : ReadsLongest (length tokens) 1 (Behind (verb tokens) (IsPlace tokens then Behind (at_mark colon tokens) (IsValues tokens LEVELS))) (GoesRecord tokens) (written tokens)
  unfolding written
  written_part = weaker (verb_then tokens (then_longest (place_longest tokens) (colon_then tokens (values_longest tokens LEVELS)) (before_colon tokens (IsValues tokens LEVELS)))) (GoesRecord tokens) 1 (list_goes tokens) (omega arith)

  written_longest : (make : Chan → Option Setter → Option Miss → List Expr → Plain) → ReadsLongest (length tokens) 1 (IsWritten tokens make) (GoesRecord tokens) (written_line tokens make)
  written_longest make = built_longest (λ (p : Place × List Expr). make p.0.0.0 p.0.0.1 p.0.1 p.1) written_part

  delete_longest : ReadsLongest (length tokens) 1 (IsDelete tokens) (GoesRecord tokens) (delete_line tokens)
  unfolding delete_line
  delete_longest = weaker (built_longest (λ (p : Place). plain.Delete p.0.0 p.0.1 p.1) (verb_then tokens (place_longest tokens))) (GoesRecord tokens) 1 (list_goes tokens) (omega arith)

  -- ---- all alternatives

  by_verb : (w : Verb) → ReadsLongest (length tokens) 1 (RecordBy tokens w) (GoesRecord tokens) (record_by tokens w)
  by_verb v.Print = print_line_longest tokens
  by_verb v.Line = line_input_longest
  by_verb v.Input = input_line_longest
  by_verb v.Open = open_longest
  by_verb v.Close = close_longest
  by_verb v.Set = set_longest
  by_verb v.Read = read_longest
  by_verb v.Write = written_longest plain.Write
  by_verb v.Rewrite = written_longest plain.Rewrite
  by_verb v.Delete = delete_longest

  pub record_statement_longest : ReadsLongest (length tokens) 1 (IsRecordStatement tokens) (GoesRecord tokens) (record_statement_at tokens)
  unfolding record_statement_at
  record_statement_longest = weaker (dispatched_longest (verb tokens) by_verb) (GoesRecord tokens) 1 (λ n g. g.1) (omega arith)
