-- The readers of statements take the longest.
use Rattle.std.proofs.Common.{◌≡◌, ℕ, ◌+◌, ◌<◌, ◌≤◌, ◌⊎◌, inl, inr, List, length, Option, Some, None, IsSome, codes, refl, arith}
use Rattle.bas_form.specs.Form.{Form, Terminal, ◌then◌, Built}
use Rattle.bas_form.specs.Reader.{Reader, ◌>>=◌, terminal, built, ReadsLongest, Begins}
use Rattle.bas_form.proofs.ReaderLaws.{some_is, terminal_longest, optional_longest, built_longest, dispatched_longest, weaker, begun}
use Rattle.bas_form.proofs.SequenceLaws.{then_longest, perhaps_longest}
use Rattle.bas_ast.specs.declared.expression.Expr.{Expr}
use Rattle.bas_ast.specs.declared.condition.Rel.{Rel}
use Rattle.bas_ast.specs.declared.statement.Targets.{Targets}
use Rattle.bas_ast.specs.declared.statement.Plain.{Plain}
use Rattle.bas_ast.specs.declared.statement.Plain.TheVariants as plain
use Rattle.bas_expr.specs.declared.mark.Mark.{Mark}
use Rattle.bas_expr.specs.declared.mark.Mark.TheVariants as m
use Rattle.bas_expr.specs.Lexemes.{Lexeme}
use Rattle.bas_expr.specs.Marks.{mark, at_mark, comma, closing, rel_of}
use Rattle.bas_expr.specs.Separated.{Behind}
use Rattle.bas_expr.specs.Grammar.{IsActual}
use Rattle.bas_expr.specs.Reading.{GoesExpr}
use Rattle.bas_expr.proofs.MarkLaws.{stops, at_comma, mark_inside, goes_mark}
use Rattle.bas_expr.proofs.SeparatedLaws.{behind_longest, separator_first}
use Rattle.bas_expr.proofs.ExpressionLaws.{expr_longest, no_hash}
use Rattle.bas_expr.proofs.BracketLaws.{actual_longest, next_longest}
use Rattle.bas_declaration.specs.Keywords.{at_word, exception_word, spells}
use Rattle.bas_declaration.specs.Parts.{only_equal, equals, Listed, E}
use Rattle.bas_declaration.proofs.WordLaws.{word_longest, spells_inside, mark_no_spells}
use Rattle.bas_declaration.proofs.PartLaws.{an_expr, name_longest, no_comma_past, listed_longest, enclosed_longest}
use Rattle.bas_list.specs.declared.TheConstants.{INNER_LEVELS}
use Rattle.bas_list.specs.Words.{line_number}
use Rattle.bas_list.specs.Lists.{Inner, IsEnclosed}
use Rattle.bas_list.specs.Reading.{inner, GoesList}
use Rattle.bas_list.proofs.ListLaws.{targets_longest, enclosed_values_longest}
use Rattle.bas_list.proofs.PrintLaws.{print_list_longest}
use Rattle.bas_statement.specs.declared.verb.Verb.{Verb}
use Rattle.bas_statement.specs.declared.verb.Verb.TheVariants as v
use Rattle.bas_statement.specs.Verbs.{verb, exit_word, jump_word}
use Rattle.bas_statement.specs.Statements.{let_of, go_of, call_of, chain_of, After, Number, IsArguments, IsAsked, IsLet, IsPrint, IsInput, IsLineInput, IsRead, IsRestore, Jumping, IsGo, Alone, IsExit, IsCall, IsCause, IsChain, StatementBy, IsStatement}
use Rattle.bas_statement.specs.Reading.{GoesStatement, after, number, next_argument, argument_list, arguments, equals_value, let_statement, print_statement, input_statement, input_asked, line_input_statement, read_statement, restore_statement, jumping, go_statement, alone, exit_statement, call_statement, exception, cause_statement, with_values, chain_statement, statement_by, statement_at}
use Rattle.bas_statement.proofs.GoesLaws.{verb_inside, number_inside, number_goes, spells_goes, expr_goes, list_goes, print_goes}
use Rattle.bas_statement.proofs.InputLaws.{asked_longest}

-- each turn of a list takes two tokens at least
pub two : 1 ≤ 1 + 1
two = omega arith

comma_no_rel : (o : Option Mark) → IsSome (o >>= comma) → (o >>= rel_of) ≡ None
comma_no_rel (Some m.Comma) h = refl
comma_no_rel _ h = absurd (cc)

module _ (tokens : List Lexeme) where
  lead_longest : ReadsLongest (length tokens) 1 (Terminal (verb tokens)) (λ _. ⊥) (terminal (verb tokens))
  lead_longest = terminal_longest (length tokens) (verb tokens) (verb_inside tokens)

  number_longest : ReadsLongest (length tokens) 1 (Number tokens) (λ _. ⊥) (number tokens)
  number_longest = terminal_longest (length tokens) (line_number tokens) (number_inside tokens)

  -- ---- what stands behind the first word, and the statement

  module _ {A : Type 0} {least : ℕ} {F : Form A} {GoesOn : ℕ → Type 0} {f : Reader A} (is : ReadsLongest (length tokens) least F GoesOn f) (goes : (n : ℕ) → GoesOn n → GoesStatement tokens n) where
    after_longest : ReadsLongest (length tokens) 1 (After tokens F) (GoesStatement tokens) (after tokens f)
    after_longest = weaker (built_longest (λ (parts : Verb × A). parts.1) (then_longest lead_longest is (λ n z b k h. z))) (GoesStatement tokens) 1 goes (omega arith)

    statement_of : (make : A → Plain) → ReadsLongest (length tokens) 1 (Built make (After tokens F)) (GoesStatement tokens) (built make (after tokens f))
    statement_of make = built_longest make after_longest

  no_goes : (n : ℕ) → ⊥ → GoesStatement tokens n
  no_goes n z = absurd z

  -- ---- values

  equals_by : (n : ℕ) (u : Unit {0}) (o : Option Rel) → at_mark rel_of tokens n ≡ o → (o >>= only_equal) ≡ Some u → n < length tokens
  equals_by n u None eo h = absurd (cc)
  equals_by n u (Some r) eo h = mark_inside tokens rel_of n r eo

  equals_longest : ReadsLongest (length tokens) (1 + 1) (Terminal (equals tokens) then E tokens) (GoesExpr tokens) (equals_value tokens)
  unfolding equals_value
  equals_longest = then_longest (terminal_longest (length tokens) (equals tokens) (λ n u h. equals_by n u (at_mark rel_of tokens n) refl h)) (an_expr tokens) (λ n z b k h. z)

  no_equals : (n : ℕ) (u : Unit {0}) → at_mark rel_of tokens n ≡ None → equals tokens n ≡ Some u → ⊥
  no_equals n u e h = let f = rw e at h in absurd (cc)

  list_no_rel : (n : ℕ) → GoesList tokens n → at_mark rel_of tokens n ≡ None
  list_no_rel n (inl g) = (stops tokens n g).3
  list_no_rel n (inr h) = comma_no_rel (mark tokens n) h

  before_equals : (n : ℕ) → GoesList tokens n → (b : Unit {0} × Expr) (k : ℕ) → (Terminal (equals tokens) then E tokens) n b k → ⊥
  before_equals n g b k h = no_equals n b.0 (list_no_rel n g) h.1.0

  let_longest : ReadsLongest (length tokens) 1 (IsLet tokens) (GoesStatement tokens) (let_statement tokens)
  unfolding let_statement
  let_longest = statement_of (then_longest (targets_longest tokens) equals_longest before_equals) (expr_goes tokens) let_of

  print_longest : ReadsLongest (length tokens) 1 (IsPrint tokens) (GoesStatement tokens) (print_statement tokens)
  unfolding print_statement
  print_longest = statement_of (print_list_longest tokens) (print_goes tokens) plain.Print

  exception_longest : ReadsLongest (length tokens) (1 + 1) (Behind (at_word exception_word tokens) (E tokens)) (GoesExpr tokens) (exception tokens)
  unfolding exception
  exception_longest = built_longest (λ (parts : Unit {0} × Expr). parts.1) (then_longest (word_longest tokens exception_word) (an_expr tokens) (λ n z b k h. z))

  cause_longest : ReadsLongest (length tokens) 1 (IsCause tokens) (GoesStatement tokens) (cause_statement tokens)
  unfolding cause_statement
  cause_longest = statement_of exception_longest (expr_goes tokens) plain.CauseException

  with_longest : ReadsLongest (length tokens) (1 + 3) (Behind (spells (codes "WITH") tokens) (IsEnclosed tokens)) (λ _. ⊥) (with_values tokens)
  unfolding with_values
  with_longest = behind_longest (spells (codes "WITH") tokens) (spells_inside tokens (codes "WITH")) (enclosed_values_longest tokens) (λ n z. absurd z)

  with_stands : (n : ℕ) (b : List Expr) (k : ℕ) → Behind (spells (codes "WITH") tokens) (IsEnclosed tokens) n b k → IsSome (spells (codes "WITH") tokens n)
  with_stands n b k h = separator_first (spells (codes "WITH") tokens) (spells_inside tokens (codes "WITH")) (enclosed_values_longest tokens) (λ n z. absurd z) n b k h

  before_with : (n : ℕ) → GoesExpr tokens n → (b : List Expr) (k : ℕ) → Behind (spells (codes "WITH") tokens) (IsEnclosed tokens) n b k → ⊥
  before_with n g b k h =
      let x = goes_mark tokens n g in
      let none = mark_no_spells tokens n (codes "WITH") x.0 x.1 in
      let some = with_stands n b k h in
      let f = rw none at some in
      absurd (cc)

  with_goes : (n : ℕ) → Begins (with_values tokens) n → GoesStatement tokens n
  with_goes n h = let b = begun with_longest n h in by_value (spells (codes "WITH") tokens n) refl (with_stands n b.0 b.1 b.2)
    where
      by_value : (o : Option (Unit {0})) → spells (codes "WITH") tokens n ≡ o → IsSome o → GoesStatement tokens n
      by_value None e z = absurd (cc)
      by_value (Some u) e z = spells_goes tokens (codes "WITH") refl n u e

  chain_goes : (n : ℕ) → (GoesExpr tokens n ⊎ (⊥ ⊎ Begins (with_values tokens) n)) → GoesStatement tokens n
  chain_goes n (inl g) = expr_goes tokens n g
  chain_goes n (inr (inl z)) = absurd z
  chain_goes n (inr (inr h)) = with_goes n h

  chain_longest : ReadsLongest (length tokens) 1 (IsChain tokens) (GoesStatement tokens) (chain_statement tokens)
  unfolding chain_statement
  chain_longest = statement_of (perhaps_longest (an_expr tokens) with_longest (omega arith) before_with) chain_goes chain_of

  -- ---- replies and data

  input_longest : ReadsLongest (length tokens) 1 (IsInput tokens) (GoesStatement tokens) (input_statement tokens)
  unfolding input_statement
  input_longest = statement_of (asked_longest tokens) (λ n g. g) (λ (p : Option Expr × Targets). plain.Input p.0 p.1)

  input_asked_longest : ReadsLongest (length tokens) (1 + 1) (Behind (spells (codes "INPUT") tokens) (IsAsked tokens)) (GoesStatement tokens) (input_asked tokens)
  unfolding input_asked
  input_asked_longest = built_longest (λ (parts : Unit {0} × (Option Expr × Targets)). parts.1)
      (then_longest (terminal_longest (length tokens) (spells (codes "INPUT") tokens) (spells_inside tokens (codes "INPUT"))) (asked_longest tokens) (λ n z b k h. z))

  line_input_longest : ReadsLongest (length tokens) 1 (IsLineInput tokens) (GoesStatement tokens) (line_input_statement tokens)
  unfolding line_input_statement
  line_input_longest = statement_of input_asked_longest (λ n g. g) (λ (p : Option Expr × Targets). plain.LineInput p.0 p.1)

  read_longest : ReadsLongest (length tokens) 1 (IsRead tokens) (GoesStatement tokens) (read_statement tokens)
  unfolding read_statement
  read_longest = statement_of (targets_longest tokens) (list_goes tokens) plain.Read

  -- ---- numbers of lines, and single words

  number_begins : (n : ℕ) → Begins (number tokens) n → GoesStatement tokens n
  number_begins n h = let b = begun number_longest n h in number_goes tokens n b.0 b.2.0

  perhaps_number_goes : (n : ℕ) → (⊥ ⊎ Begins (number tokens) n) → GoesStatement tokens n
  perhaps_number_goes n (inl z) = absurd z
  perhaps_number_goes n (inr h) = number_begins n h

  restore_longest : ReadsLongest (length tokens) 1 (IsRestore tokens) (GoesStatement tokens) (restore_statement tokens)
  unfolding restore_statement
  restore_longest = statement_of (optional_longest number_longest (omega arith)) perhaps_number_goes plain.Restore

  jumping_longest : (make : ℕ → Plain) → ReadsLongest (length tokens) 1 (Jumping tokens make) (GoesStatement tokens) (jumping tokens make)
  unfolding jumping
  jumping_longest make = statement_of number_longest no_goes make

  go_longest : ReadsLongest (length tokens) 1 (IsGo tokens) (GoesStatement tokens) (go_statement tokens)
  unfolding go_statement
  go_longest = statement_of (then_longest (word_longest tokens jump_word) number_longest (λ n z b k h. z)) no_goes go_of

  alone_longest : (x : Plain) → ReadsLongest (length tokens) 1 (Alone tokens x) (GoesStatement tokens) (alone tokens x)
  unfolding alone
  alone_longest x = weaker (built_longest (λ (lead : Verb). x) lead_longest) (GoesStatement tokens) 1 no_goes (omega arith)

  exit_longest : ReadsLongest (length tokens) 1 (IsExit tokens) (GoesStatement tokens) (exit_statement tokens)
  unfolding exit_statement
  exit_longest = after_longest (word_longest tokens exit_word) no_goes

  -- ---- calls

  pub next_argument_longest : ReadsLongest (length tokens) (1 + 1) (Behind (at_mark comma tokens) (IsActual tokens (Inner tokens))) (GoesExpr tokens) (next_argument tokens)
  next_argument_longest = next_longest tokens (Inner tokens) (inner tokens) (expr_longest tokens INNER_LEVELS) (no_hash tokens INNER_LEVELS)

  not_closed : (n : ℕ) → (GoesExpr tokens n ⊎ IsSome (at_mark comma tokens n)) → (u : Unit {0}) → at_mark closing tokens n ≡ Some u → ⊥
  not_closed n (inl g) u e = let f = (stops tokens n g).2 in absurd (cc)
  not_closed n (inr h) u e = let f = (at_comma tokens n h).1 in absurd (cc)

  argument_list_longest : ReadsLongest (length tokens) (1 + 0) (Listed tokens (IsActual tokens (Inner tokens))) (λ n. GoesExpr tokens n ⊎ IsSome (at_mark comma tokens n)) (argument_list tokens)
  unfolding argument_list
  argument_list_longest = listed_longest tokens (actual_longest tokens (Inner tokens) (inner tokens) (expr_longest tokens INNER_LEVELS) (no_hash tokens INNER_LEVELS)) (no_comma_past tokens)

  arguments_longest : ReadsLongest (length tokens) (1 + (1 + 0 + 1)) (IsArguments tokens) (λ _. ⊥) (arguments tokens)
  unfolding arguments
  arguments_longest = enclosed_longest tokens argument_list_longest not_closed

  arguments_open : (n : ℕ) → Begins (arguments tokens) n → GoesStatement tokens n
  arguments_open n h = let b = begun arguments_longest n h in let body = b.2.2 in expr_goes tokens n (inl (inl (inl (some_is body.1.0))))

  call_goes : (n : ℕ) → (⊥ ⊎ (⊥ ⊎ Begins (arguments tokens) n)) → GoesStatement tokens n
  call_goes n (inl z) = absurd z
  call_goes n (inr (inl z)) = absurd z
  call_goes n (inr (inr h)) = arguments_open n h

  call_longest : ReadsLongest (length tokens) 1 (IsCall tokens) (GoesStatement tokens) (call_statement tokens)
  unfolding call_statement
  call_longest = statement_of (perhaps_longest (name_longest tokens) arguments_longest (omega arith) (λ n z b k h. z)) call_goes call_of

  -- ---- all alternatives

  by_verb : (w : Verb) → ReadsLongest (length tokens) 1 (StatementBy tokens w) (GoesStatement tokens) (statement_by tokens w)
  by_verb v.Let = let_longest
  by_verb v.Print = print_longest
  by_verb v.Line = line_input_longest
  by_verb v.Input = input_longest
  by_verb v.Read = read_longest
  by_verb v.Restore = restore_longest
  by_verb v.Goto = jumping_longest plain.Goto
  by_verb v.Gosub = jumping_longest plain.Gosub
  by_verb v.Go = go_longest
  by_verb v.Return = alone_longest plain.Return
  by_verb v.Stop = alone_longest plain.Stop
  by_verb v.Exit = exit_longest
  by_verb v.Call = call_longest
  by_verb v.Retry = alone_longest plain.Retry
  by_verb v.Continue = alone_longest plain.Continue
  by_verb v.Cause = cause_longest
  by_verb v.Chain = chain_longest

  pub statement_longest : ReadsLongest (length tokens) 1 (IsStatement tokens) (GoesStatement tokens) (statement_at tokens)
  unfolding statement_at
  statement_longest = weaker (dispatched_longest (verb tokens) by_verb) (GoesStatement tokens) 1 (λ n g. g.1) (omega arith)
