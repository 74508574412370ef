-- The readers of what stands behind a channel take the longest.
use Rattle.std.proofs.Common.{ℕ, ◌+◌, ◌≤◌, ◌⊎◌, inl, inr, List, length, Option, IsSome, codes, arith}
use Rattle.bas_form.specs.Form.{Form, Terminal, ◌then◌, Built, ◌perhaps◌}
use Rattle.bas_form.specs.Reader.{terminal, built, ReadsLongest, Begins}
use Rattle.bas_form.proofs.ReaderLaws.{terminal_longest, built_longest, either_longest, weaker, begun}
use Rattle.bas_form.proofs.SequenceLaws.{then_longest, perhaps_longest}
use Rattle.bas_ast.specs.declared.record_statement.MissThen.{MissThen}
use Rattle.bas_ast.specs.declared.record_statement.MissThen.TheVariants as goes
use Rattle.bas_ast.specs.declared.record_statement.Miss.{Miss}
use Rattle.bas_expr.specs.declared.mark.Mark.{Mark}
use Rattle.bas_expr.specs.Lexemes.{Lexeme}
use Rattle.bas_expr.specs.Marks.{at_mark, comma, colon}
use Rattle.bas_expr.specs.Separated.{Behind}
use Rattle.bas_expr.specs.Reading.{GoesExpr}
use Rattle.bas_expr.proofs.MarkLaws.{mark_inside, stops, at_comma}
use Rattle.bas_declaration.specs.Keywords.{spells}
use Rattle.bas_declaration.proofs.WordLaws.{spells_inside}
use Rattle.bas_declaration.proofs.PartLaws.{no_comma_past}
use Rattle.bas_list.specs.Words.{line_number}
use Rattle.bas_list.specs.Lists.{IsTargets}
use Rattle.bas_list.specs.Reading.{GoesList}
use Rattle.bas_list.proofs.EndLaws.{mark_ends, expr_ends, list_ends}
use Rattle.bas_list.proofs.ListLaws.{targets_longest}
use Rattle.bas_record.specs.Words.{miss_when, exit}
use Rattle.bas_record.specs.Channels.{IsChan, IsSetter}
use Rattle.bas_record.specs.Records.{miss_of, IsMissThen, IsMiss, IsPlace, IsInput, GoesRecord}
use Rattle.bas_record.specs.Recording.{exit_loop, miss_then, then_part, miss, next_miss, next_setter, chan_and_setter, place, chan_and_miss, input}
use Rattle.bas_record.proofs.WordLaws.{led_begins, led_one, led, miss_when_inside, exit_inside, number_inside, number_no_word, if_no_setter}
use Rattle.bas_record.proofs.ChannelLaws.{chan_longest, setter_longest}

pub one : 1 ≤ 1
one = omega arith

module _ (tokens : List Lexeme) where
  -- ---- a statement may go on where its parts may

  pub mark_goes : {A : Type 0} (f : Mark → Option A) (n : ℕ) → IsSome (at_mark f tokens n) → GoesRecord tokens n
  mark_goes f n h ends = mark_ends tokens n f ends h

  pub expr_goes : (n : ℕ) → GoesExpr tokens n → GoesRecord tokens n
  expr_goes n g ends = expr_ends tokens n ends g

  pub list_goes : (n : ℕ) → GoesList tokens n → GoesRecord tokens n
  list_goes n g ends = list_ends tokens n ends g

  -- ---- where to go

  exit_longest : ReadsLongest (length tokens) 1 (Behind (spells (codes "EXIT") tokens) (Terminal (exit tokens))) (λ _. ⊥) (exit_loop tokens)
  unfolding exit_loop
  exit_longest = led_one (spells (codes "EXIT") tokens) (spells_inside tokens (codes "EXIT")) (terminal_longest (length tokens) (exit tokens) (exit_inside tokens))

  number_longest : ReadsLongest (length tokens) 1 (Built goes.Number (Terminal (line_number tokens))) (λ _. ⊥) (built goes.Number (terminal (line_number tokens)))
  number_longest = built_longest goes.Number (terminal_longest (length tokens) (line_number tokens) (number_inside tokens))

  exit_apart : (n : ℕ) (a : MissThen) (i : ℕ) → Behind (spells (codes "EXIT") tokens) (Terminal (exit tokens)) n a i → (b : MissThen) (j : ℕ) → Built goes.Number (Terminal (line_number tokens)) n b j → ⊥
  exit_apart n a i h b j q =
      let l = led (spells (codes "EXIT") tokens) (Terminal (exit tokens)) n a i h in
      number_no_word tokens (codes "EXIT") n q.0 l.0 q.2.0 l.1

  miss_then_longest : ReadsLongest (length tokens) 1 (IsMissThen tokens) (λ _. ⊥) (miss_then tokens)
  unfolding miss_then
  miss_then_longest = weaker (either_longest exit_longest number_longest exit_apart) (λ _. ⊥) 1 (λ n g. elim g as (λ _. ⊥) [ inl z ↦ z | inr z ↦ z ]) (omega arith)

  then_part_longest : ReadsLongest (length tokens) 1 (Behind (spells (codes "THEN") tokens) (IsMissThen tokens)) (λ _. ⊥) (then_part tokens)
  unfolding then_part
  then_part_longest = led_one (spells (codes "THEN") tokens) (spells_inside tokens (codes "THEN")) miss_then_longest

  miss_longest : ReadsLongest (length tokens) 1 (IsMiss tokens) (λ _. ⊥) (miss tokens)
  unfolding miss
  miss_longest = built_longest miss_of (led_one (spells (codes "IF") tokens) (spells_inside tokens (codes "IF"))
      (then_longest (terminal_longest (length tokens) (miss_when tokens) (miss_when_inside tokens)) then_part_longest (λ n z b m h. z)))

  -- ---- behind a comma

  next_miss_longest : ReadsLongest (length tokens) 1 (Behind (at_mark comma tokens) (IsMiss tokens)) (λ _. ⊥) (next_miss tokens)
  unfolding next_miss
  next_miss_longest = led_one (at_mark comma tokens) (mark_inside tokens comma) miss_longest

  next_setter_longest : ReadsLongest (length tokens) 1 (Behind (at_mark comma tokens) (IsSetter tokens)) (GoesExpr tokens) (next_setter tokens)
  unfolding next_setter
  next_setter_longest = led_one (at_mark comma tokens) (mark_inside tokens comma) (setter_longest tokens)

  miss_begins : (n : ℕ) → Begins (next_miss tokens) n → IsSome (at_mark comma tokens n)
  unfolding next_miss
  miss_begins n h = led_begins (at_mark comma tokens) (mark_inside tokens comma) miss_longest n h

  setter_begins : (n : ℕ) → Begins (next_setter tokens) n → IsSome (at_mark comma tokens n)
  unfolding next_setter
  setter_begins n h = led_begins (at_mark comma tokens) (mark_inside tokens comma) (setter_longest tokens) n h

  before_comma : {A : Type 0} (F : Form A) (n : ℕ) → GoesExpr tokens n → (b : A) (m : ℕ) → Behind (at_mark comma tokens) F n b m → ⊥
  before_comma F n g b m h = let none = no_comma_past tokens n g in let l = led (at_mark comma tokens) F n b m h in let some = l.1 in absurd (cc)

  -- ---- a channel and what may stand behind it

  pub chan_and_miss_longest : ReadsLongest (length tokens) 1 (IsChan tokens perhaps Behind (at_mark comma tokens) (IsMiss tokens)) (GoesList tokens) (chan_and_miss tokens)
  unfolding chan_and_miss
  chan_and_miss_longest = weaker (perhaps_longest (chan_longest tokens) next_miss_longest one (before_comma (IsMiss tokens))) (GoesList tokens) 1
      (λ n g. elim g as (λ _. GoesList tokens n) [ inl d ↦ inl d | inr (inl z) ↦ absurd z | inr (inr d) ↦ inr (miss_begins n d) ]) (omega arith)

  -- where a channel with a setter may go on
  abbrev GoesSetter : ℕ → Type 0
  GoesSetter n = GoesExpr tokens n ⊎ Begins (next_setter tokens) n

  chan_and_setter_longest : ReadsLongest (length tokens) 1 (IsChan tokens perhaps Behind (at_mark comma tokens) (IsSetter tokens)) GoesSetter (chan_and_setter tokens)
  unfolding chan_and_setter
  chan_and_setter_longest = weaker (perhaps_longest (chan_longest tokens) next_setter_longest one (before_comma (IsSetter tokens))) GoesSetter 1
      (λ n g. elim g as (λ _. GoesSetter n) [ inl d ↦ inl d | inr (inl d) ↦ inl d | inr (inr d) ↦ inr d ]) (omega arith)

  before_miss : (n : ℕ) → GoesSetter n → (b : Miss) (m : ℕ) → Behind (at_mark comma tokens) (IsMiss tokens) n b m → ⊥
  before_miss n (inl g) b m h = before_comma (IsMiss tokens) n g b m h
  before_miss n (inr d) b m h =
      let s = begun next_setter_longest n d in
      let front = led (at_mark comma tokens) (IsSetter tokens) n s.0 s.1 s.2 in
      let by = front.2 in
      let l = led (at_mark comma tokens) (IsMiss tokens) n b m h in
      let body = l.2 in
      let test = led (spells (codes "IF") tokens) (Terminal (miss_when tokens) then Behind (spells (codes "THEN") tokens) (IsMissThen tokens)) (n + 1) body.0 m body.2 in
      if_no_setter tokens (n + 1) by.0 test.0 by.1 test.1

  pub place_longest : ReadsLongest (length tokens) 1 (IsPlace tokens) (GoesList tokens) (place tokens)
  unfolding place
  place_longest = weaker (perhaps_longest chan_and_setter_longest next_miss_longest one before_miss) (GoesList tokens) 1
      (λ n g. elim g as (λ _. GoesList tokens n) [ inl (inl d) ↦ inl d | inl (inr d) ↦ inr (setter_begins n d) | inr (inl z) ↦ absurd z | inr (inr d) ↦ inr (miss_begins n d) ]) (omega arith)

  -- no colon stands where these may go on
  pub before_colon : {A : Type 0} (F : Form A) (n : ℕ) → GoesList tokens n → (b : A) (m : ℕ) → Behind (at_mark colon tokens) F n b m → ⊥
  before_colon F n (inl g) b m h = let none = (stops tokens n g).1 in let l = led (at_mark colon tokens) F n b m h in let some = l.1 in absurd (cc)
  before_colon F n (inr c) b m h = let none = (at_comma tokens n c).0 in let l = led (at_mark colon tokens) F n b m h in let some = l.1 in absurd (cc)

  pub input_longest : ReadsLongest (length tokens) 1 (IsInput tokens) (GoesRecord tokens) (input tokens)
  unfolding input
  input_longest = weaker (then_longest chan_and_miss_longest (led_one (at_mark colon tokens) (mark_inside tokens colon) (targets_longest tokens)) (before_colon (IsTargets tokens)))
      (GoesRecord tokens) 1 list_goes (omega arith)
