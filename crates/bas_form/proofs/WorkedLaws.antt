-- Each form's law, and the worked grammar.
use Rattle.std.proofs.Common.{◌≡◌, ℕ, ◌+◌, ◌⊎◌, Option, Some, None, IsSome, refl, arith}
use Rattle.bas_form.specs.Reader.{terminal, both, repeated, repeated_by, built, Begins}
use Rattle.bas_form.specs.Element.{element_at}
use Rattle.bas_form.specs.Laws.{ReadForm, TerminalLaw, ThenLaw, OptionalLaw, RepeatedLaw, OrLaw, DispatchedLaw, NotAheadLaw, BuiltLaw, PerhapsLaw, ChainLaw, BetweenLaw, WorkedGrammar}
use Rattle.bas_form.proofs.ReaderLaws.{terminal_longest, optional_longest, either_longest, dispatched_longest, not_ahead_longest, built_longest, weaker}
use Rattle.bas_form.proofs.SequenceLaws.{then_longest, perhaps_longest, between_longest}
use Rattle.bas_form.proofs.RepetitionLaws.{repeated_longest, chain_longest}

pub terminal_law : (A : Type 0) → TerminalLaw A
terminal_law A len element inside = terminal_longest len element inside

pub not_ahead_law : (A : Type 0) → NotAheadLaw A
not_ahead_law A len element = not_ahead_longest len element

module _ {A : Type 0} {len : ℕ} (F : ReadForm A len) where
  pub optional_law : OptionalLaw F
  optional_law takes = optional_longest F.takes_longest takes

  pub repeated_law : RepeatedLaw F
  repeated_law takes apart = repeated_longest F.takes_longest takes apart

  pub built_law : (B : Type 0) → BuiltLaw F B
  built_law B make = built_longest make F.takes_longest

  pub chain_law : (O : Type 0) → ChainLaw F O
  chain_law O operator inside apart = let is = chain_longest operator inside F.takes_longest apart in weaker is (λ n. F.goes_on n ⊎ IsSome (operator n)) F.least (λ n h. h) (omega arith)

  not_closing : {C : Type 0} (o : Option C) (c : C) → o ≡ None → o ≡ Some c → ⊥
  not_closing o c none some = absurd (cc)

  pub between_law : (O C : Type 0) → BetweenLaw F O C
  between_law O C opening closing opens closes apart =
      let is = between_longest opening opens closing closes F.takes_longest (λ n h c e. not_closing (closing n) c (apart n h) e) in
      weaker is (λ _. ⊥) (F.least + 2) (λ n h. h) (omega arith)

module _ {A B : Type 0} {len : ℕ} (F : ReadForm A len) (G : ReadForm B len) where
  pub then_law : ThenLaw F G
  then_law apart = then_longest F.takes_longest G.takes_longest apart

  pub perhaps_law : PerhapsLaw F G
  perhaps_law takes apart =
      let is = perhaps_longest F.takes_longest G.takes_longest takes apart in
      weaker is (λ n. F.goes_on n ⊎ (G.goes_on n ⊎ Begins G.reader n)) F.least (λ n h. h) (omega arith)

pub or_law : {A : Type 0} {len : ℕ} (F G : ReadForm A len) → OrLaw F G
or_law F G least few_f few_g apart =
    either_longest (weaker F.takes_longest F.goes_on least (λ n h. h) few_f) (weaker G.takes_longest G.goes_on least (λ n h. h) few_g) apart

pub dispatched_law : {K A : Type 0} {len : ℕ} (forms : K → ReadForm A len) → DispatchedLaw forms
dispatched_law forms key least few = dispatched_longest key (λ k. weaker (forms k).takes_longest (forms k).goes_on least (λ n h. h) (few k))

pub worked_grammar : WorkedGrammar
unfolding terminal both repeated repeated_by built element_at
worked_grammar = record { longest = refl; left_over = refl; from_the_middle = refl; nothing = refl; closed = refl; open_end = refl }
