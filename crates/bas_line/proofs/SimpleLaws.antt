-- The readers of one-line IF and ON take the longest.
use Rattle.std.proofs.Common.{◌≡◌, ℕ, ◌+◌, ◌⊎◌, inl, inr, List, length, Option, Some, None, IsSome, codes, refl, sym, ◌∙◌, arith}
use Rattle.bas_form.specs.Form.{Form, Terminal, ◌then◌, ◌or◌, Built}
use Rattle.bas_form.specs.Reader.{Reader, terminal, built, ReadsLongest, Begins}
use Rattle.bas_form.proofs.ReaderLaws.{some_is, begun, terminal_longest, built_longest, either_longest, weaker}
use Rattle.bas_form.proofs.SequenceLaws.{then_longest, perhaps_longest}
use Rattle.bas_ast.specs.declared.statement.Plain.{Plain}
use Rattle.bas_ast.specs.declared.statement.Branch.{Branch}
use Rattle.bas_ast.specs.declared.statement.Branch.TheVariants as branch
use Rattle.bas_ast.specs.declared.statement.Simple.{Simple}
use Rattle.bas_ast.specs.declared.statement.Simple.TheVariants as simple
use Rattle.bas_expr.specs.Lexemes.{Lexeme}
use Rattle.bas_expr.specs.Marks.{at_mark, comma}
use Rattle.bas_expr.specs.Separated.{Behind, behind}
use Rattle.bas_expr.specs.Reading.{GoesExpr}
use Rattle.bas_expr.specs.Testing.{GoesCond}
use Rattle.bas_expr.proofs.MarkLaws.{goes_mark}
use Rattle.bas_expr.proofs.ExpressionLaws.{expr_longest}
use Rattle.bas_expr.proofs.ConditionLaws.{cond_longest}
use Rattle.bas_expr.specs.declared.TheConstants.{LEVELS}
use Rattle.bas_declaration.specs.Keywords.{keyword, at_word, then_word, spells}
use Rattle.bas_declaration.specs.Parts.{Listed}
use Rattle.bas_declaration.proofs.WordLaws.{word_longest, spells_inside, mark_longest, past_cond, some_word}
use Rattle.bas_declaration.proofs.PartLaws.{listed_longest}
use Rattle.bas_list.specs.Words.{line_number, Ends}
use Rattle.bas_line.specs.declared.jump.Jump.{Jump}
use Rattle.bas_line.specs.declared.jump.Jump.TheVariants as jump
use Rattle.bas_line.specs.Words.{if_word, LineEnds}
use Rattle.bas_line.specs.Simples.{if_of, on_of, IsBranch, IsBranches, IsIf, IsJump, IsNumbers, IsOn, IsSimple}
use Rattle.bas_line.specs.Reading.{behind_go, one_jump, next_number, number_list, one_branch, else_branch, branches, then_branches, if_line, else_plain, numbers, on_line, simple_at}
use Rattle.bas_line.proofs.WordLaws.{number_inside, words_apart, word_no_mark, on_no_keyword, else_ends, line_ends_at, line_end_ends, no_mark, no_keyword}

-- where a plain statement may go on
abbrev pub GoesPlain : List Lexeme → ℕ → Type 0
GoesPlain tokens n = Ends tokens n → ⊥

-- where a statement of the line may
abbrev pub GoesSimple : List Lexeme → ℕ → Type 0
GoesSimple tokens n = LineEnds tokens n → ⊥

-- what stands where a plain statement begins: no word of a part or declaration, no ON, no number, and no end
abbrev pub BeginsPlain : List Lexeme → ℕ → Type 0
BeginsPlain tokens n = (keyword tokens n ≡ None) × (spells (codes "ON") tokens n ≡ None) × (line_number tokens n ≡ None) × (Ends tokens n → ⊥)

module _ (tokens : List Lexeme) where
  pub plain_simple : (n : ℕ) → GoesPlain tokens n → GoesSimple tokens n
  plain_simple n g l = g (line_end_ends tokens n l)

  no_else_by : (n : ℕ) (o : Option (Unit {0})) → spells (codes "ELSE") tokens n ≡ o → GoesPlain tokens n → spells (codes "ELSE") tokens n ≡ None
  no_else_by n None e g = e
  no_else_by n (Some u) e g = absurd (g (else_ends tokens n u e))

  -- no ELSE stands where a plain statement may go on
  no_else : (n : ℕ) → GoesPlain tokens n → spells (codes "ELSE") tokens n ≡ None
  no_else n g = no_else_by n (spells (codes "ELSE") tokens n) refl g

  else_goes : (n : ℕ) → IsSome (spells (codes "ELSE") tokens n) → GoesSimple tokens n
  else_goes n h l = let none = (line_ends_at tokens n l).0.4 (codes "ELSE") in let f = rw none at h in absurd (cc)

  comma_goes : (n : ℕ) → IsSome (at_mark comma tokens n) → GoesSimple tokens n
  comma_goes n h l = let none = no_mark tokens comma n (line_ends_at tokens n l).0.0 in let f = rw none at h in absurd (cc)

  number_longest : ReadsLongest (length tokens) 1 (Terminal (line_number tokens)) (λ _. ⊥) (terminal (line_number tokens))
  number_longest = terminal_longest (length tokens) (line_number tokens) (number_inside tokens)

  the_word : (wanted : List ℕ) → ReadsLongest (length tokens) 1 (Terminal (spells wanted tokens)) (λ _. ⊥) (terminal (spells wanted tokens))
  the_word wanted = terminal_longest (length tokens) (spells wanted tokens) (spells_inside tokens wanted)

  module _ {A O : Type 0} {least : ℕ} {element : ℕ → Option O} (first : ReadsLongest (length tokens) 1 (Terminal element) (λ _. ⊥) (terminal element))
      {F : Form A} {GoesOn : ℕ → Type 0} {f : Reader A} (is : ReadsLongest (length tokens) least F GoesOn f) where
    led : ReadsLongest (length tokens) (1 + least) (Behind element F) GoesOn (behind element f)
    led = built_longest (λ (parts : O × A). parts.1) (then_longest first is (λ n z b m h. z))

    led_begins : (n : ℕ) → Begins (behind element f) n → IsSome (element n)
    led_begins n h = let b = begun led n h in let body = b.2.2 in some_is body.1.0

  -- ---- where ON goes

  go_to : ReadsLongest (length tokens) (1 + 1) (Built (λ (word : Unit {0}). jump.Goto) (Behind (spells (codes "GO") tokens) (Terminal (spells (codes "TO") tokens)))) (λ _. ⊥)
      (built (λ (word : Unit {0}). jump.Goto) (behind (spells (codes "GO") tokens) (terminal (spells (codes "TO") tokens))))
  go_to = built_longest (λ (word : Unit {0}). jump.Goto) (led (the_word (codes "GO")) (the_word (codes "TO")))

  go_sub : ReadsLongest (length tokens) (1 + 1) (Built (λ (word : Unit {0}). jump.Gosub) (Behind (spells (codes "GO") tokens) (Terminal (spells (codes "SUB") tokens)))) (λ _. ⊥)
      (built (λ (word : Unit {0}). jump.Gosub) (behind (spells (codes "GO") tokens) (terminal (spells (codes "SUB") tokens))))
  go_sub = built_longest (λ (word : Unit {0}). jump.Gosub) (led (the_word (codes "GO")) (the_word (codes "SUB")))

  behind_apart : (n : ℕ) (a : Unit {0}) (k : ℕ) → Behind (spells (codes "GO") tokens) (Terminal (spells (codes "TO") tokens)) n a k → (b : Unit {0}) (m : ℕ) →
      Behind (spells (codes "GO") tokens) (Terminal (spells (codes "SUB") tokens)) n b m → ⊥
  behind_apart n a k h b m g =
      let x = h.2 in
      let y = g.2 in
      let px = x.1.1 in
      let py = y.1.1 in
      let place : x.0 ≡ y.0 = px ∙ sym py in
      let to = rw place at x.2.0 in
      words_apart tokens (codes "TO") (codes "SUB") y.0 _ _ (λ z. cc) to y.2.0

  no_goes : {G H : ℕ → Type 0} (n : ℕ) → ((n : ℕ) → G n → ⊥) → ((n : ℕ) → H n → ⊥) → G n ⊎ H n → ⊥
  no_goes n g h (inl x) = g n x
  no_goes n g h (inr x) = h n x

  behind_go_longest : ReadsLongest (length tokens) 1
      (Built (λ (word : Unit {0}). jump.Goto) (Behind (spells (codes "GO") tokens) (Terminal (spells (codes "TO") tokens))) or Built (λ (word : Unit {0}). jump.Gosub) (Behind (spells (codes "GO") tokens) (Terminal (spells (codes "SUB") tokens))))
      (λ _. ⊥) (behind_go tokens)
  unfolding behind_go
  behind_go_longest = weaker (either_longest go_to go_sub (λ n a k h b m g. behind_apart n h.0 k h.2 g.0 m g.2)) (λ _. ⊥) 1 (λ n g. elim g as (λ _. ⊥) [ inl z ↦ z | inr z ↦ z ]) (omega arith)

  go_first : (n : ℕ) (a : Jump) (k : ℕ) →
      (Built (λ (word : Unit {0}). jump.Goto) (Behind (spells (codes "GO") tokens) (Terminal (spells (codes "TO") tokens))) or Built (λ (word : Unit {0}). jump.Gosub) (Behind (spells (codes "GO") tokens) (Terminal (spells (codes "SUB") tokens)))) n a k →
      (u : Unit {0}) × (spells (codes "GO") tokens n ≡ Some u)
  go_first n a k (inl h) = let body = h.2.2 in (_, body.1.0)
  go_first n a k (inr h) = let body = h.2.2 in (_, body.1.0)

  gosub_apart : (n : ℕ) (a : Jump) (k : ℕ) → Built (λ (word : Unit {0}). jump.Gosub) (Terminal (spells (codes "GOSUB") tokens)) n a k → (b : Jump) (m : ℕ) →
      (Built (λ (word : Unit {0}). jump.Goto) (Behind (spells (codes "GO") tokens) (Terminal (spells (codes "TO") tokens))) or Built (λ (word : Unit {0}). jump.Gosub) (Behind (spells (codes "GO") tokens) (Terminal (spells (codes "SUB") tokens)))) n b m → ⊥
  gosub_apart n a k h b m g = let f = go_first n b m g in words_apart tokens (codes "GOSUB") (codes "GO") n h.0 f.0 (λ z. cc) h.2.0 f.1

  goto_apart : (n : ℕ) (a : Jump) (k : ℕ) → Built (λ (word : Unit {0}). jump.Goto) (Terminal (spells (codes "GOTO") tokens)) n a k → (b : Jump) (m : ℕ) →
      (Built (λ (word : Unit {0}). jump.Gosub) (Terminal (spells (codes "GOSUB") tokens)) or Built (λ (word : Unit {0}). jump.Goto) (Behind (spells (codes "GO") tokens) (Terminal (spells (codes "TO") tokens))) or Built (λ (word : Unit {0}). jump.Gosub) (Behind (spells (codes "GO") tokens) (Terminal (spells (codes "SUB") tokens)))) n b m → ⊥
  goto_apart n a k h b m (inl g) = words_apart tokens (codes "GOTO") (codes "GOSUB") n h.0 g.0 (λ z. cc) h.2.0 g.2.0
  goto_apart n a k h b m (inr g) = let f = go_first n b m g in words_apart tokens (codes "GOTO") (codes "GO") n h.0 f.0 (λ z. cc) h.2.0 f.1

  pub jump_longest : ReadsLongest (length tokens) 1 (IsJump tokens) (λ _. ⊥) (one_jump tokens)
  unfolding one_jump
  jump_longest = weaker (either_longest (built_longest (λ (word : Unit {0}). jump.Goto) (the_word (codes "GOTO")))
      (weaker (either_longest (built_longest (λ (word : Unit {0}). jump.Gosub) (the_word (codes "GOSUB"))) behind_go_longest gosub_apart) (λ _. ⊥) 1 (λ n g. elim g as (λ _. ⊥) [ inl z ↦ z | inr z ↦ z ]) (omega arith)) goto_apart)
      (λ _. ⊥) 1 (λ n g. elim g as (λ _. ⊥) [ inl z ↦ z | inr z ↦ z ]) (omega arith)

  jump_word : (n : ℕ) (a : Jump) (k : ℕ) → IsJump tokens n a k → (wanted : List ℕ) × (u : Unit {0}) × (spells wanted tokens n ≡ Some u)
  jump_word n a k (inl h) = (codes "GOTO", h.0, h.2.0)
  jump_word n a k (inr (inl h)) = (codes "GOSUB", h.0, h.2.0)
  jump_word n a k (inr (inr h)) = let f = go_first n a k h in (codes "GO", f.0, f.1)

  pub next_number_longest : ReadsLongest (length tokens) (1 + 1) (Behind (at_mark comma tokens) (Terminal (line_number tokens))) (λ _. ⊥) (next_number tokens)
  next_number_longest = led (mark_longest tokens comma) number_longest

  pub number_list_longest : ReadsLongest (length tokens) 1 (Listed tokens (Terminal (line_number tokens))) (λ n. IsSome (at_mark comma tokens n)) (number_list tokens)
  unfolding number_list
  number_list_longest = weaker (listed_longest tokens number_longest (λ n z. absurd z)) (λ n. IsSome (at_mark comma tokens n)) 1 (λ n g. elim g as (λ _. IsSome (at_mark comma tokens n)) [ inl z ↦ absurd z | inr h ↦ h ]) (omega arith)

  -- ---- statements, where plain ones are read

  module _ (P : Form Plain) (p : Reader Plain) (is : ReadsLongest (length tokens) 1 P (GoesPlain tokens) p) (begins : (n : ℕ) (a : Plain) (m : ℕ) → P n a m → BeginsPlain tokens n) where
    number_apart : (n : ℕ) (a : Branch) (k : ℕ) → Built branch.Number (Terminal (line_number tokens)) n a k → (b : Branch) (m : ℕ) → Built branch.Plain P n b m → ⊥
    number_apart n a k h b m g = let none = (begins n g.0 m g.2).2 in let some = h.2.0 in absurd (cc)

    pub branch_longest : ReadsLongest (length tokens) 1 (IsBranch tokens P) (GoesPlain tokens) (one_branch tokens p)
    unfolding one_branch
    branch_longest = weaker (either_longest (built_longest branch.Number number_longest) (built_longest branch.Plain is) number_apart) (GoesPlain tokens) 1
        (λ n g. elim g as (λ _. GoesPlain tokens n) [ inl z ↦ absurd z | inr d ↦ d ]) (omega arith)

    -- no branch begins where the line ends
    pub branch_begins : (n : ℕ) (a : Branch) (m : ℕ) → IsBranch tokens P n a m → LineEnds tokens n → ⊥
    branch_begins n a m (inl h) l = let none = (line_ends_at tokens n l).0.3 in let some = h.2.0 in absurd (cc)
    branch_begins n a m (inr h) l = (begins n h.0 m h.2).3 (line_end_ends tokens n l)

    else_branch_longest : ReadsLongest (length tokens) (1 + 1) (Behind (spells (codes "ELSE") tokens) (IsBranch tokens P)) (GoesPlain tokens) (else_branch tokens p)
    unfolding else_branch
    else_branch_longest = led (the_word (codes "ELSE")) branch_longest

    else_branch_begins : (n : ℕ) → Begins (else_branch tokens p) n → IsSome (spells (codes "ELSE") tokens n)
    unfolding else_branch
    else_branch_begins n h = led_begins (the_word (codes "ELSE")) branch_longest n h

    else_apart : {A : Type 0} (F : Form A) (n : ℕ) → GoesPlain tokens n → (b : A) (m : ℕ) → Behind (spells (codes "ELSE") tokens) F n b m → ⊥
    else_apart F n g b m h = let none = no_else n g in let body = h.2 in let some = body.1.0 in absurd (cc)

    pub branches_longest : ReadsLongest (length tokens) 1 (IsBranches tokens P) (GoesSimple tokens) (branches tokens p)
    unfolding branches
    branches_longest = weaker (perhaps_longest branch_longest else_branch_longest (omega arith) (else_apart (IsBranch tokens P))) (GoesSimple tokens) 1
        (λ n g. elim g as (λ _. GoesSimple tokens n) [ inl d ↦ plain_simple n d | inr (inl d) ↦ plain_simple n d | inr (inr d) ↦ else_goes n (else_branch_begins n d) ]) (omega arith)

    then_branches_longest : ReadsLongest (length tokens) (1 + 1) (Behind (at_word then_word tokens) (IsBranches tokens P)) (GoesSimple tokens) (then_branches tokens p)
    unfolding then_branches
    then_branches_longest = led (word_longest tokens then_word) branches_longest

    before_then : (n : ℕ) → GoesCond tokens n → (b : Branch × Option Branch) (m : ℕ) → Behind (at_word then_word tokens) (IsBranches tokens P) n b m → ⊥
    before_then n g b m h = let none = no_keyword tokens then_word n (past_cond tokens n g) in let body = h.2 in let some = body.1.0 in absurd (cc)

    pub if_longest : ReadsLongest (length tokens) 1 (IsIf tokens P) (GoesSimple tokens) (if_line tokens p)
    unfolding if_line
    if_longest = weaker (built_longest if_of (led (word_longest tokens if_word) (then_longest (cond_longest tokens LEVELS) then_branches_longest before_then))) (GoesSimple tokens) 1 (λ n g. g) (omega arith)

    else_plain_longest : ReadsLongest (length tokens) (1 + 1) (Behind (spells (codes "ELSE") tokens) P) (GoesPlain tokens) (else_plain tokens p)
    unfolding else_plain
    else_plain_longest = led (the_word (codes "ELSE")) is

    else_plain_begins : (n : ℕ) → Begins (else_plain tokens p) n → IsSome (spells (codes "ELSE") tokens n)
    unfolding else_plain
    else_plain_begins n h = led_begins (the_word (codes "ELSE")) is n h

    comma_apart : (n : ℕ) → IsSome (at_mark comma tokens n) → (b : Plain) (m : ℕ) → Behind (spells (codes "ELSE") tokens) P n b m → ⊥
    comma_apart n h b m g =
        let body = g.2 in
        let none = word_no_mark tokens (codes "ELSE") n _ body.1.0 in
        let f = rw none at h in absurd (cc)

    pub numbers_longest : ReadsLongest (length tokens) 1 (IsNumbers tokens P) (GoesSimple tokens) (numbers tokens p)
    unfolding numbers
    numbers_longest = weaker (perhaps_longest number_list_longest else_plain_longest (omega arith) comma_apart) (GoesSimple tokens) 1
        (λ n g. elim g as (λ _. GoesSimple tokens n) [ inl d ↦ comma_goes n d | inr (inl d) ↦ plain_simple n d | inr (inr d) ↦ else_goes n (else_plain_begins n d) ]) (omega arith)

    before_jump : (n : ℕ) → GoesExpr tokens n → (b : Jump × (List ℕ × Option Plain)) (m : ℕ) → (IsJump tokens then IsNumbers tokens P) n b m → ⊥
    before_jump n g b m h =
        let x = goes_mark tokens n g in
        let w = jump_word n b.0 h.0 h.1 in
        let none = word_no_mark tokens w.0 n w.1 w.2 in
        let some = x.1 in
        absurd (cc)

    pub on_longest : ReadsLongest (length tokens) 1 (IsOn tokens P) (GoesSimple tokens) (on_line tokens p)
    unfolding on_line
    on_longest = weaker (built_longest on_of (led (the_word (codes "ON")) (then_longest (expr_longest tokens LEVELS) (then_longest jump_longest numbers_longest (λ n z b m h. z)) before_jump))) (GoesSimple tokens) 1 (λ n g. g) (omega arith)

    -- ---- which begins where

    pub if_first : (n : ℕ) (a : Simple) (k : ℕ) → IsIf tokens P n a k → IsSome (keyword tokens n)
    if_first n a k h = let front = h.2 in let body = front.2 in some_word tokens n if_word (some_is body.1.0)

    pub on_first : (n : ℕ) (a : Simple) (k : ℕ) → IsOn tokens P n a k → (u : Unit {0}) × (spells (codes "ON") tokens n ≡ Some u)
    on_first n a k h = let front = h.2 in let body = front.2 in (_, body.1.0)

    if_apart : (n : ℕ) (a : Simple) (k : ℕ) → IsIf tokens P n a k → (b : Simple) (m : ℕ) → IsOn tokens P n b m → ⊥
    if_apart n a k h b m g = let some = if_first n a k h in let o = on_first n b m g in let f = rw (on_no_keyword tokens n o.0 o.1) at some in absurd (cc)

    plain_apart : (n : ℕ) (a : Simple) (k : ℕ) → Built simple.Plain P n a k → (b : Simple) (m : ℕ) → (IsIf tokens P or IsOn tokens P) n b m → ⊥
    plain_apart n a k h b m (inl g) = let some = if_first n b m g in let f = rw (begins n h.0 k h.2).0 at some in absurd (cc)
    plain_apart n a k h b m (inr g) = let o = on_first n b m g in let none = (begins n h.0 k h.2).1 in let some = o.1 in absurd (cc)

    pub simple_longest : ReadsLongest (length tokens) 1 (IsSimple tokens P) (GoesSimple tokens) (simple_at tokens p)
    unfolding simple_at
    simple_longest = weaker (either_longest (built_longest simple.Plain is)
        (weaker (either_longest if_longest on_longest if_apart) (GoesSimple tokens) 1 (λ n g. elim g as (λ _. GoesSimple tokens n) [ inl d ↦ d | inr d ↦ d ]) (omega arith)) plain_apart)
        (GoesSimple tokens) 1 (λ n g. elim g as (λ _. GoesSimple tokens n) [ inl d ↦ plain_simple n d | inr d ↦ d ]) (omega arith)
