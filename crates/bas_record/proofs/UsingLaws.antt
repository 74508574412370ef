-- The readers of PRINT on a channel and of PRINT USING take the longest.
use Rattle.std.proofs.Common.{◌≡◌, ℕ, ◌+◌, ◌≤◌, ◌<◌, ◌⊎◌, inl, inr, List, [], ◌∷◌, length, Option, Some, None, IsSome, codes, refl, sym, ap, ◌∙◌, arith}
use Rattle.bas_form.specs.Form.{Form, Terminal, ◌then◌, Optional, ◌or◌, ◌perhaps◌}
use Rattle.bas_form.specs.Reader.{Reader, terminal, ReadsLongest, Begins, AlwaysReads}
use Rattle.bas_form.proofs.ReaderLaws.{same_some, some_is, bound, terminal_longest, optional_longest, built_longest, weaker, begun, last, ends}
use Rattle.bas_form.proofs.SequenceLaws.{then_open, then_longest, perhaps_longest}
use Rattle.bas_ast.specs.declared.expression.Expr.{Expr}
use Rattle.bas_ast.specs.declared.record_statement.Chan.{Chan}
use Rattle.bas_ast.specs.declared.statement.Sep.{Sep}
use Rattle.bas_ast.specs.declared.statement.Plist.{Plist}
use Rattle.bas_ast.specs.declared.statement.Plain.{Plain}
use Rattle.bas_ast.specs.declared.statement.Plain.TheVariants as plain
use Rattle.bas_expr.specs.Lexemes.{Lexeme}
use Rattle.bas_expr.specs.Marks.{at_mark, comma, colon, hash}
use Rattle.bas_expr.specs.Separated.{Behind, behind}
use Rattle.bas_expr.specs.Reading.{GoesExpr}
use Rattle.bas_expr.proofs.MarkLaws.{mark_inside, stops, at_comma}
use Rattle.bas_expr.specs.declared.TheConstants.{LEVELS}
use Rattle.bas_declaration.specs.Keywords.{spells}
use Rattle.bas_declaration.specs.Parts.{E}
use Rattle.bas_declaration.proofs.WordLaws.{spells_inside}
use Rattle.bas_declaration.proofs.PartLaws.{an_expr, no_comma_past}
use Rattle.bas_list.specs.Words.{separator_of}
use Rattle.bas_list.specs.Lists.{IsPlist}
use Rattle.bas_list.specs.Reading.{GoesPrint}
use Rattle.bas_list.proofs.FrontLaws.{expr_front}
use Rattle.bas_list.proofs.EndLaws.{front_ends}
use Rattle.bas_list.proofs.PrintLaws.{past_expr, print_list_longest, print_ends}
use Rattle.bas_record.specs.declared.print.Formatted.{Formatted}
use Rattle.bas_record.specs.Words.{verb}
use Rattle.bas_record.specs.Channels.{IsChan}
use Rattle.bas_record.specs.Records.{only_semicolon, semicolon, formatted_of, print_using_of, IsPrintChan, IsChanComma, IsNextFormatted, IsRestFormatted, IsFormatted, IsUsing, IsPrintUsing, GoesRecord}
use Rattle.bas_record.specs.Reading.{chan}
use Rattle.bas_record.specs.Recording.{colon_list, print_chan, chan_comma, next_formatted, rest_formatted, formatted, using_part, print_using, print_line}
use Rattle.bas_record.proofs.WordLaws.{led_begins, led_one, led, verb_inside, mark_no_word}
use Rattle.bas_record.proofs.ChannelLaws.{chan_longest}
use Rattle.bas_record.proofs.PlaceLaws.{one, mark_goes, expr_goes, before_colon}
use Rattle.bas_record.proofs.RestLaws.{rest_reads, rest_longest}
use Rattle.bas_record.proofs.ChoiceLaws.{over_longest}

-- each turn of a list takes two tokens at least
pub turn : 1 ≤ 1 + 1
turn = omega arith

two : 2 ≤ 1 + 1
two = omega arith

module _ (tokens : List Lexeme) where
  module _ {A : Type 0} {F : Form A} {least : ℕ} {GoesOn : ℕ → Type 0} {f : Reader A} (is : ReadsLongest (length tokens) least F GoesOn f) where
    -- behind the word that a statement begins with
    pub verb_then : ReadsLongest (length tokens) 1 (Behind (verb tokens) F) GoesOn (behind (verb tokens) f)
    verb_then = led_one (verb tokens) (verb_inside tokens) is

    -- behind a colon
    pub colon_then : ReadsLongest (length tokens) 1 (Behind (at_mark colon tokens) F) GoesOn (behind (at_mark colon tokens) f)
    colon_then = led_one (at_mark colon tokens) (mark_inside tokens colon) is

  -- ---- PRINT on a channel

  colon_list_longest : ReadsLongest (length tokens) 1 (Behind (at_mark colon tokens) (IsPlist tokens)) (GoesPrint tokens) (colon_list tokens)
  unfolding colon_list
  colon_list_longest = colon_then (print_list_longest tokens)

  colon_begins : (n : ℕ) → Begins (colon_list tokens) n → IsSome (at_mark colon tokens n)
  unfolding colon_list
  colon_begins n h = led_begins (at_mark colon tokens) (mark_inside tokens colon) (print_list_longest tokens) n h

  print_goes : (n : ℕ) → GoesPrint tokens n → GoesRecord tokens n
  print_goes n g ends = print_ends tokens n ends g

  print_chan_longest : ReadsLongest (length tokens) 1 (IsPrintChan tokens) (GoesRecord tokens) (print_chan tokens)
  unfolding print_chan
  print_chan_longest = built_longest (λ (p : Chan × Option Plist). plain.PrintChan p.0 p.1)
      (verb_then (weaker (perhaps_longest (chan_longest tokens) colon_list_longest one (λ n g b m h. before_colon tokens (IsPlist tokens) n (inl g) b m h)) (GoesRecord tokens) 1
      (λ n g. elim g as (λ _. GoesRecord tokens n) [ inl d ↦ expr_goes tokens n d | inr (inl d) ↦ print_goes n d | inr (inr d) ↦ mark_goes tokens colon n (colon_begins n d) ]) (omega arith)))

  -- ---- the values of a format

  pub next_formatted_longest : ReadsLongest (length tokens) (1 + 1) (IsNextFormatted tokens) (GoesExpr tokens) (next_formatted tokens)
  unfolding next_formatted
  next_formatted_longest = then_longest (terminal_longest (length tokens) (at_mark separator_of tokens) (mark_inside tokens separator_of)) (an_expr tokens) (λ n z b m h. z)

  before_next : (n : ℕ) → GoesExpr tokens n → (b : Sep × Expr) (m : ℕ) → IsNextFormatted tokens n b m → ⊥
  before_next n g b m h = let none = past_expr tokens n g in let some = h.1.0 in absurd (cc)

  semicolon_is : (n : ℕ) (u : Unit {0}) → semicolon tokens n ≡ Some u → (s : Sep) × (at_mark separator_of tokens n ≡ Some s)
  semicolon_is n u e = let b = bound (at_mark separator_of tokens n) only_semicolon u e in (b.0, b.1)

  semicolon_inside : (n : ℕ) (u : Unit {0}) → semicolon tokens n ≡ Some u → n < length tokens
  semicolon_inside n u e = let s = semicolon_is n u e in mark_inside tokens separator_of n s.0 s.1

  before_semicolon : (n : ℕ) → GoesExpr tokens n → (u : Unit {0}) → semicolon tokens n ≡ Some u → ⊥
  before_semicolon n g u e = let none = past_expr tokens n g in let s = semicolon_is n u e in let some = s.1 in absurd (cc)

  semicolon_goes : (n : ℕ) (o : Option (Unit {0})) → semicolon tokens n ≡ o → IsSome o → GoesRecord tokens n
  semicolon_goes n None e h = absurd (cc)
  semicolon_goes n (Some u) e h = let s = semicolon_is n u e in mark_goes tokens separator_of n (some_is s.1)

  separator_goes : (n : ℕ) → Begins (next_formatted tokens) n → GoesRecord tokens n
  separator_goes n d = let b = begun next_formatted_longest n d in let body = b.2 in mark_goes tokens separator_of n (some_is body.1.0)

  value_goes : (n m : ℕ) → n ≡ m + 1 → Begins (next_formatted tokens) m → GoesRecord tokens n
  value_goes n m e d ends =
      let b = begun next_formatted_longest m d in
      let body = b.2 in
      let middle : body.0 ≡ n = body.1.1 ∙ sym e in
      let front = expr_front tokens LEVELS body.0 b.0.1 b.1 body.2 in
      front_ends tokens n ends (rw middle at front)

  rest_goes : (n : ℕ) → ((GoesExpr tokens n ⊎ Begins (next_formatted tokens) n) ⊎ (IsSome (semicolon tokens n) ⊎ ((m : ℕ) × (n ≡ m + 1) × Begins (next_formatted tokens) m))) → GoesRecord tokens n
  rest_goes n (inl (inl g)) = expr_goes tokens n g
  rest_goes n (inl (inr d)) = separator_goes n d
  rest_goes n (inr (inl h)) = semicolon_goes n (semicolon tokens n) refl h
  rest_goes n (inr (inr (m, e, d))) = value_goes n m e d

  rest_formatted_longest : ReadsLongest (length tokens) 0 (IsRestFormatted tokens) (GoesRecord tokens) (rest_formatted tokens)
  unfolding rest_formatted
  rest_formatted_longest = weaker (rest_longest next_formatted_longest two before_next (semicolon tokens) semicolon_inside before_semicolon) (GoesRecord tokens) 0 rest_goes (omega arith)

  rest_formatted_reads : AlwaysReads (rest_formatted tokens)
  unfolding rest_formatted
  rest_formatted_reads = rest_reads next_formatted_longest two before_next (semicolon tokens) semicolon_inside before_semicolon

  -- nothing of it stands where an expression may go on
  empty_rest : (n : ℕ) → GoesExpr tokens n → (b : List (Sep × Expr) × Option (Unit {0})) (m : ℕ) → IsRestFormatted tokens n b m → (m ≡ n) × GoesRecord tokens n × AlwaysReads (rest_formatted tokens)
  empty_rest n g ([], None) m h = (h.2 ∙ h.1, expr_goes tokens n g, rest_formatted_reads)
  empty_rest n g ([], Some u) m h = let same : h.0 ≡ n = h.1 in let mark = h.2.0 in absurd (before_semicolon n g u (rw same at mark))
  empty_rest n g (a ∷ more, o) m h = let items = h.1 in absurd (before_next n g a items.0 items.1)

  formatted_longest : ReadsLongest (length tokens) 1 (IsFormatted tokens) (GoesRecord tokens) (formatted tokens)
  unfolding formatted
  formatted_longest = weaker (built_longest formatted_of (then_open (an_expr tokens) rest_formatted_longest (GoesRecord tokens) (λ n g. g) empty_rest)) (GoesRecord tokens) 1 (λ n g. g) (omega arith)

  -- ---- PRINT USING

  using_longest : ReadsLongest (length tokens) 1 (IsUsing tokens) (GoesRecord tokens) (using_part tokens)
  unfolding using_part
  using_longest = led_one (spells (codes "USING") tokens) (spells_inside tokens (codes "USING"))
      (then_longest (an_expr tokens) (colon_then formatted_longest) (λ n g b m h. before_colon tokens (IsFormatted tokens) n (inl g) b m h))

  comma_longest : ReadsLongest (length tokens) 1 (Terminal (at_mark comma tokens)) (λ _. ⊥) (terminal (at_mark comma tokens))
  comma_longest = terminal_longest (length tokens) (at_mark comma tokens) (mark_inside tokens comma)

  chan_comma_longest : ReadsLongest (length tokens) 1 (IsChanComma tokens) (λ _. ⊥) (chan_comma tokens)
  unfolding chan_comma
  chan_comma_longest = weaker (built_longest (λ (p : Chan × Unit {0}). p.0)
      (then_longest (chan_longest tokens) comma_longest (λ n g b m h. (let none = no_comma_past tokens n g in let some = h.0 in absurd (cc))))) (λ _. ⊥) 1 (λ n z. z) (omega arith)

  chan_hash : (n : ℕ) (a : Chan) (k : ℕ) → IsChan tokens n a k → (u : Unit {0}) × (at_mark hash tokens n ≡ Some u)
  chan_hash n a k h = let l = led (at_mark hash tokens) (E tokens) n h.0 k h.2 in (l.0, l.1)

  -- no channel stands at USING
  chan_no_using : (n : ℕ) (a : Chan) (k : ℕ) → IsChan tokens n a k → (b : Expr × Formatted) (m : ℕ) → IsUsing tokens n b m → ⊥
  chan_no_using n a k h b m q =
      let c = chan_hash n a k h in
      let l = led (spells (codes "USING") tokens) (E tokens then Behind (at_mark colon tokens) (IsFormatted tokens)) n b m q in
      mark_no_word tokens hash (codes "USING") n c.0 l.0 c.1 l.1

  before_using : (n : ℕ) → (⊥ ⊎ Begins (chan_comma tokens) n) → (b : Expr × Formatted) (m : ℕ) → IsUsing tokens n b m → ⊥
  before_using n (inl z) b m h = z
  before_using n (inr d) b m h =
      let c = begun chan_comma_longest n d in
      let parts = c.2 in
      let body = parts.2 in
      chan_no_using n parts.0.0 body.0 body.1 b m h

  print_using_longest : ReadsLongest (length tokens) 1 (IsPrintUsing tokens) (GoesRecord tokens) (print_using tokens)
  unfolding print_using
  print_using_longest = built_longest print_using_of (verb_then (then_longest (optional_longest chan_comma_longest one) using_longest before_using))

  -- ---- a channel behind which USING stands is printed on no further than to its comma

  at_its_comma : (s : ℕ) (c : Chan) (k j : ℕ) → IsChan tokens s c k → (p : Chan) → chan tokens s ≡ Some (p, j) → IsSome (at_mark comma tokens j) → GoesRecord tokens k
  at_its_comma s c k j h p e some = elim ((chan_longest tokens).longest s c k h) as (λ _. GoesRecord tokens k) [
    | inl d ↦ (let same : j ≡ k = ap (λ t. t.1) (same_some (sym e ∙ d)) in mark_goes tokens comma k (rw same at some))
    | inr d ↦ expr_goes tokens k d.0
  ]

  earlier_by : (s : ℕ) (c : Chan) (list : Option Plist) (d : Option Chan) (x : Expr × Formatted) (middle k front m : ℕ) → IsChan tokens s c middle → Optional (Behind (at_mark colon tokens) (IsPlist tokens)) middle list k →
      Optional (IsChanComma tokens) s d front → IsUsing tokens front x m → GoesRecord tokens k × (k < m)
  earlier_by s c list None x middle k front m h l o q = absurd (chan_no_using s c middle h x m (rw o at q))
  earlier_by s c None (Some y) x middle k front m h l o q =
      let body = o.2 in
      let some = body.2.0 in
      let e = ends (chan_longest tokens) s o.0.0 body.0 body.1 (λ g. (let none = no_comma_past tokens body.0 g in absurd (cc))) in
      let no_later = last (chan_longest tokens) s (o.0.0, body.0) e c middle h in
      let after = body.2.1 in
      let grown = using_longest.grows front x m q in
      let same : k ≡ middle = l in
      (rw same (at_its_comma s c middle body.0 h o.0.0 e (some_is some)), omega arith)
  earlier_by s c (Some list) (Some y) x middle k front m h l o q =
      let body = o.2 in
      let some = body.2.0 in
      let e = ends (chan_longest tokens) s o.0.0 body.0 body.1 (λ g. (let none = no_comma_past tokens body.0 g in absurd (cc))) in
      let lead = led (at_mark colon tokens) (IsPlist tokens) middle list k l in
      let marked = lead.1 in
      let f = ends (chan_longest tokens) s c middle h (λ g. (let none = (stops tokens middle g).1 in absurd (cc))) in
      let same : body.0 ≡ middle = ap (λ t. t.1) (same_some (sym e ∙ f)) in
      let stands : IsSome (at_mark comma tokens body.0) = some_is some in
      let none = (at_comma tokens middle (rw same at stands)).0 in
      absurd (cc)

  earlier : (n : ℕ) (a : Plain) (k : ℕ) → IsPrintChan tokens n a k → (b : Plain) (m : ℕ) → IsPrintUsing tokens n b m → GoesRecord tokens k × (k < m)
  earlier n a k h b m q =
      let l = led (verb tokens) (IsChan tokens perhaps Behind (at_mark colon tokens) (IsPlist tokens)) n h.0 k h.2 in
      let r = led (verb tokens) (Optional (IsChanComma tokens) then IsUsing tokens) n q.0 m q.2 in
      let front = l.2 in
      let back = r.2 in
      earlier_by (n + 1) h.0.0 h.0.1 q.0.0 q.0.1 front.0 k back.0 m front.1 front.2 back.1 back.2

  pub print_line_longest : ReadsLongest (length tokens) 1 (IsPrintChan tokens or IsPrintUsing tokens) (GoesRecord tokens) (print_line tokens)
  unfolding print_line
  print_line_longest = over_longest print_chan_longest print_using_longest (GoesRecord tokens) (λ n g. g) (λ n g. g) earlier
