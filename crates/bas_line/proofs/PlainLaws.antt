-- Statements with a channel or a format end later than those with neither that begin at the same place.
use Rattle.std.proofs.Common.{◌≡◌, ℕ, ◌+◌, ◌<◌, ◌≤◌, inl, inr, List, [], ◌∷◌, length, Option, Some, None, IsSome, codes, refl, sym, ◌∙◌, subst, arith}
use Rattle.bas_form.specs.Form.{Terminal, ◌then◌, Optional, Repeated, ◌or◌, Built, ◌perhaps◌}
use Rattle.bas_form.specs.Reader.{◌>>=◌, ReadsLongest}
use Rattle.bas_form.proofs.ElementLaws.{element_from, element_is}
use Rattle.bas_form.proofs.ReaderLaws.{same_some, bound, some_is}
use Rattle.bas_token.specs.declared.token.TokenKind.TheVariants as kind
use Rattle.bas_ast.specs.declared.expression.Expr.{Expr}
use Rattle.bas_ast.specs.declared.record_statement.Chan.{Chan}
use Rattle.bas_ast.specs.declared.statement.Sep.{Sep}
use Rattle.bas_ast.specs.declared.statement.Targets.{Targets}
use Rattle.bas_ast.specs.declared.statement.Pitem.{Pitem}
use Rattle.bas_ast.specs.declared.statement.Pitem.TheVariants as pitem
use Rattle.bas_ast.specs.declared.statement.Plist.{Plist}
use Rattle.bas_ast.specs.declared.statement.Plain.{Plain}
use Rattle.bas_expr.specs.declared.mark.Mark.{Mark}
use Rattle.bas_expr.specs.declared.mark.Mark.TheVariants as m
use Rattle.bas_expr.specs.Lexemes.{Lexeme}
use Rattle.bas_expr.specs.Marks.{mark_of, mark, at_mark, colon, hash}
use Rattle.bas_expr.specs.Separated.{Behind}
use Rattle.bas_expr.specs.Grammar.{Parenthesized}
use Rattle.bas_expr.proofs.MarkLaws.{name_first, own_is}
use Rattle.bas_expr.proofs.ExpressionLaws.{no_hash}
use Rattle.bas_expr.specs.declared.TheConstants.{LEVELS}
use Rattle.bas_declaration.specs.Keywords.{spelling, spells}
use Rattle.bas_declaration.specs.Parts.{E}
use Rattle.bas_declaration.proofs.WordLaws.{same_word_is, spells_stands, mark_no_spells}
use Rattle.bas_list.specs.Words.{separator_of, Ends}
use Rattle.bas_list.specs.declared.TheConstants.{INNER_LEVELS}
use Rattle.bas_list.specs.Lists.{Inner, IsTargets, IsPitem, IsNext, IsPlist, plist_of}
use Rattle.bas_list.proofs.EndLaws.{other_word, mark_ends}
use Rattle.bas_balance.specs.Balance.{BalancedIn, Balanced, Balances}
use Rattle.bas_balance.proofs.BalanceLaws.{ArePlain, token_balanced, unmarked, joined, mark_balances, colon_balances, parenthesized_balances, then_balances, optional_balances, repeated_balances, or_balances, built_balances, behind_balances, deeper_balances, colon_ends}
use Rattle.bas_balance.proofs.ExpressionBalance.{Passes, element_balances, expr_balances}
use Rattle.bas_record.specs.declared.word.Verb.{Verb as RecordVerb}
use Rattle.bas_record.specs.declared.word.Verb.TheVariants as r
use Rattle.bas_record.specs.Words as rec
use Rattle.bas_record.specs.Channels.{IsChan}
use Rattle.bas_record.specs.Records.{only_semicolon, semicolon, formatted_of, IsPlace, IsInput as IsRecordInput, IsPrintChan, IsChanComma, IsNextFormatted, IsRestFormatted, IsFormatted, IsUsing, IsPrintUsing, IsLineInput as IsRecordLineInput, IsInputLine, IsRead as IsRecordRead, RecordBy, IsRecordStatement}
use Rattle.bas_record.proofs.WordLaws.{led}
use Rattle.bas_record.proofs.ChannelLaws.{chan_longest}
use Rattle.bas_record.proofs.ChoiceLaws.{over_longest}
use Rattle.bas_record.proofs.RecordLaws.{record_statement_longest}
use Rattle.bas_statement.specs.declared.verb.Verb.{Verb}
use Rattle.bas_statement.specs.declared.verb.Verb.TheVariants as v
use Rattle.bas_statement.specs.Verbs.{verb, verb_of_text}
use Rattle.bas_statement.specs.Statements.{IsPrompt, IsAsked, IsPrint, IsInput, IsLineInput, IsRead, StatementBy, IsStatement}
use Rattle.bas_statement.proofs.GoesLaws.{statement_ends}
use Rattle.bas_statement.proofs.StatementLaws.{statement_longest}
use Rattle.bas_line.specs.Plains.{IsPlain, plain_at}
use Rattle.bas_line.proofs.SimpleLaws.{GoesPlain, BeginsPlain}
use Rattle.bas_line.proofs.LeadLaws.{record_word, record_begins, statement_begins, both_verbs}

-- ---- marks and words

hash_no_separator : (o : Option Mark) → IsSome (o >>= hash) → (o >>= separator_of) ≡ None
hash_no_separator (Some m.Hash) h = refl
hash_no_separator _ h = absurd (cc)

separator_plain : ArePlain separator_of
separator_plain m.Comma a e level = refl
separator_plain m.Semicolon a e level = refl
separator_plain _ a e level = absurd (cc)

tab_passes : (token : Lexeme) (u : Unit {0}) → spelling (codes "TAB") token ≡ Some u → Passes token
tab_passes (kind.Word, text) u e = (other_word (codes "TAB") (codes "ELSE") text (same_word_is (codes "TAB") text u e) refl, refl)
tab_passes (kind.Numeral, text) u e = absurd (cc)
tab_passes (kind.Quoted, text) u e = absurd (cc)
tab_passes (kind.Sign, text) u e = absurd (cc)
tab_passes (kind.Remark, text) u e = absurd (cc)

module _ (tokens : List Lexeme) where
  none_some : {A : Type 0} (o : Option A) → o ≡ None → IsSome o → ⊥
  none_some o e h = let f = rw e at h in absurd (cc)

  none_marks : {A : Type 0} (f : Mark → Option A) (n : ℕ) → mark tokens n ≡ None → IsSome (at_mark f tokens n) → ⊥
  none_marks f n e h = let g = rw e at h in absurd (cc)

  tab_no_mark : (n : ℕ) (u : Unit {0}) → spells (codes "TAB") tokens n ≡ Some u → mark tokens n ≡ None
  unfolding spells mark
  tab_no_mark n u e = let x = element_from (spelling (codes "TAB")) tokens n u e in element_is mark_of tokens n x.0 x.1 ∙ (tab_passes x.0 u x.2).1

  tab_balances : Balances 0 tokens (Terminal (spells (codes "TAB") tokens))
  unfolding spells
  tab_balances = element_balances 0 tokens (spelling (codes "TAB")) tab_passes

  separator_balances : (least : ℕ) → Balances least tokens (Terminal (at_mark separator_of tokens))
  separator_balances least = mark_balances tokens least separator_of separator_plain

  e_balances : (least : ℕ) → Balances least tokens (E tokens)
  e_balances least = deeper_balances least tokens (E tokens) (expr_balances tokens LEVELS)

  inner_balances : Balances 1 tokens (Inner tokens)
  inner_balances = deeper_balances 1 tokens (Inner tokens) (expr_balances tokens INNER_LEVELS)

  item_balances : Balances 0 tokens (IsPitem tokens)
  item_balances = or_balances 0 tokens (Built pitem.Expr (E tokens)) (Built pitem.Tab (Behind (spells (codes "TAB") tokens) (Parenthesized tokens (Inner tokens))))
      (built_balances 0 tokens pitem.Expr (E tokens) (e_balances 0))
      (built_balances 0 tokens pitem.Tab (Behind (spells (codes "TAB") tokens) (Parenthesized tokens (Inner tokens)))
      (behind_balances 0 tokens (spells (codes "TAB") tokens) tab_balances (Parenthesized tokens (Inner tokens)) (parenthesized_balances tokens (Inner tokens) inner_balances)))

  next_balances : Balances 0 tokens (IsNext tokens)
  next_balances = then_balances 0 tokens (Terminal (at_mark separator_of tokens)) (Optional (IsPitem tokens)) (separator_balances 0) (optional_balances 0 tokens (IsPitem tokens) item_balances)

  pub plist_balances : Balances 0 tokens (IsPlist tokens)
  plist_balances = built_balances 0 tokens plist_of (Optional (IsPitem tokens) then Repeated (IsNext tokens))
      (then_balances 0 tokens (Optional (IsPitem tokens)) (Repeated (IsNext tokens)) (optional_balances 0 tokens (IsPitem tokens) item_balances) (repeated_balances 0 tokens (IsNext tokens) next_balances))

  semicolon_balances : Balances 1 tokens (Terminal (semicolon tokens))
  semicolon_balances at u next h = let b = bound (at_mark separator_of tokens at) only_semicolon u h.0 in separator_balances 1 at b.0 next (b.1, h.1)

  next_formatted_balances : Balances 1 tokens (IsNextFormatted tokens)
  next_formatted_balances = then_balances 1 tokens (Terminal (at_mark separator_of tokens)) (E tokens) (separator_balances 1) (e_balances 1)

  formatted_balances : Balances 1 tokens (IsFormatted tokens)
  formatted_balances = built_balances 1 tokens formatted_of (E tokens then IsRestFormatted tokens)
      (then_balances 1 tokens (E tokens) (IsRestFormatted tokens) (e_balances 1)
      (then_balances 1 tokens (Repeated (IsNextFormatted tokens)) (Optional (Terminal (semicolon tokens))) (repeated_balances 1 tokens (IsNextFormatted tokens) next_formatted_balances)
      (optional_balances 1 tokens (Terminal (semicolon tokens)) semicolon_balances)))

  -- the word USING is no mark and ends no statement
  using_balanced : (n : ℕ) (u : Unit {0}) → spells (codes "USING") tokens n ≡ Some u → Balanced tokens n (n + 1)
  using_balanced n u e =
      let x = spells_stands tokens (codes "USING") n u e in
      let other = other_word (codes "USING") (codes "ELSE") x.0 x.2 refl in
      token_balanced tokens 0 n (kind.Word, x.0) x.1 (λ level l. unmarked (kind.Word, x.0) other refl level)

  no_earlier : (least at next : ℕ) → BalancedIn least tokens at next → at ≤ next
  no_earlier least at next b = let e = b.1 in omega arith

  -- ---- what stands where a `#` does

  chan_hash : (n : ℕ) (c : Chan) (k : ℕ) → IsChan tokens n c k → IsSome (at_mark hash tokens n) × (n < k)
  chan_hash n c k h =
      let x = led (at_mark hash tokens) (E tokens) n h.0 k h.2 in
      let g = (chan_longest tokens).grows n c k h in
      (some_is x.1, omega arith)

  hash_no_item : (n : ℕ) → IsSome (at_mark hash tokens n) → (i : Pitem) (k : ℕ) → IsPitem tokens n i k → ⊥
  hash_no_item n h i k (inl x) = none_some (at_mark hash tokens n) (no_hash tokens LEVELS n x.0 k x.2) h
  hash_no_item n h i k (inr x) = let y = led (spells (codes "TAB") tokens) (Parenthesized tokens (Inner tokens)) n x.0 k x.2 in none_marks hash n (tab_no_mark n y.0 y.1) h

  hash_first : (n : ℕ) → IsSome (at_mark hash tokens n) → (o : Option Pitem) (k : ℕ) → Optional (IsPitem tokens) n o k → k ≡ n
  hash_first n h None k x = x
  hash_first n h (Some i) k x = absurd (hash_no_item n h i k x)

  hash_rest : (n : ℕ) → IsSome (at_mark hash tokens n) → (more : List (Sep × Option Pitem)) (k : ℕ) → Repeated (IsNext tokens) n more k → k ≡ n
  hash_rest n h [] k x = x
  hash_rest n h (p ∷ more) k x = let s = x.1.1.0 in let none = hash_no_separator (mark tokens n) h in absurd (cc)

  hash_plist : (n : ℕ) → IsSome (at_mark hash tokens n) → (p : Plist) (k : ℕ) → IsPlist tokens n p k → k ≡ n
  hash_plist n h p k x =
      let parts = x.2 in
      let first = hash_first n h x.0.0 parts.0 parts.1 in
      hash_rest n h x.0.1 k (subst (λ (m : ℕ). Repeated (IsNext tokens) m x.0.1 k) first parts.2)

  hash_no_targets : (n : ℕ) → IsSome (at_mark hash tokens n) → (t : Targets) (k : ℕ) → IsTargets tokens n t k → ⊥
  hash_no_targets n h t k x =
      let list = x.2 in
      let both = list.2 in
      let target = both.1 in
      let parts = target.2 in
      let name = own_is tokens n target.0.0 parts.1.0 in
      none_marks hash n (name_first tokens n target.0.0 name.0).0.0 h

  hash_mark : (n : ℕ) → IsSome (at_mark hash tokens n) → (x : Mark) × (mark tokens n ≡ Some x)
  hash_mark n h = by_value (mark tokens n) refl h
    where
      by_value : (o : Option Mark) → mark tokens n ≡ o → IsSome (o >>= hash) → (x : Mark) × (mark tokens n ≡ Some x)
      by_value None e h = absurd (cc)
      by_value (Some x) e h = (x, e)

  hash_no_asked : (n : ℕ) → IsSome (at_mark hash tokens n) → (o : Option Expr) (t : Targets) (m k : ℕ) → Optional (IsPrompt tokens) n o m → IsTargets tokens m t k → ⊥
  hash_no_asked n h None t m k x y = hash_no_targets n h t k (subst (λ (j : ℕ). IsTargets tokens j t k) x y)
  hash_no_asked n h (Some e) t m k x y =
      let parts = x.2 in
      let some = parts.1.0 in
      let z = hash_mark n h in
      let none = mark_no_spells tokens n (codes "PROMPT") z.0 z.1 in
      absurd (cc)

  -- ---- PRINT

  abbrev IsEarlier : ℕ → ℕ → Type 0
  IsEarlier k m = GoesPlain tokens k × (k < m)

  at_hash : (n k m : ℕ) → IsSome (at_mark hash tokens n) → k ≡ n → n < m → IsEarlier k m
  at_hash n k m h same l = ((λ ends. mark_ends tokens n hash (subst (Ends tokens) same ends) h), omega arith)

  colon_list_later : (at m : ℕ) (o : Option Plist) → Optional (Behind (at_mark colon tokens) (IsPlist tokens)) at o m → at ≤ m
  colon_list_later at m None x = omega arith
  colon_list_later at m (Some p) x =
      no_earlier 1 at m (behind_balances 1 tokens (at_mark colon tokens) (colon_balances tokens) (IsPlist tokens) (deeper_balances 1 tokens (IsPlist tokens) plist_balances) at p m x)

  print_chan : (n : ℕ) (p : Plist) (k : ℕ) → IsPlist tokens (n + 1) p k → (b : Plain) (m : ℕ) → IsPrintChan tokens n b m → IsEarlier k m
  print_chan n p k list b m h =
      let x = led (rec.verb tokens) (IsChan tokens perhaps Behind (at_mark colon tokens) (IsPlist tokens)) n h.0 m h.2 in
      let both = x.2 in
      let c = chan_hash (n + 1) h.0.0 both.0 both.1 in
      let later = colon_list_later both.0 m h.0.1 both.2 in
      let past = c.1 in
      at_hash (n + 1) k m c.0 (hash_plist (n + 1) c.0 p k list) (omega arith)

  using_later : (at : ℕ) (m : ℕ) (q : Expr × _) → IsUsing tokens at q m → at < m
  using_later at m q h =
      let x = led (spells (codes "USING") tokens) (E tokens then Behind (at_mark colon tokens) (IsFormatted tokens)) at q m h in
      let both = x.2 in
      let e = no_earlier 0 (at + 1) both.0 (expr_balances tokens LEVELS (at + 1) q.0 both.0 both.1) in
      let f = no_earlier 1 both.0 m (behind_balances 1 tokens (at_mark colon tokens) (colon_balances tokens) (IsFormatted tokens) formatted_balances both.0 q.1 m both.2) in
      omega arith

  using_over : (n : ℕ) (p : Plist) (k : ℕ) → IsPlist tokens n p k → (q : Expr × _) (m : ℕ) → IsUsing tokens n q m → IsEarlier k m
  using_over n p k list q m h =
      let x = led (spells (codes "USING") tokens) (E tokens then Behind (at_mark colon tokens) (IsFormatted tokens)) n q m h in
      let both = x.2 in
      let word = using_balanced n x.0 x.1 in
      let front = joined tokens 0 n (n + 1) both.0 word (expr_balances tokens LEVELS (n + 1) q.0 both.0 both.1) in
      let y = led (at_mark colon tokens) (IsFormatted tokens) both.0 q.1 m both.2 in
      let f = no_earlier 1 (both.0 + 1) m (formatted_balances (both.0 + 1) q.1 m y.2) in
      let ends = colon_ends tokens n both.0 k front (some_is y.1) (plist_balances n p k list) in
      let early = ends.0 in
      ((λ end. statement_ends tokens k end ends.1), omega arith)

  print_using_by : (n : ℕ) (p : Plist) (k : ℕ) → IsPlist tokens n p k → (o : Option Chan) (q : Expr × _) (at m : ℕ) → Optional (IsChanComma tokens) n o at → IsUsing tokens at q m → IsEarlier k m
  print_using_by n p k list None q at m x h = using_over n p k list q m (subst (λ (j : ℕ). IsUsing tokens j q m) x h)
  print_using_by n p k list (Some c) q at m x h =
      let both = x.2 in
      let c = chan_hash n x.0.0 both.0 both.1 in
      let past = c.1 in
      let comma = both.2.1 in
      let later = using_later at m q h in
      at_hash n k m c.0 (hash_plist n c.0 p k list) (omega arith)

  print_using : (n : ℕ) (p : Plist) (k : ℕ) → IsPlist tokens (n + 1) p k → (b : Plain) (m : ℕ) → IsPrintUsing tokens n b m → IsEarlier k m
  print_using n p k list b m h =
      let x = led (rec.verb tokens) (Optional (IsChanComma tokens) then IsUsing tokens) n h.0 m h.2 in
      let both = x.2 in
      print_using_by (n + 1) p k list h.0.0 h.0.1 both.0 m both.1 both.2

  print_over : (n : ℕ) (a : Plain) (k : ℕ) → IsPrint tokens n a k → (b : Plain) (m : ℕ) → (IsPrintChan tokens or IsPrintUsing tokens) n b m → IsEarlier k m
  print_over n a k h b m (inl g) = let x = led (verb tokens) (IsPlist tokens) n h.0 k h.2 in print_chan n h.0 k x.2 b m g
  print_over n a k h b m (inr g) = let x = led (verb tokens) (IsPlist tokens) n h.0 k h.2 in print_using n h.0 k x.2 b m g

  -- ---- INPUT, LINE INPUT and READ

  input_apart : (n : ℕ) (a : Plain) (k : ℕ) → IsInput tokens n a k → (b : Plain) (m : ℕ) → IsInputLine tokens n b m → ⊥
  input_apart n a k h b m g =
      let x = led (verb tokens) (IsAsked tokens) n h.0 k h.2 in
      let y = led (rec.verb tokens) (IsRecordInput tokens) n g.0 m g.2 in
      let asked = x.2 in
      let front = y.2.1 in
      hash_no_asked (n + 1) (chan_hash (n + 1) g.0.0.0 front.0 front.1).0 h.0.0 h.0.1 asked.0 k asked.1 asked.2

  line_input_apart : (n : ℕ) (a : Plain) (k : ℕ) → IsLineInput tokens n a k → (b : Plain) (m : ℕ) → IsRecordLineInput tokens n b m → ⊥
  line_input_apart n a k h b m g =
      let x = led (verb tokens) (Behind (spells (codes "INPUT") tokens) (IsAsked tokens)) n h.0 k h.2 in
      let x2 = led (spells (codes "INPUT") tokens) (IsAsked tokens) (n + 1) h.0 k x.2 in
      let y = led (rec.verb tokens) (Behind (spells (codes "INPUT") tokens) (IsRecordInput tokens)) n g.0 m g.2 in
      let y2 = led (spells (codes "INPUT") tokens) (IsRecordInput tokens) (n + 1) g.0 m y.2 in
      let asked = x2.2 in
      let front = y2.2.1 in
      hash_no_asked (n + 1 + 1) (chan_hash (n + 1 + 1) g.0.0.0 front.0 front.1).0 h.0.0 h.0.1 asked.0 k asked.1 asked.2

  read_apart : (n : ℕ) (a : Plain) (k : ℕ) → IsRead tokens n a k → (b : Plain) (m : ℕ) → IsRecordRead tokens n b m → ⊥
  read_apart n a k h b m g =
      let x = led (verb tokens) (IsTargets tokens) n h.0 k h.2 in
      let y = led (rec.verb tokens) (IsPlace tokens then Behind (at_mark colon tokens) (IsTargets tokens)) n g.0 m g.2 in
      let place = y.2.1 in
      let front = place.1 in
      hash_no_targets (n + 1) (chan_hash (n + 1) g.0.0.0.0 front.0 front.1).0 h.0 k x.2

  -- ---- all of them

  the_verb : (one two : Verb) (n : ℕ) (a : Plain) (k : ℕ) → Some one ≡ Some two → StatementBy tokens two n a k → StatementBy tokens one n a k
  the_verb one two n a k e h = subst (λ (x : Verb). StatementBy tokens x n a k) (sym (same_some e)) h

  earlier_by : (n : ℕ) (w : RecordVerb) (x : Verb) (a : Plain) (k : ℕ) (b : Plain) (m : ℕ) → verb_of_text (record_word w) ≡ Some x → StatementBy tokens x n a k → RecordBy tokens w n b m → IsEarlier k m
  earlier_by n r.Print x a k b m e h g = print_over n a k (the_verb v.Print x n a k e h) b m g
  earlier_by n r.Line x a k b m e h g = absurd (line_input_apart n a k (the_verb v.Line x n a k e h) b m g)
  earlier_by n r.Input x a k b m e h g = absurd (input_apart n a k (the_verb v.Input x n a k e h) b m g)
  earlier_by n r.Read x a k b m e h g = absurd (read_apart n a k (the_verb v.Read x n a k e h) b m g)
  earlier_by n r.Open x a k b m e h g = absurd (cc)
  earlier_by n r.Close x a k b m e h g = absurd (cc)
  earlier_by n r.Set x a k b m e h g = absurd (cc)
  earlier_by n r.Write x a k b m e h g = absurd (cc)
  earlier_by n r.Rewrite x a k b m e h g = absurd (cc)
  earlier_by n r.Delete x a k b m e h g = absurd (cc)

  pub earlier : (n : ℕ) (a : Plain) (k : ℕ) → IsStatement tokens n a k → (b : Plain) (m : ℕ) → IsRecordStatement tokens n b m → IsEarlier k m
  earlier n a k h b m g = earlier_by n g.0 h.0 a k b m (both_verbs tokens n g.0 h.0 g.1 h.1) h.2 g.2

  pub plain_longest : ReadsLongest (length tokens) 1 (IsPlain tokens) (GoesPlain tokens) (plain_at tokens)
  unfolding plain_at
  plain_longest = over_longest (statement_longest tokens) (record_statement_longest tokens) (GoesPlain tokens) (λ n g ends. statement_ends tokens n ends g) (λ n g. g) earlier

  pub plain_begins : (n : ℕ) (a : Plain) (k : ℕ) → IsPlain tokens n a k → BeginsPlain tokens n
  plain_begins n a k (inl h) = statement_begins tokens n h.0 h.1
  plain_begins n a k (inr h) = record_begins tokens n h.0 h.1
