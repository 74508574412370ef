-- The reader of a prompt and targets takes the longest, though a target may be named PROMPT.
use Rattle.std.proofs.Common.{◌≡◌, ℕ, ◌+◌, ◌<◌, ◌≤◌, inl, inr, List, length, Option, Some, None, IsSome, codes, refl, sym, ◌∙◌, subst, arith}
use Rattle.bas_form.specs.Form.{Form, ◌then◌, Optional}
use Rattle.bas_form.specs.Reader.{Reader, ◌followed_by◌, either, built, ReadsLongest}
use Rattle.bas_form.proofs.ReaderLaws.{same_some, some_is, IsBest}
use Rattle.bas_form.proofs.SequenceLaws.{then_longest, between_longest}
use Rattle.bas_ast.specs.declared.expression.Expr.{Expr}
use Rattle.bas_ast.specs.declared.expression.Target.{Target}
use Rattle.bas_ast.specs.declared.statement.Targets.{Targets}
use Rattle.bas_expr.specs.Lexemes.{Lexeme}
use Rattle.bas_expr.specs.Marks.{at_mark, comma, colon}
use Rattle.bas_expr.specs.Separated.{Separated}
use Rattle.bas_expr.specs.Grammar.{IsTarget}
use Rattle.bas_expr.specs.Reading.{GoesExpr}
use Rattle.bas_expr.proofs.MarkLaws.{stops, mark_inside}
use Rattle.bas_balance.specs.Balance.{Balanced, Balances}
use Rattle.bas_balance.proofs.BalanceLaws.{joined, comma_plain, mark_balances, separated_balances, built_balances, colon_ends}
use Rattle.bas_balance.proofs.ExpressionBalance.{expr_balances, target_balances}
use Rattle.bas_expr.specs.declared.TheConstants.{LEVELS}
use Rattle.bas_declaration.specs.Parts.{listed_of, Listed}
use Rattle.bas_declaration.specs.Keywords.{spells}
use Rattle.bas_declaration.proofs.WordLaws.{spells_inside}
use Rattle.bas_declaration.proofs.PartLaws.{an_expr}
use Rattle.bas_list.specs.declared.TheConstants.{INNER_LEVELS}
use Rattle.bas_list.specs.Lists.{Inner, IsTargets, targets_of}
use Rattle.bas_list.specs.Reading.{targets, GoesList}
use Rattle.bas_list.proofs.ListLaws.{targets_longest}
use Rattle.bas_statement.specs.Statements.{IsPrompt, IsAsked}
use Rattle.bas_statement.specs.Reading.{GoesStatement, prompted, unprompted, prompt, asked}
use Rattle.bas_statement.proofs.GoesLaws.{spells_balances, list_goes}

-- ---- a form that may have another in front, which is tried first

module _ {A B : Type 0} (F : Form A) (f : Reader A) (G : Form B) (g : Reader B) {len least_both least : ℕ} {GoesBoth GG : ℕ → Type 0}
    (both : ReadsLongest len least_both (F then G) GoesBoth (f followed_by g)) (is : ReadsLongest len least G GG g) (fewer : least ≤ least_both)
    (GoesOn : ℕ → Type 0) (more_both : (n : ℕ) → GoesBoth n → GoesOn n) (more : (n : ℕ) → GG n → GoesOn n)
    (earlier : (at : ℕ) (p : A × B) (end : ℕ) → (F then G) at p end → (b : B) (next : ℕ) → G at b next → GoesOn next × (next < end)) where
  abbrev tried : Reader (Option A × B)
  tried = either (built prompted (f followed_by g)) (built unprompted g)

  first_of : (at : ℕ) (x : (A × B) × ℕ) → (f followed_by g) at ≡ Some x → tried at ≡ Some (prompted x.0, x.1)
  unfolding either built
  first_of at x e = rw e refl

  second_of : (at : ℕ) (x : B × ℕ) → (f followed_by g) at ≡ None → g at ≡ Some x → tried at ≡ Some (unprompted x.0, x.1)
  unfolding either built
  second_of at x e ex = rw (e, ex) refl

  neither_of : (at : ℕ) → (f followed_by g) at ≡ None → g at ≡ None → tried at ≡ None
  unfolding either built
  neither_of at e ex = rw (e, ex) refl

  sound_second : (at : ℕ) (o : Option (B × ℕ)) (r : (Option A × B) × ℕ) → (f followed_by g) at ≡ None → g at ≡ o → tried at ≡ Some r → (Optional F then G) at r.0 r.1
  sound_second at None r e ex h = let n = neither_of at e ex in absurd (cc)
  sound_second at (Some x) r e ex h =
      let goal : (Option A × B) × ℕ → Type 0 = λ t. (Optional F then G) at t.0 t.1 in
      subst goal (same_some (sym (second_of at x e ex) ∙ h)) (at, refl, is.sound at x.0 x.1 ex)

  sound_first : (at : ℕ) (o : Option ((A × B) × ℕ)) (r : (Option A × B) × ℕ) → (f followed_by g) at ≡ o → tried at ≡ Some r → (Optional F then G) at r.0 r.1
  sound_first at None r e h = sound_second at (g at) r e refl h
  sound_first at (Some x) r e h =
      let goal : (Option A × B) × ℕ → Type 0 = λ t. (Optional F then G) at t.0 t.1 in
      let s = both.sound at x.0 x.1 e in
      subst goal (same_some (sym (first_of at x e) ∙ h)) (s.0, s.1, s.2)

  -- nothing in front
  moved : (at : ℕ) (b : B) (next : ℕ) → (Optional F then G) at (None, b) next → G at b next
  moved at b next h = subst (λ (n : ℕ). G n b next) h.1 h.2

  tried_grows : (at : ℕ) (o : Option A) (b : B) (next : ℕ) → (Optional F then G) at (o, b) next → at + least ≤ next
  tried_grows at None b next h = is.grows at b next (moved at b next h)
  tried_grows at (Some a) b next h = let n = both.grows at (a, b) next (h.0, h.1, h.2) in omega arith

  tried_within : (at : ℕ) (o : Option A) (b : B) (next : ℕ) → (Optional F then G) at (o, b) next → at < next → next ≤ len
  tried_within at None b next h later = is.within at b next (moved at b next h) later
  tried_within at (Some a) b next h later = both.within at (a, b) next (h.0, h.1, h.2) later

  second_best : (at : ℕ) (b : B) (next : ℕ) (o : Option ((A × B) × ℕ)) → G at b next → (f followed_by g) at ≡ o → IsBest tried GoesOn at (None, b) next
  second_best at b next None h e = elim (is.longest at b next h) as (λ _. IsBest tried GoesOn at (None, b) next) [
    | inl d ↦ inl (second_of at (b, next) e d)
    | inr d ↦ inr (more next d.0, (unprompted d.1.0, d.1.1), second_of at d.1 e d.2, d.3)
  ]
  second_best at b next (Some x) h e =
      let before = earlier at x.0 x.1 (both.sound at x.0 x.1 e) b next h in
      inr (before.0, (prompted x.0, x.1), first_of at x e, before.1)

  tried_best : (at : ℕ) (o : Option A) (b : B) (next : ℕ) → (Optional F then G) at (o, b) next → IsBest tried GoesOn at (o, b) next
  tried_best at None b next h = second_best at b next ((f followed_by g) at) (moved at b next h) refl
  tried_best at (Some a) b next h = elim (both.longest at (a, b) next (h.0, h.1, h.2)) as (λ _. IsBest tried GoesOn at (Some a, b) next) [
    | inl d ↦ inl (first_of at ((a, b), next) d)
    | inr d ↦ inr (more_both next d.0, (prompted d.1.0, d.1.1), first_of at d.1 d.2, d.3)
  ]

  tried_longest : ReadsLongest len least (Optional F then G) GoesOn tried
  tried_longest = record {
    sound = λ at a next e. sound_first at ((f followed_by g) at) (a, next) refl e;
    grows = λ at a next h. tried_grows at a.0 a.1 next h;
    within = λ at a next h later. tried_within at a.0 a.1 next h later;
    longest = λ at a next h. tried_best at a.0 a.1 next h;
  }

module _ (tokens : List Lexeme) where
  -- targets have no `:` outside parentheses
  pub targets_balance : Balances 0 tokens (IsTargets tokens)
  targets_balance = built_balances 0 tokens targets_of (Listed tokens (IsTarget tokens (Inner tokens)))
      (built_balances 0 tokens (λ (p : Target × List Target). listed_of p) (Separated (at_mark comma tokens) (IsTarget tokens (Inner tokens)))
      (separated_balances 0 tokens (at_mark comma tokens) (mark_balances tokens 0 comma comma_plain) (IsTarget tokens (Inner tokens)) (target_balances tokens (Inner tokens) (expr_balances tokens INNER_LEVELS))))

  no_colon_past : (n : ℕ) → GoesExpr tokens n → (u : Unit {0}) → at_mark colon tokens n ≡ Some u → ⊥
  no_colon_past n g u e = let f = (stops tokens n g).1 in absurd (cc)

  prompt_longest : ReadsLongest (length tokens) (1 + (1 + 1)) (IsPrompt tokens) (λ _. ⊥) (prompt tokens)
  unfolding prompt
  prompt_longest = between_longest (spells (codes "PROMPT") tokens) (spells_inside tokens (codes "PROMPT")) (at_mark colon tokens) (mark_inside tokens colon) (an_expr tokens) no_colon_past

  both_longest : ReadsLongest (length tokens) (1 + (1 + 1) + 1) (IsPrompt tokens then IsTargets tokens) (GoesList tokens) (prompt tokens followed_by targets tokens)
  both_longest = then_longest prompt_longest (targets_longest tokens) (λ n z b k h. z)

  -- the `:` of a prompt stands behind balanced tokens
  prompt_colon : (at : ℕ) (x : Expr) (next : ℕ) → IsPrompt tokens at x next → (close : ℕ) × Balanced tokens at close × IsSome (at_mark colon tokens close) × (next ≡ close + 1)
  prompt_colon at x next h =
      let body = h.2 in
      let rest = body.2 in
      let word = spells_balances tokens (codes "PROMPT") refl at h.0.0 body.0 body.1 in
      let value = expr_balances tokens LEVELS body.0 h.0.1.0 rest.0 rest.1 in
      (rest.0, joined tokens 0 at body.0 rest.0 word value, some_is rest.2.0, rest.2.1)

  -- targets end before those behind a prompt
  earlier_ends : (at : ℕ) (p : Expr × Targets) (end : ℕ) → (IsPrompt tokens then IsTargets tokens) at p end → (b : Targets) (next : ℕ) → IsTargets tokens at b next → GoesStatement tokens next × (next < end)
  earlier_ends at p end h b next t =
      let c = prompt_colon at p.0 h.0 h.1 in
      let grows = (targets_longest tokens).grows h.0 p.1 end h.2 in
      let ends = colon_ends tokens at c.0 next c.1 c.2 (targets_balance at b next t) in
      let before = ends.0 in
      let behind = c.3 in
      (ends.1, omega arith)

  pub asked_longest : ReadsLongest (length tokens) 1 (IsAsked tokens) (GoesStatement tokens) (asked tokens)
  unfolding asked
  asked_longest = tried_longest (IsPrompt tokens) (prompt tokens) (IsTargets tokens) (targets tokens) both_longest (targets_longest tokens) (omega arith) (GoesStatement tokens) (list_goes tokens) (list_goes tokens) earlier_ends
