-- Stretches of code whose jumps go forward or to a mark.
use Rattle.std.proofs.Common.{◌≡◌, ◌⊎◌, ℕ, suc, ◌<◌, ◌≤◌, List, Option, Some, None, Bool, true, false, refl, sym, ap, ◌∙◌, arith, inl, inr, ⊎_elim}
use Rattle.std.specs.Prelude.{slice_get, nat_lt, ◌||◌}
use Rattle.std.proofs.lemmas.Bool.{lt-ltb, cases_lt}
use Rattle.bas_ast.specs.Tree.{Sign, Plus, Minus, TermSign, Add, Subtract, Join, FactorSign, Multiply, Divide, Expr, Sum, Terms, NoTerms, MoreTerms, Term, Product, Factors, NoFactors, MoreFactors, Factor, Power, Primaries, NoPrimaries, MorePrimaries, Primary, Numeric, Group, Named, Args, NoArgs, MoreArgs}
use Rattle.bas_code.specs.declared.instr.Instr.{Instr}
use Rattle.bas_code.specs.declared.instr.Instr.TheVariants as instr
use Rattle.bas_code.specs.declared.instr.JumpInstr.{JumpInstr}
use Rattle.bas_carry.specs.Text.{Text, At, NoneAt}
use Rattle.bas_carry.specs.Expressions.{SignAt, TermSignAt, FactorSignAt, NameAt, ExprAt, TermsAt, TermAt, FactorsAt, FactorAt, ExponentsAt, PrimaryAt}
use Rattle.bas_vm.specs.Rows.{jump_target}
use Rattle.bas_vm.specs.Steps.{target_of}
use Rattle.bas_vm.specs.Fit.{is_marked, goes_right}

module _ (text : Text) where
  -- the instruction at an address is no jump, or goes right
  abbrev pub Fine : ℕ → Type 0
  Fine pc = (i : Instr) → slice_get text.proc.code pc ≡ Some i → goes_right text.proc.code pc (target_of i) ≡ true

  -- so is each of a stretch
  pub record Span (from to : ℕ) : Type 0 where
    pub le : from ≤ to
    pub fine : (pc : ℕ) → from ≤ pc → pc < to → Fine pc

  -- a mark stands there
  abbrev pub Marked : ℕ → Type 0
  Marked a = is_marked (slice_get text.proc.code a) ≡ true

  -- a jump to an address is right from each address below another one
  abbrev pub Aim : (a to : ℕ) → Type 0
  Aim a to = Marked a ⊎ (to ≤ a)

  pub aim-less : (a to less : ℕ) → less ≤ to → Aim a to → Aim a less
  aim-less a to less h aim = ⊎_elim (λ m. inl m) (λ le. inr (omega (arith, le, h))) aim

  or-right : (b c : Bool) → c ≡ true → (b || c) ≡ true
  or-right true c h = refl
  or-right false c h = h

  or-left : (b c : Bool) → b ≡ true → (b || c) ≡ true
  or-left true c h = refl
  or-left false c h = let bad : false ≡ true = h in absurd cc

  pub aim-right : (pc a to : ℕ) → pc < to → Aim a to → goes_right text.proc.code pc (Some a) ≡ true
  aim-right pc a to lt aim =
      ⊎_elim (λ m. or-right (nat_lt pc a) (is_marked (slice_get text.proc.code a)) m)
      (λ le. or-left (nat_lt pc a) (is_marked (slice_get text.proc.code a)) (lt-ltb pc a (omega (arith, le, lt)))) aim

  pub span-none : (from to : ℕ) → from ≡ to → Span from to
  span-none from to e = record { le = omega (arith, e); fine = λ pc h lt. absurd (omega (arith, e, h, lt)) }

  pub span-then : (a b c : ℕ) → Span a b → Span b c → Span a c
  span-then a b c p q = record {
    le = let h = p.le in let k = q.le in omega (arith, h, k);
    fine = λ pc h lt. ⊎_elim (λ below. p.fine pc h below) (λ above. q.fine pc above lt) (cases_lt pc b);
  }

  -- one instruction whose jump goes right
  pub span-at : (from to : ℕ) (i : Instr) → At text from i → goes_right text.proc.code from (target_of i) ≡ true → suc from ≡ to → Span from to
  span-at from to i at right e = record {
    le = omega (arith, e);
    fine = λ pc h lt j is.
        let same : pc ≡ from = omega (arith, e, h, lt) in
        let here : slice_get text.proc.code from ≡ Some j = ap (λ k. slice_get text.proc.code k) (sym same) ∙ is in
        let both : Some i ≡ Some j = sym at ∙ here in
        let one : i ≡ j = cc in
        ap (λ k. goes_right text.proc.code k (target_of j)) same ∙ ap (λ x. goes_right text.proc.code from (target_of x)) (sym one) ∙ right;
  }

  -- one that is no jump
  pub span-one : (from to : ℕ) (i : Instr) → target_of i ≡ None → At text from i → suc from ≡ to → Span from to
  span-one from to i none at e = span-at from to i at (ap (λ t. goes_right text.proc.code from t) none) e

  pub span-jump : (from to lim : ℕ) (j : JumpInstr) → At text from (instr.Jump j) → Aim (jump_target j) lim → suc from ≡ to → to ≤ lim → Span from to
  span-jump from to lim j at aim e h = span-at from to (instr.Jump j) at (aim-right from (jump_target j) lim (omega (arith, e, h)) aim) e

  -- expressions have no jumps

  none-span : (from to : ℕ) → NoneAt text from to → Span from to
  none-span from to n = span-none from to n.none

  sign-span : (s : Option Sign) (from to : ℕ) → SignAt text s from to → Span from to
  sign-span None from to n = none-span from to n
  sign-span (Some Plus) from to n = none-span from to n
  sign-span (Some Minus) from to o = span-one from to _ refl o.at o.end

  term-sign-span : (s : TermSign) (from to : ℕ) → TermSignAt text s from to → Span from to
  term-sign-span Add from to o = span-one from to _ refl o.at o.end
  term-sign-span Subtract from to o = span-one from to _ refl o.at o.end
  term-sign-span Join from to o = absurd o

  factor-sign-span : (s : FactorSign) (from to : ℕ) → FactorSignAt text s from to → Span from to
  factor-sign-span Multiply from to o = span-one from to _ refl o.at o.end
  factor-sign-span Divide from to o = span-one from to _ refl o.at o.end

  name-span : (name : List ℕ) (args : Args) (from to : ℕ) → NameAt text name args from to → Span from to
  name-span name NoArgs from to p = span-one from to _ refl p.at p.end
  name-span name (MoreArgs a rest) from to p = absurd p

  mutual
    pub expr-span : (e : Expr) (from to : ℕ) → ExprAt text e from to → Span from to
    expr-span (Sum sign first rest) from to t = span-then from t.middle to (term-span first from t.middle t.first) (span-then t.middle t.second.middle to (sign-span sign t.middle t.second.middle t.second.first) (terms-span rest t.second.middle to t.second.second))

    terms-span : (ts : Terms) (from to : ℕ) → TermsAt text ts from to → Span from to
    terms-span NoTerms from to n = none-span from to n
    terms-span (MoreTerms sign next rest) from to t = span-then from t.middle to (term-span next from t.middle t.first) (span-then t.middle t.second.middle to (term-sign-span sign t.middle t.second.middle t.second.first) (terms-span rest t.second.middle to t.second.second))

    term-span : (e : Term) (from to : ℕ) → TermAt text e from to → Span from to
    term-span (Product first rest) from to t = span-then from t.middle to (factor-span first from t.middle t.first) (factors-span rest t.middle to t.second)

    factors-span : (fs : Factors) (from to : ℕ) → FactorsAt text fs from to → Span from to
    factors-span NoFactors from to n = none-span from to n
    factors-span (MoreFactors sign next rest) from to t = span-then from t.middle to (factor-span next from t.middle t.first) (span-then t.middle t.second.middle to (factor-sign-span sign t.middle t.second.middle t.second.first) (factors-span rest t.second.middle to t.second.second))

    factor-span : (f : Factor) (from to : ℕ) → FactorAt text f from to → Span from to
    factor-span (Power base exponents) from to t = span-then from t.middle to (primary-span base from t.middle t.first) (exponents-span exponents t.middle to t.second)

    exponents-span : (ps : Primaries) (from to : ℕ) → ExponentsAt text ps from to → Span from to
    exponents-span NoPrimaries from to n = none-span from to n
    exponents-span (MorePrimaries next rest) from to t = span-then from t.middle to (primary-span next from t.middle t.first) (span-then t.middle t.second.middle to (span-one t.middle t.second.middle _ refl t.second.first.at t.second.first.end) (exponents-span rest t.second.middle to t.second.second))

    primary-span : (p : Primary) (from to : ℕ) → PrimaryAt text p from to → Span from to
    primary-span (Numeric numeral) from to o = span-one from to _ refl o.at o.end
    primary-span (Group e) from to t = expr-span e from to t
    primary-span (Named name args) from to p = name-span name args from to p
    primary-span _ from to p = absurd p
