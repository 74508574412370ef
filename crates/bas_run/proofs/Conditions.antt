-- The code of conditions jumps where it is told to, and forward inside.
use Rattle.std.proofs.Common.{◌≡◌, ℕ, Option, Some, None, refl, sym, subst, arith, inr}
use Rattle.bas_ast.specs.Tree.{Rel, Expr, Cond, AnyOf, Conjs, NoConjs, MoreConjs, Conj, AllOf, Tests, NoTests, MoreTests, Test, Not, CondGroup, Compare, Loopc, While, Until}
use Rattle.bas_code.specs.declared.instr.Instr.TheVariants as instr
use Rattle.bas_code.specs.declared.instr.JumpInstr.{JumpInstr}
use Rattle.bas_code.specs.declared.instr.JumpInstr.TheVariants.{JumpFalse, JumpTrue}
use Rattle.bas_carry.specs.Text.{Text}
use Rattle.bas_carry.specs.Conditions.{CompareAt, ForkAt, UnlessAt, UnlessAnyAt, IfAt, IfAnyAt, UnlessAllAt, UnlessEachAt, IfAllAt, IfEachAt, UnlessTestAt, IfTestAt, LoopcAt}
use Rattle.bas_vm.specs.Rows.{jump_target}
use Rattle.bas_run.proofs.Spans.{Span, Aim, aim-less, span-none, span-then, span-one, span-jump, expr-span}

module _ (text : Text) where
  -- the code is a stretch where its target is right
  abbrev Spans : (ℕ → ℕ → ℕ → Type 0) → Type 0
  Spans Code = (from to a : ℕ) → Code from to a → Aim text a to → Span text from to

  compare-span : (x y : Expr) (rel : Rel) (from to : ℕ) → CompareAt text x rel y from to → Span text from to
  compare-span x y rel from to t =
      span-then text from t.middle to (expr-span text x from t.middle t.first)
      (span-then text t.middle t.second.middle to (expr-span text y t.middle t.second.middle t.second.first) (span-one text t.second.middle to _ refl t.second.second.at t.second.second.end))

  fork-span : (x y : Expr) (rel : Rel) (j : JumpInstr) (from to a : ℕ) → jump_target j ≡ a → ForkAt text (CompareAt text x rel y) (instr.Jump j) from to → Aim text a to → Span text from to
  fork-span x y rel j from to a is f aim =
      span-then text from f.middle to (compare-span x y rel from f.middle f.code) (span-jump text f.middle to to j f.jump (subst (λ k. Aim text k to) (sym is) aim) f.end (omega arith))

  mutual
    -- T of a condition, and H of it
    pub unless-span : (c : Cond) → Spans (UnlessAt text c)
    unless-span (AnyOf first rest) from to a p aim = unless-any rest first (unless-all first) (if-all first) from to a p aim

    unless-any : (rest : Conjs) (first : Conj) → Spans (UnlessAllAt text first) → Spans (IfAllAt text first) → Spans (UnlessAnyAt text (UnlessAllAt text first) (IfAllAt text first) rest)
    unless-any NoConjs first u i from to a p aim = u from to a p aim
    unless-any (MoreConjs next rest) first u i from to a p aim =
        let behind = unless-any rest next (unless-all next) (if-all next) p.0 to a p.2 aim in
        span-then text from p.0 to (i from p.0 to p.1 (inr behind.le)) behind

    pub if-span : (c : Cond) → Spans (IfAt text c)
    if-span (AnyOf first rest) from to a p aim = if-any rest first (if-all first) from to a p aim

    if-any : (rest : Conjs) (first : Conj) → Spans (IfAllAt text first) → Spans (IfAnyAt text (IfAllAt text first) rest)
    if-any NoConjs first i from to a p aim = i from to a p aim
    if-any (MoreConjs next rest) first i from to a p aim =
        let behind = if-any rest next (if-all next) p.0 to a p.2 aim in
        span-then text from p.0 to (i from p.0 a p.1 (aim-less text a to p.0 behind.le aim)) behind

    unless-all : (c : Conj) → Spans (UnlessAllAt text c)
    unless-all (AllOf first rest) from to a p aim = unless-each rest first (unless-test first) from to a p aim

    unless-each : (rest : Tests) (first : Test) → Spans (UnlessTestAt text first) → Spans (UnlessEachAt text (UnlessTestAt text first) rest)
    unless-each NoTests first u from to a p aim = u from to a p aim
    unless-each (MoreTests next rest) first u from to a p aim =
        let behind = unless-each rest next (unless-test next) p.0 to a p.2 aim in
        span-then text from p.0 to (u from p.0 a p.1 (aim-less text a to p.0 behind.le aim)) behind

    if-all : (c : Conj) → Spans (IfAllAt text c)
    if-all (AllOf first rest) from to a p aim = if-each rest first (unless-test first) (if-test first) from to a p aim

    if-each : (rest : Tests) (first : Test) → Spans (UnlessTestAt text first) → Spans (IfTestAt text first) → Spans (IfEachAt text (UnlessTestAt text first) (IfTestAt text first) rest)
    if-each NoTests first u i from to a p aim = i from to a p aim
    if-each (MoreTests next rest) first u i from to a p aim =
        let behind = if-each rest next (unless-test next) (if-test next) p.0 to a p.2 aim in
        span-then text from p.0 to (u from p.0 to p.1 (inr behind.le)) behind

    unless-test : (t : Test) → Spans (UnlessTestAt text t)
    unless-test (Not t) from to a p aim = if-test t from to a p aim
    unless-test (CondGroup c) from to a p aim = unless-span c from to a p aim
    unless-test (Compare x rel y) from to a p aim = fork-span x y rel (JumpFalse a) from to a refl p aim

    if-test : (t : Test) → Spans (IfTestAt text t)
    if-test (Not t) from to a p aim = unless-test t from to a p aim
    if-test (CondGroup c) from to a p aim = if-span c from to a p aim
    if-test (Compare x rel y) from to a p aim = fork-span x y rel (JumpTrue a) from to a refl p aim

  -- the condition of a loop
  pub loopc-span : (c : Option Loopc) → Spans (LoopcAt text c)
  loopc-span None from to a p aim = span-none text from to p.none
  loopc-span (Some (While c)) from to a p aim = unless-span c from to a p aim
  loopc-span (Some (Until c)) from to a p aim = if-span c from to a p aim
