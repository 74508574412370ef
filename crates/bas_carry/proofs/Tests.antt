-- The codes T and H of a condition go where its truth says.
use Rattle.std.proofs.Common.{◌≡◌, ℕ, suc, ◌<◌, ◌≤◌, Bool, true, false, not, [], ◌∷◌, Option, Some, None, refl, ap, ◌∙◌, arith}
use Rattle.bas_ast.specs.Tree.{Rel, Equal, NotEqual, Less, Greater, AtMost, AtLeast, Expr, Cond, AnyOf, Conjs, NoConjs, MoreConjs, Conj, AllOf, Tests, NoTests, MoreTests, Test, Not, CondGroup, Compare, Loopc, While, Until}
use Rattle.bas_mean.specs.World.{World}
use Rattle.bas_mean.specs.Outcome.{Evaluated, Gives, then_with}
use Rattle.bas_mean.specs.Operators.{related}
use Rattle.bas_mean.specs.Place.{Around}
use Rattle.bas_mean.specs.Expression.{number}
use Rattle.bas_mean.specs.Condition.{compared, or_else, and_then, holds, any_holds, all_hold, each_holds, test_holds}
use Rattle.bas_mean.specs.Construct.{goes_round}
use Rattle.bas_code.specs.declared.instr.Instr.TheVariants as instr
use Rattle.bas_code.specs.declared.instr.JumpInstr.TheVariants.{JumpFalse, JumpTrue}
use Rattle.bas_code.specs.declared.instr.CompareInstr.TheVariants.{CompareNum}
use Rattle.bas_code.specs.declared.body.Image.{Image}
use Rattle.bas_code.specs.State.{MachineWorld, ANumber, ATruth, State}
use Rattle.bas_code.specs.Machine.{rel_of}
use Rattle.bas_carry.specs.Text.{Text}
use Rattle.bas_carry.specs.Shown.{shown}
use Rattle.bas_carry.specs.Conditions.{relation_of, CompareAt, UnlessAt, UnlessAnyAt, IfAt, IfAnyAt, UnlessAllAt, UnlessEachAt, IfAllAt, IfEachAt, UnlessTestAt, IfTestAt, LoopcAt}
use Rattle.bas_carry.proofs.Steps.{Goes, stays, goes_on, goes_to}
use Rattle.bas_carry.proofs.Reach.{Stand, run_at, Good, Lands}
use Rattle.bas_carry.proofs.Laws.{at_with, executes, comes_from, lands_then}
use Rattle.bas_carry.proofs.Numbers.{here, Rows, rows_in, pushed, number_law}
use Rattle.bas_carry.proofs.Grows.{expr_grows, compare_grows, unless_any_grows, if_any_grows, unless_all_grows, if_all_grows, unless_each_grows, if_each_grows, unless_test_grows, if_test_grows}

rel_back : (r : Rel) → rel_of (relation_of r) ≡ r
rel_back Equal = refl
rel_back NotEqual = refl
rel_back Less = refl
rel_back Greater = refl
rel_back AtMost = refl
rel_back AtLeast = refl

module _ (image : Image) (text : Text) (n : ℕ) (x : Stand) (good : Good image text x) (around : Around) (l start end next : ℕ) where
  -- at one address where a condition holds, and at another where it does not
  abbrev pub leads : (held failed : ℕ) → Bool → MachineWorld → State
  leads held failed true m = at_with image text held [] x m
  leads held failed false m = at_with image text failed [] x m

  abbrev pub Leads : State → (held failed : ℕ) → Evaluated Bool → Type 0
  Leads c held failed r = Lands image text n x c (leads held failed) r

  -- what a code of a condition promises
  abbrev UnlessLaw : (ℕ → ℕ → ℕ → Type 0) → (World → Evaluated Bool) → Type 0
  UnlessLaw Code r = (from to a : ℕ) (w : World) → Code from to a → Rows image text n x good around l start end next from to → w.left < n → Leads (run_at text from x w) to a (r w)

  abbrev IfLaw : (ℕ → ℕ → ℕ → Type 0) → (World → Evaluated Bool) → Type 0
  IfLaw Code r = (from to a : ℕ) (w : World) → Code from to a → Rows image text n x good around l start end next from to → w.left < n → Leads (run_at text from x w) a to (r w)

  -- a truth on the stack
  abbrev truth_at : ℕ → Bool → MachineWorld → State
  truth_at pc b m = at_with image text pc (ATruth b ∷ []) x m

  compare_law : (a b : Expr) (rel : Rel) (from to : ℕ) (w : World) → CompareAt text a rel b from to → Rows image text n x good around l start end next from to → w.left < n → Lands image text n x (run_at text from x w) (truth_at to) (compared (here image text n x good around l start end next) rel a b w)
  compare_law a b rel from to w at rows h =
      let p = expr_grows text a from at.middle at.first in
      let q = expr_grows text b at.middle at.second.middle at.second.first in
      let r = let e = at.second.second.end in let z : at.second.middle ≤ to = omega (arith, e) in z in
      lands_then image text n x _ (pushed image text n x good around l start end next at.middle []) (truth_at to) (number (here image text n x good around l start end next) a w) (λ u w1. then_with (number (here image text n x good around l start end next) b w1) (λ v w2. Gives (related rel u v) w2))
      (number_law image text n x good around l start end next a from at.middle [] w at.first (rows_in image text n x good around l start end next from to from at.middle (omega arith) (omega (arith, p, q, r)) rows) h)
      (λ u w1 h1. lands_then image text n x _ (pushed image text n x good around l start end next at.second.middle (ANumber u ∷ [])) (truth_at to) (number (here image text n x good around l start end next) b w1) (λ v w2. Gives (related rel u v) w2)
      (number_law image text n x good around l start end next b at.middle at.second.middle (ANumber u ∷ []) w1 at.second.first (rows_in image text n x good around l start end next from to at.middle at.second.middle (omega (arith, p, q, r)) (omega (arith, p, q, r)) rows) h1)
      (λ v w2 h2. (
        h2,
        goes_to image _ _ _
            (ap (λ k. truth_at (suc at.second.middle) (related k u v) (shown x.inv w2)) (rel_back rel) ∙ ap (λ t. truth_at t (related rel u v) (shown x.inv w2)) at.second.second.end)
            (executes image text x good (instr.Compare (CompareNum (relation_of rel))) at.second.middle (ANumber v ∷ ANumber u ∷ []) (shown x.inv w2) at.second.second.at),
      )))

  fork_unless : (a b : Expr) (rel : Rel) → UnlessLaw (UnlessTestAt text (Compare a rel b)) (compared (here image text n x good around l start end next) rel a b)
  fork_unless a b rel from to other w at rows h =
      let p = compare_grows text a b rel from at.middle at.code in
      let e = at.end in
      lands_via (compared (here image text n x good around l start end next) rel a b w) (compare_law a b rel from at.middle w at.code (rows_in image text n x good around l start end next from to from at.middle (omega arith) (omega (arith, e)) rows) h)
    where
      jump : (v : Bool) (m : MachineWorld) → Goes image (truth_at at.middle v m) (leads to other v m)
      jump true m = goes_to image _ _ _ (ap (λ t. at_with image text t [] x m) at.end) (executes image text x good (instr.Jump (JumpFalse other)) at.middle (ATruth true ∷ []) m at.jump)
      jump false m = executes image text x good (instr.Jump (JumpFalse other)) at.middle (ATruth false ∷ []) m at.jump

      lands_via : (r : Evaluated Bool) → Lands image text n x (run_at text from x w) (truth_at at.middle) r → Leads (run_at text from x w) to other r
      lands_via r a1 = comes_from image text n x (run_at text from x w) (run_at text from x w) (λ v w1. Goes image (run_at text from x w) (truth_at at.middle v (shown x.inv w1))) (λ v w1. Goes image (run_at text from x w) (leads to other v (shown x.inv w1))) r (stays image (run_at text from x w)) (λ v w1 g. goes_on image _ _ _ g (jump v (shown x.inv w1))) a1

  fork_if : (a b : Expr) (rel : Rel) → IfLaw (IfTestAt text (Compare a rel b)) (compared (here image text n x good around l start end next) rel a b)
  fork_if a b rel from to other w at rows h =
      let e = at.end in
      lands_via (compared (here image text n x good around l start end next) rel a b w) (compare_law a b rel from at.middle w at.code (rows_in image text n x good around l start end next from to from at.middle (omega arith) (omega (arith, e)) rows) h)
    where
      jump : (v : Bool) (m : MachineWorld) → Goes image (truth_at at.middle v m) (leads other to v m)
      jump true m = executes image text x good (instr.Jump (JumpTrue other)) at.middle (ATruth true ∷ []) m at.jump
      jump false m = goes_to image _ _ _ (ap (λ t. at_with image text t [] x m) at.end) (executes image text x good (instr.Jump (JumpTrue other)) at.middle (ATruth false ∷ []) m at.jump)

      lands_via : (r : Evaluated Bool) → Lands image text n x (run_at text from x w) (truth_at at.middle) r → Leads (run_at text from x w) other to r
      lands_via r a1 = comes_from image text n x (run_at text from x w) (run_at text from x w) (λ v w1. Goes image (run_at text from x w) (truth_at at.middle v (shown x.inv w1))) (λ v w1. Goes image (run_at text from x w) (leads other to v (shown x.inv w1))) r (stays image (run_at text from x w)) (λ v w1 g. goes_on image _ _ _ g (jump v (shown x.inv w1))) a1

  -- the first has decided, or the rest does
  or_law : (c : State) (middle held failed : ℕ) (r : Evaluated Bool) (go : World → Evaluated Bool) → Leads c held middle r → ((w : World) → w.left < n → Leads (run_at text middle x w) held failed (go w)) → Leads c held failed (then_with r (λ b w1. or_else b go w1))
  or_law c middle held failed r go first rest = lands_then image text n x c (leads held middle) (leads held failed) r (λ b w1. or_else b go w1) first each
    where
      each : (b : Bool) (w1 : World) → w1.left < n → Leads (leads held middle b (shown x.inv w1)) held failed (or_else b go w1)
      each true w1 h1 = (h1, stays image _)
      each false w1 h1 = rest w1 h1

  and_law : (c : State) (middle held failed : ℕ) (r : Evaluated Bool) (go : World → Evaluated Bool) → Leads c middle failed r → ((w : World) → w.left < n → Leads (run_at text middle x w) held failed (go w)) → Leads c held failed (then_with r (λ b w1. and_then b go w1))
  and_law c middle held failed r go first rest = lands_then image text n x c (leads middle failed) (leads held failed) r (λ b w1. and_then b go w1) first each
    where
      each : (b : Bool) (w1 : World) → w1.left < n → Leads (leads middle failed b (shown x.inv w1)) held failed (and_then b go w1)
      each true w1 h1 = rest w1 h1
      each false w1 h1 = (h1, stays image _)

  -- no other condition follows
  or_none : (c : State) (held failed : ℕ) (r : Evaluated Bool) → Leads c held failed r → Leads c held failed (then_with r (λ b w1. or_else b (λ w2. Gives false w2) w1))
  or_none c held failed r first = or_law c failed held failed r (λ w2. Gives false w2) first (λ w1 h1. (h1, stays image _))

  and_none : (c : State) (held failed : ℕ) (r : Evaluated Bool) → Leads c held failed r → Leads c held failed (then_with r (λ b w1. and_then b (λ w2. Gives true w2) w1))
  and_none c held failed r first = and_law c held held failed r (λ w2. Gives true w2) first (λ w1 h1. (h1, stays image _))

  pub not_law : (c : State) (held failed : ℕ) (r : Evaluated Bool) → Leads c failed held r → Leads c held failed (then_with r (λ b w1. Gives (not b) w1))
  not_law c held failed r first = lands_then image text n x c (leads failed held) (leads held failed) r (λ b w1. Gives (not b) w1) first each
    where
      each : (b : Bool) (w1 : World) → w1.left < n → Leads (leads failed held b (shown x.inv w1)) held failed (Gives (not b) w1)
      each true w1 h1 = (h1, stays image _)
      each false w1 h1 = (h1, stays image _)

  mutual
    pub unless_law : (c : Cond) → UnlessLaw (UnlessAt text c) (holds (here image text n x good around l start end next) c)
    unless_law (AnyOf first rest) from to a w at rows h = unless_any_law rest first (unless_all_law first) (if_all_law first) from to a w at rows h

    unless_any_law : (rest : Conjs) (first : Conj) → UnlessLaw (UnlessAllAt text first) (all_hold (here image text n x good around l start end next) first) → IfLaw (IfAllAt text first) (all_hold (here image text n x good around l start end next) first) → UnlessLaw (UnlessAnyAt text (UnlessAllAt text first) (IfAllAt text first) rest) (λ w. then_with (all_hold (here image text n x good around l start end next) first w) (λ b w1. or_else b (λ w2. any_holds (here image text n x good around l start end next) rest w2) w1))
    unless_any_law NoConjs first u i from to a w at rows h = or_none (run_at text from x w) to a _ (u from to a w at rows h)
    unless_any_law (MoreConjs next1 rest) first u i from to a w at rows h =
        let p = if_all_grows text first from at.0 to at.1 in
        let q = unless_any_grows text rest next1 (unless_all_grows text next1) (if_all_grows text next1) at.0 to a at.2 in
        or_law (run_at text from x w) at.0 to a _ (λ w2. any_holds (here image text n x good around l start end next) (MoreConjs next1 rest) w2)
        (i from at.0 to w at.1 (rows_in image text n x good around l start end next from to from at.0 (omega arith) q rows) h)
        (λ w1 h1. unless_any_law rest next1 (unless_all_law next1) (if_all_law next1) at.0 to a w1 at.2 (rows_in image text n x good around l start end next from to at.0 to p (omega arith) rows) h1)

    pub if_law : (c : Cond) → IfLaw (IfAt text c) (holds (here image text n x good around l start end next) c)
    if_law (AnyOf first rest) from to a w at rows h = if_any_law rest first (if_all_law first) from to a w at rows h

    if_any_law : (rest : Conjs) (first : Conj) → IfLaw (IfAllAt text first) (all_hold (here image text n x good around l start end next) first) → IfLaw (IfAnyAt text (IfAllAt text first) rest) (λ w. then_with (all_hold (here image text n x good around l start end next) first w) (λ b w1. or_else b (λ w2. any_holds (here image text n x good around l start end next) rest w2) w1))
    if_any_law NoConjs first i from to a w at rows h = or_none (run_at text from x w) a to _ (i from to a w at rows h)
    if_any_law (MoreConjs next1 rest) first i from to a w at rows h =
        let p = if_all_grows text first from at.0 a at.1 in
        let q = if_any_grows text rest next1 (if_all_grows text next1) at.0 to a at.2 in
        or_law (run_at text from x w) at.0 a to _ (λ w2. any_holds (here image text n x good around l start end next) (MoreConjs next1 rest) w2)
        (i from at.0 a w at.1 (rows_in image text n x good around l start end next from to from at.0 (omega arith) q rows) h)
        (λ w1 h1. if_any_law rest next1 (if_all_law next1) at.0 to a w1 at.2 (rows_in image text n x good around l start end next from to at.0 to p (omega arith) rows) h1)

    unless_all_law : (c : Conj) → UnlessLaw (UnlessAllAt text c) (all_hold (here image text n x good around l start end next) c)
    unless_all_law (AllOf first rest) from to a w at rows h = unless_each_law rest first (unless_test_law first) from to a w at rows h

    unless_each_law : (rest : Tests) (first : Test) → UnlessLaw (UnlessTestAt text first) (test_holds (here image text n x good around l start end next) first) → UnlessLaw (UnlessEachAt text (UnlessTestAt text first) rest) (λ w. then_with (test_holds (here image text n x good around l start end next) first w) (λ b w1. and_then b (λ w2. each_holds (here image text n x good around l start end next) rest w2) w1))
    unless_each_law NoTests first u from to a w at rows h = and_none (run_at text from x w) to a _ (u from to a w at rows h)
    unless_each_law (MoreTests next1 rest) first u from to a w at rows h =
        let p = unless_test_grows text first from at.0 a at.1 in
        let q = unless_each_grows text rest next1 (unless_test_grows text next1) at.0 to a at.2 in
        and_law (run_at text from x w) at.0 to a _ (λ w2. each_holds (here image text n x good around l start end next) (MoreTests next1 rest) w2)
        (u from at.0 a w at.1 (rows_in image text n x good around l start end next from to from at.0 (omega arith) q rows) h)
        (λ w1 h1. unless_each_law rest next1 (unless_test_law next1) at.0 to a w1 at.2 (rows_in image text n x good around l start end next from to at.0 to p (omega arith) rows) h1)

    if_all_law : (c : Conj) → IfLaw (IfAllAt text c) (all_hold (here image text n x good around l start end next) c)
    if_all_law (AllOf first rest) from to a w at rows h = if_each_law rest first (unless_test_law first) (if_test_law first) from to a w at rows h

    if_each_law : (rest : Tests) (first : Test) → UnlessLaw (UnlessTestAt text first) (test_holds (here image text n x good around l start end next) first) → IfLaw (IfTestAt text first) (test_holds (here image text n x good around l start end next) first) → IfLaw (IfEachAt text (UnlessTestAt text first) (IfTestAt text first) rest) (λ w. then_with (test_holds (here image text n x good around l start end next) first w) (λ b w1. and_then b (λ w2. each_holds (here image text n x good around l start end next) rest w2) w1))
    if_each_law NoTests first u i from to a w at rows h = and_none (run_at text from x w) a to _ (i from to a w at rows h)
    if_each_law (MoreTests next1 rest) first u i from to a w at rows h =
        let p = unless_test_grows text first from at.0 to at.1 in
        let q = if_each_grows text rest next1 (unless_test_grows text next1) (if_test_grows text next1) at.0 to a at.2 in
        and_law (run_at text from x w) at.0 a to _ (λ w2. each_holds (here image text n x good around l start end next) (MoreTests next1 rest) w2)
        (u from at.0 to w at.1 (rows_in image text n x good around l start end next from to from at.0 (omega arith) q rows) h)
        (λ w1 h1. if_each_law rest next1 (unless_test_law next1) (if_test_law next1) at.0 to a w1 at.2 (rows_in image text n x good around l start end next from to at.0 to p (omega arith) rows) h1)

    unless_test_law : (t : Test) → UnlessLaw (UnlessTestAt text t) (test_holds (here image text n x good around l start end next) t)
    unless_test_law (Not t) from to a w at rows h = not_law (run_at text from x w) to a _ (if_test_law t from to a w at rows h)
    unless_test_law (CondGroup c) from to a w at rows h = unless_law c from to a w at rows h
    unless_test_law (Compare b rel c) from to a w at rows h = fork_unless b c rel from to a w at rows h

    if_test_law : (t : Test) → IfLaw (IfTestAt text t) (test_holds (here image text n x good around l start end next) t)
    if_test_law (Not t) from to a w at rows h = not_law (run_at text from x w) a to _ (unless_test_law t from to a w at rows h)
    if_test_law (CondGroup c) from to a w at rows h = if_law c from to a w at rows h
    if_test_law (Compare b rel c) from to a w at rows h = fork_if b c rel from to a w at rows h

  -- WHILE and UNTIL
  pub loopc_law : (c : Option Loopc) → UnlessLaw (LoopcAt text c) (goes_round (here image text n x good around l start end next) c)
  loopc_law None from to a w at rows h = (h, goes_to image _ _ _ (ap (λ t. run_at text t x w) at.none) (stays image _))
  loopc_law (Some (While c)) from to a w at rows h = unless_law c from to a w at rows h
  loopc_law (Some (Until c)) from to a w at rows h = not_law (run_at text from x w) to a _ (if_law c from to a w at rows h)
