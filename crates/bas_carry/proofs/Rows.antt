-- The constructs, over what is known of their parts.
use Rattle.std.proofs.Common.{◌≡◌, ℕ, suc, ◌<◌, Bool, true, false, [], Option, Some, None, refl, sym, ap, ◌∙◌, subst, arith, inr, ⊎_elim, nat_eq, le_refl}
use Rattle.std.proofs.lemmas.Bool.{eqb-true}
use Rattle.bas_ast.specs.Tree.{Cond, Loopc, Loop, End, LineItem, OfPart, NumLine, Stmt, Block, NoStmts, MoreStmts}
use Rattle.bas_mean.specs.World.{World}
use Rattle.bas_mean.specs.Outcome.{Gives, Target, LineOf, EndOf, TurnOf, Halt, Outcome, Normal, Jumps, Leaves, Away, Retries, Continues, PassesOn, Returns, Ends, follow}
use Rattle.bas_mean.specs.Place.{Around, Closing, Bare, ClosedBy, Region, here_at, Lower}
use Rattle.bas_ast.specs.Accessors.{line_of}
use Rattle.bas_mean.specs.Block.{first_or, from_line, at_closing, or_at, landing, jump_within, next_line, Hit, Past, Round, Elsewhere, hit_if, hit, loop_jump, loop_end}
use Rattle.bas_mean.specs.Condition.{holds}
use Rattle.bas_mean.specs.Construct.{decided, BlockMeaning, goes_round, if_section, in_do, do_section, loop_line, end_line, closing_line}
use Rattle.bas_code.specs.declared.instr.Instr.TheVariants as instr
use Rattle.bas_code.specs.declared.instr.JumpInstr.TheVariants as jump
use Rattle.bas_code.specs.declared.instr.RunInstr.TheVariants as run
use Rattle.bas_code.specs.declared.body.Image.{Image}
use Rattle.bas_code.specs.State.{State}
use Rattle.bas_carry.specs.Text.{Text, Static, near_if, near_hit, inside, At, JumpFrom}
use Rattle.bas_carry.specs.Shown.{shown}
use Rattle.bas_carry.specs.Constructs.{IfSectionAt, DoSectionAt, LoopLineAt, EndLineAt, ClosingAt}
use Rattle.bas_carry.specs.Carries.{LinesAt}
use Rattle.bas_carry.proofs.Steps.{Goes, stays, goes_on, goes_to}
use Rattle.bas_carry.proofs.Reach.{Stand, place_of, run_at, Good, Ready, JumpReached, Reaches, reaches_from, Loosely, loose, loosely_from, Sim}
use Rattle.bas_carry.proofs.Laws.{executes, line_law}
use Rattle.bas_carry.proofs.Tests.{leads, unless_law, loopc_law}
use Rattle.bas_carry.proofs.Simple.{follow_law, Follows}

module _ (image : Image) (text : Text) where
  module _ (n : ℕ) (low : Lower) (x : Stand) (good : Good image text x) (st : Static) where
    abbrev Does : ℕ → State → Outcome → Type 0
    Does to c o = Reaches image text n x st.drops to c o

    -- a way from the end of a part to the end of the whole
    pub then_goes : (drops : Target → Option ℕ) (middle to : ℕ) (c : State) (o : Outcome) → ((w : World) → Goes image (run_at text middle x w) (run_at text to x w)) → Reaches image text n x drops middle c o → Reaches image text n x drops to c o
    then_goes drops middle to c (Normal w) g r = (r.0, goes_on image c _ _ r.1 (g w))
    then_goes drops middle to c (Jumps t w) g r = r
    then_goes drops middle to c (Leaves k w) g r = r
    then_goes drops middle to c (Away k t w) g r = r
    then_goes drops middle to c (Retries w) g r = r
    then_goes drops middle to c (Continues w) g r = r
    then_goes drops middle to c (PassesOn w) g r = r
    then_goes drops middle to c (Returns w) g r = r
    then_goes drops middle to c (Ends t w) g r = r

    -- a condition has led to one of two ways
    decide : (to held failed : ℕ) (c : State) (f g : World → Outcome) → ((w : World) → w.left < n → Does to (run_at text held x w) (f w)) → ((w : World) → w.left < n → Does to (run_at text failed x w) (g w)) → (around : Around) (l start end next : ℕ) (b : Bool) (w : World) → w.left < n → Goes image c (leads image text n x good around l start end next held failed b (shown x.inv w)) → Does to c (decided b f g w)
    decide to held failed c f g rf rg around l start end next true w h go = reaches_from image text n x st.drops to c (run_at text held x w) (f w) go (rf w h)
    decide to held failed c f g rf rg around l start end next false w h go = reaches_from image text n x st.drops to c (run_at text failed x w) (g w) go (rg w h)

    -- IF and ELSEIF
    pub if_law : (l : ℕ) (c : Cond) (final : Bool) (Code Rest : ℕ → ℕ → Type 0) (whole : Stmt) (block : BlockMeaning) (rest : World → Outcome) (from to : ℕ) (at : IfSectionAt text l c final Code Rest from to) → ((w : World) → w.left < n → Does at.last (run_at text at.start x w) (block st.around Bare w)) → ((w : World) → Goes image (run_at text at.last x w) (run_at text to x w)) → ((w : World) → w.left < n → Does to (run_at text at.other x w) (rest w)) → (w : World) → w.left < suc n → Does to (run_at text from x w) (if_section low (place_of text x) st.around l c whole block rest w)
    if_law l c final Code Rest whole block rest from to at rb past rr w h =
        line_law image text n low x good st.drops l from to (low.stmt (place_of text x) st.around whole) Normal (λ w1 b w2. Goes image (run_at text (suc from) x w1) (leads image text n x good st.around l from at.start to at.start at.other b (shown x.inv w2))) (holds (here_at (place_of text x) st.around l) c) (λ b w1. decided b (block st.around Bare) rest w1) at.mark
        (λ w1 h1. unless_law image text n x good st.around l from at.start to c (suc from) at.start at.other w1 at.test (λ pc a b. at.row pc (omega arith) b) h1)
        (λ w1 b w2 h2 go. decide to at.start at.other (run_at text (suc from) x w1) (block st.around Bare) rest
        (λ w3 h3. then_goes st.drops at.last to (run_at text at.start x w3) (block st.around Bare w3) past (rb w3 h3))
        rr st.around l from at.start to b w2 h2 go)
        w h

    -- a jump is made
    arrives : (pc : ℕ) (d : Option ℕ) (t : Target) (c : State) (w : World) → d ≡ Some 0 → Ready image text pc d t → Goes image c (run_at text pc x w) → Goes image c (run_at text (text.addr t) x w)
    arrives pc d t c w e r g =
        ⊎_elim
        (λ p. let q : At text pc (instr.Jump (jump.Jump (text.addr t))) = subst (λ k. JumpFrom text k t pc) e p in goes_on image c _ _ g (executes image text x good (instr.Jump (jump.Jump (text.addr t))) pc [] (shown x.inv w) q))
        (λ q. goes_to image c _ _ (ap (λ a. run_at text a x w) q.1) g) r

    past_is : (l : ℕ) (t : Target) → hit t l ≡ Past → t ≡ EndOf l
    past_is l (LineOf m) e = let f : Elsewhere ≡ Past = e in absurd cc
    past_is l (EndOf m) e = by (nat_eq m l) refl e
      where
        by : (b : Bool) → nat_eq m l ≡ b → hit_if b Past ≡ Past → EndOf m ≡ EndOf l
        by true q f = ap EndOf (eqb-true m l q)
        by false q f = let g : Elsewhere ≡ Past = f in absurd cc
    past_is l (TurnOf m) e = by (nat_eq m l) e
      where
        by : (b : Bool) → hit_if b Round ≡ Past → TurnOf m ≡ EndOf l
        by true f = let g : Round ≡ Past = f in absurd cc
        by false f = let g : Elsewhere ≡ Past = f in absurd cc

    round_is : (l : ℕ) (t : Target) → hit t l ≡ Round → t ≡ TurnOf l
    round_is l (LineOf m) e = let f : Elsewhere ≡ Round = e in absurd cc
    round_is l (TurnOf m) e = by (nat_eq m l) refl e
      where
        by : (b : Bool) → nat_eq m l ≡ b → hit_if b Round ≡ Round → TurnOf m ≡ TurnOf l
        by true q f = ap TurnOf (eqb-true m l q)
        by false q f = let g : Elsewhere ≡ Round = f in absurd cc
    round_is l (EndOf m) e = by (nat_eq m l) e
      where
        by : (b : Bool) → hit_if b Past ≡ Round → EndOf m ≡ TurnOf l
        by true f = let g : Past ≡ Round = f in absurd cc
        by false f = let g : Elsewhere ≡ Round = f in absurd cc

    abbrev pub loop_drops : ℕ → Target → Option ℕ
    loop_drops l t = near_hit (hit t l) (st.drops t)

    loop_jump_law : (l to : ℕ) (c : State) (t : Target) (w : World) (round : World → Outcome) (h : Hit) → hit t l ≡ h → text.addr (EndOf l) ≡ to → ((w : World) → w.left < n → Does to (run_at text (text.addr (TurnOf l)) x w) (round w)) → w.left < n → JumpReached image text x (loop_drops l) c t w → Does to c (loop_jump h t round w)
    loop_jump_law l to c t w round Past e behind rr h r =
        (h, goes_to image c _ _ (ap (λ a. run_at text a x w) (ap text.addr (past_is l t e) ∙ behind)) (arrives r.pc (loop_drops l t) t c w (ap (λ k. near_hit k (st.drops t)) e) r.jump r.goes))
    loop_jump_law l to c t w round Round e behind rr h r =
        reaches_from image text n x st.drops to c (run_at text (text.addr (TurnOf l)) x w) (round w) (goes_to image c _ _ (ap (λ a. run_at text a x w) (ap text.addr (round_is l t e))) (arrives r.pc (loop_drops l t) t c w (ap (λ k. near_hit k (st.drops t)) e) r.jump r.goes)) (rr w h)
    loop_jump_law l to c t w round Elsewhere e behind rr h r =
        (h, record { pc = r.pc; jump = subst (λ d. Ready image text r.pc d t) (ap (λ k. near_hit k (st.drops t)) e) r.jump; goes = r.goes })

    -- the end of a loop's block
    loop_law : (l last to : ℕ) (c : State) (o : Outcome) (normal round : World → Outcome) → text.addr (EndOf l) ≡ to → Reaches image text n x (loop_drops l) last c o → ((w : World) → w.left < n → Does to (run_at text last x w) (normal w)) → ((w : World) → w.left < n → Does to (run_at text (text.addr (TurnOf l)) x w) (round w)) → Does to c (loop_end l normal round o)
    loop_law l last to c (Normal w) normal round behind r rn rr = reaches_from image text n x st.drops to c (run_at text last x w) (normal w) r.1 (rn w r.0)
    loop_law l last to c (Jumps t w) normal round behind r rn rr = loop_jump_law l to c t w round (hit t l) refl behind rr r.0 r.1
    loop_law l last to c (Leaves k w) normal round behind r rn rr = r
    loop_law l last to c (Away k t w) normal round behind r rn rr = r
    loop_law l last to c (Retries w) normal round behind r rn rr = r
    loop_law l last to c (Continues w) normal round behind r rn rr = r
    loop_law l last to c (PassesOn w) normal round behind r rn rr = r
    loop_law l last to c (Returns w) normal round behind r rn rr = r
    loop_law l last to c (Ends t w) normal round behind r rn rr = r

    -- DO
    pub do_law : (l : ℕ) (loopc : Option Loopc) (close : NumLine) (Code : ℕ → ℕ → Type 0) (whole : Stmt) (block : BlockMeaning) (from to : ℕ) (at : DoSectionAt text l loopc Code from to) → ((w : World) → w.left < n → Reaches image text n x (loop_drops l) at.last (run_at text at.start x w) (block (in_do l st.around) (ClosedBy l close) w)) → ((w : World) → w.left < n → Does to (run_at text from x w) (low.stmt (place_of text x) st.around whole w)) → (w : World) → w.left < suc n → Does to (run_at text from x w) (do_section low (place_of text x) st.around l loopc close whole block w)
    do_law l loopc close Code whole block from to at rb ra w h =
        line_law image text n low x good st.drops l from to again Normal (λ w1 b w2. Goes image (run_at text (suc from) x w1) (leads image text n x good st.around l from at.start to at.start to b (shown x.inv w2))) (goes_round (here_at (place_of text x) st.around l) loopc) (λ b w1. decided b turn Normal w1) at.mark
        (λ w1 h1. loopc_law image text n x good st.around l from at.start to loopc (suc from) at.start to w1 at.test (λ pc a b. at.row pc (omega arith) b) h1)
        (λ w1 b w2 h2 go. decide to at.start to (run_at text (suc from) x w1) turn Normal turns (λ w3 h3. (h3, stays image (run_at text to x w3))) st.around l from at.start to b w2 h2 go)
        w h
      where
        again : World → Outcome
        again = low.stmt (place_of text x) st.around whole

        turn : World → Outcome
        turn w2 = loop_end l again again (block (in_do l st.around) (ClosedBy l close) w2)

        turns : (w3 : World) → w3.left < n → Does to (run_at text at.start x w3) (turn w3)
        turns w3 h3 =
            loop_law l at.last to (run_at text at.start x w3) (block (in_do l st.around) (ClosedBy l close) w3) again again at.behind (rb w3 h3)
            (λ w4 h4. reaches_from image text n x st.drops to (run_at text at.last x w4) (run_at text from x w4) (again w4) (executes image text x good (instr.Jump (jump.Jump from)) at.last [] (shown x.inv w4) at.back) (ra w4 h4))
            (λ w4 h4. subst (λ p. Does to (run_at text p x w4) (again w4)) (sym at.again) (ra w4 h4))

    -- LOOP
    loop_line_law : (r : Region) (opener l : ℕ) (loopc : Option Loopc) (from to : ℕ) → LoopLineAt text st opener l loopc from to → (w : World) → w.left < suc n → Does to (run_at text from x w) (loop_line low (place_of text x) st.around r opener l loopc w)
    loop_line_law r opener l loopc from to at w h =
        line_law image text n low x good st.drops l from to (low.lines (place_of text x) st.around r NoStmts) (Jumps (EndOf opener)) (λ w1 b w2. Goes image (run_at text (suc from) x w1) (leads image text n x good st.around l from (suc to) (text.addr (EndOf opener)) to (text.addr (EndOf opener)) b (shown x.inv w2))) (goes_round (here_at (place_of text x) st.around l) loopc) (λ b w1. decided b Normal (Jumps (EndOf opener)) w1) at.mark
        (λ w1 h1. loopc_law image text n x good st.around l from (suc to) (text.addr (EndOf opener)) loopc (suc from) to (text.addr (EndOf opener)) w1 at.test (λ pc a b. at.row pc (omega arith) (omega arith)) h1)
        (λ w1 b w2 h2 go. decide to to (text.addr (EndOf opener)) (run_at text (suc from) x w1) Normal (Jumps (EndOf opener))
        (λ w3 h3. (h3, stays image (run_at text to x w3)))
        (λ w3 h3. (h3, record { pc = text.addr (EndOf opener); jump = inr (at.near, refl); goes = stays image (run_at text (text.addr (EndOf opener)) x w3) }))
        st.around l from (suc to) (text.addr (EndOf opener)) b w2 h2 go)
        w h

    -- END
    end_line_law : (r : Region) (l from to : ℕ) → EndLineAt text l from to → (w : World) → w.left < suc n → Does to (run_at text from x w) (end_line low (place_of text x) st.around r l w)
    end_line_law r l from to at w h =
        line_law image text n low x good st.drops l from to (low.lines (place_of text x) st.around r NoStmts) Normal (λ w1 v w2. Follows image text n x good st to (run_at text (suc from) x w1) v w2) (Gives Halt) follow at.line.mark
        (λ w1 h1. (h1, executes image text x good (instr.Run run.End) (suc from) [] (shown x.inv w1) at.line.code.at))
        (λ w1 v w2 h2 f. follow_law image text n x good st to (run_at text (suc from) x w1) v w2 h2 f)
        w h

    -- the line that closes a region, or its end
    closing_item_law : (b : Block) (opener l : ℕ) (item : LineItem) (from to : ℕ) (w : World) → ClosingAt text st (ClosedBy opener (record { line = l; item = item })) from to → w.left < suc n → Loosely image text n x st.drops to (run_at text from x w) (closing_line low (place_of text x) st.around (record { block = b; closing = ClosedBy opener (record { line = l; item = item }) }) w)
    closing_item_law b opener l (OfPart (Loop loopc)) from to w at h = loose image text n x st.drops to _ _ (loop_line_law (record { block = b; closing = ClosedBy opener (record { line = l; item = OfPart (Loop loopc) }) }) opener l loopc from to at w h)
    closing_item_law b opener l (OfPart End) from to w at h = loose image text n x st.drops to _ _ (end_line_law (record { block = b; closing = ClosedBy opener (record { line = l; item = OfPart End }) }) l from to at w h)
    closing_item_law b opener l _ from to w at h = absurd at

    pub closing_law : (b : Block) (closing : Closing) (from to : ℕ) (w : World) → ClosingAt text st closing from to → w.left < suc n → Loosely image text n x st.drops to (run_at text from x w) (closing_line low (place_of text x) st.around (record { block = b; closing = closing }) w)
    closing_law b Bare from to w at h = (h, goes_to image _ _ _ (ap (λ t. run_at text t x w) at) (stays image (run_at text from x w)))
    closing_law b (ClosedBy opener close) from to w at h = closing_item_law b opener close.line close.item from to w at h

  -- a closing line jumps out of its region alone, so that it stands outside it as well
  outside_item : (r : Region) (st : Static) (opener l : ℕ) (item : LineItem) (from to : ℕ) → ClosingAt text (inside r st) (ClosedBy opener (record { line = l; item = item })) from to → ClosingAt text st (ClosedBy opener (record { line = l; item = item })) from to
  outside_item r st opener l (OfPart (Loop loopc)) from to at = record { here = at.here; mark = at.mark; row = at.row; test = at.test; near = at.near }
  outside_item r st opener l (OfPart End) from to at = at
  outside_item r st opener l _ from to at = absurd at

  pub outside : (r : Region) (st : Static) (closing : Closing) (from to : ℕ) → ClosingAt text (inside r st) closing from to → ClosingAt text st closing from to
  outside r st Bare from to at = at
  outside r st (ClosedBy opener close) from to at = outside_item r st opener close.line close.item from to at

  -- the code of a region's closing line stands behind its statements
  closing_code : (st : Static) (closing : Closing) (b : Block) (from to : ℕ) → LinesAt text st closing b from to → (q : ℕ) × ClosingAt text st closing q to
  closing_code st closing NoStmts from to at = (from, at)
  closing_code st closing (MoreStmts s rest) from to at = closing_code st closing rest at.middle to at.rest

  -- the code of the statements from line l on
  line_code : (st : Static) (closing : Closing) (l : ℕ) (b c : Block) (from to : ℕ) → LinesAt text st closing b from to → from_line l b ≡ Some c → LinesAt text st closing c (text.addr (LineOf l)) to
  line_code st closing l NoStmts c from to at is = let e : None ≡ Some c = is in absurd cc
  line_code st closing l (MoreStmts s rest) c from to at is = by (λ f. line_code st closing l rest c at.middle to at.rest f) (nat_eq l (line_of s)) refl is
    where
      by : (from_line l rest ≡ Some c → LinesAt text st closing c (text.addr (LineOf l)) to) → (t : Bool) → nat_eq l (line_of s) ≡ t → first_or t (MoreStmts s rest) (from_line l rest) ≡ Some c → LinesAt text st closing c (text.addr (LineOf l)) to
      by behind true q f =
          let same : l ≡ line_of s = eqb-true l (line_of s) q in
          let which : MoreStmts s rest ≡ c = cc in
          let place : from ≡ text.addr (LineOf l) = sym at.here ∙ ap (λ m. text.addr (LineOf m)) (sym same) in
          subst (λ p. LinesAt text st closing c p to) place (subst (λ d. LinesAt text st closing d from to) which at)
      by behind false q f = behind f

  -- the closing line stands at its address
  here_item : (st : Static) (opener l : ℕ) (item : LineItem) (q to : ℕ) → ClosingAt text st (ClosedBy opener (record { line = l; item = item })) q to → text.addr (LineOf l) ≡ q
  here_item st opener l (OfPart (Loop loopc)) q to at = at.here
  here_item st opener l (OfPart End) q to at = at.here
  here_item st opener l _ q to at = absurd at

  at_closing_code : (st : Static) (l : ℕ) (closing : Closing) (c : Block) (q to : ℕ) → ClosingAt text st closing q to → at_closing l closing ≡ Some c → LinesAt text st closing c (text.addr (LineOf l)) to
  at_closing_code st l Bare c q to at is = let e : None ≡ Some c = is in absurd cc
  at_closing_code st l (ClosedBy opener close) c q to at is = by (nat_eq l close.line) refl is
    where
      by : (t : Bool) → nat_eq l close.line ≡ t → first_or t NoStmts None ≡ Some c → LinesAt text st (ClosedBy opener close) c (text.addr (LineOf l)) to
      by true p f =
          let same : l ≡ close.line = eqb-true l close.line p in
          let which : NoStmts ≡ c = cc in
          let place : q ≡ text.addr (LineOf l) = sym (here_item st opener close.line close.item q to at) ∙ ap (λ m. text.addr (LineOf m)) (sym same) in
          subst (λ k. LinesAt text st (ClosedBy opener close) c k to) place (subst (λ d. LinesAt text st (ClosedBy opener close) d q to) which at)
      by false p f = let e : None ≡ Some c = f in absurd cc

  land_code : (st : Static) (l : ℕ) (r : Region) (c : Block) (from to : ℕ) (a b : Option Block) → from_line l r.block ≡ a → at_closing l r.closing ≡ b → or_at a b ≡ Some c → LinesAt text st r.closing r.block from to → LinesAt text st r.closing c (text.addr (LineOf l)) to
  land_code st l r c from to (Some d) b p q is at = line_code st r.closing l r.block c from to at (p ∙ is)
  land_code st l r c from to None b p q is at = let k = closing_code st r.closing r.block from to at in at_closing_code st l r.closing c k.0 to k.1 (q ∙ is)

  module _ (n : ℕ) (low : Lower) (sim : Sim image text low n) (x : Stand) (good : Good image text x) (st : Static) where
    -- a jump: to a line of the region, or outwards
    jump_law : (r : Region) (top to : ℕ) (c : State) (t : Target) (w : World) (f : Option Block) → landing t r ≡ f → LinesAt text (inside r st) r.closing r.block top to → w.left < n → JumpReached image text x (λ u. near_if (landing u r) (st.drops u)) c t w → Reaches image text n x st.drops to c (jump_within f t (low.lines (place_of text x) st.around r) w)
    jump_law r top to c t w None is at h j =
        (h, record { pc = j.pc; jump = subst (λ d. Ready image text j.pc d t) (ap (λ f. near_if f (st.drops t)) is) j.jump; goes = j.goes })
    jump_law r top to c (LineOf l) w (Some b) is at h j =
        reaches_from image text n x st.drops to c (run_at text (text.addr (LineOf l)) x w) _ (arrives n low x good st j.pc _ (LineOf l) c w (ap (λ f. near_if f (st.drops (LineOf l))) is) j.jump j.goes)
        (sim.lines n (le_refl n) st r b top (text.addr (LineOf l)) to x w good at (land_code (inside r st) l r b top to (from_line l r.block) (at_closing l r.closing) refl refl is at) h)
    jump_law r top to c (EndOf l) w (Some b) is at h j = let e : None ≡ Some b = is in absurd cc
    jump_law r top to c (TurnOf l) w (Some b) is at h j = let e : None ≡ Some b = is in absurd cc

    pub next_law : (r : Region) (top middle to : ℕ) (rest : World → Outcome) (c : State) (o : Outcome) → LinesAt text (inside r st) r.closing r.block top to → Loosely image text n x (λ u. near_if (landing u r) (st.drops u)) middle c o → ((w : World) → w.left < suc n → Loosely image text n x st.drops to (run_at text middle x w) (rest w)) → Loosely image text n x st.drops to c (next_line r (low.lines (place_of text x) st.around r) rest o)
    next_law r top middle to rest c (Normal w) at a rr = loosely_from image text n x st.drops to c (run_at text middle x w) (rest w) a.1 (rr w a.0)
    next_law r top middle to rest c (Jumps t w) at a rr = loose image text n x st.drops to c _ (jump_law r top to c t w (landing t r) refl at a.0 a.1)
    next_law r top middle to rest c (Leaves k w) at a rr = a
    next_law r top middle to rest c (Away k t w) at a rr = a
    next_law r top middle to rest c (Retries w) at a rr = a
    next_law r top middle to rest c (Continues w) at a rr = a
    next_law r top middle to rest c (PassesOn w) at a rr = a
    next_law r top middle to rest c (Returns w) at a rr = a
    next_law r top middle to rest c (Ends t w) at a rr = a
