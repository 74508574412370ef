-- The code of lines and blocks jumps forward or to marks.
use Rattle.std.proofs.Common.{◌≡◌, ◌⊎◌, ℕ, zero, suc, ◌≤◌, List, [], ◌∷◌, Option, Some, None, Bool, true, false, refl, sym, ap, subst, ◌∙◌, arith, inl, inr, ⊎_elim}
use Rattle.std.specs.Prelude.{nat_eq}
use Rattle.std.proofs.lemmas.Bool.{eqb-true}
use Rattle.bas_ast.specs.Tree.{Expr, Target as Place, Variable, NoExprs, MoreExprs, Sep, Pitem, Printed, Plain, Let, Print, Goto, ExitDo, Simple, Alone, Cond, Loopc, If, Elseif, Else, Do, Loop, End, LineItem, Nothing, Rem, OfSimple, OfPart, NumLine, Stmt, Single, Nest, Sections, NoSections, MoreSections, Block, NoStmts, MoreStmts}
use Rattle.bas_mean.specs.Outcome.{Target, LineOf, EndOf, TurnOf}
use Rattle.bas_mean.specs.Place.{Around, Closing, Bare, ClosedBy}
use Rattle.bas_ast.specs.Accessors.{line_of}
use Rattle.bas_mean.specs.Block.{from_line, at_closing, or_at, first_or, landing, Hit, Past, Round, Elsewhere, hit, hit_if}
use Rattle.bas_mean.specs.Construct.{in_do}
use Rattle.bas_code.specs.declared.instr.Instr.TheVariants as instr
use Rattle.bas_code.specs.declared.instr.JumpInstr.TheVariants.{Jump}
use Rattle.bas_carry.specs.Text.{Text, Static, near_if, near_hit, inside, looped, At, JumpAt}
use Rattle.bas_carry.specs.Simples.{TargetAt, LetAt, PrintAt, ExitAt, PlainAt, SimpleAt}
use Rattle.bas_carry.specs.Constructs.{is_last, PartEndAt, IfSectionAt, DoSectionAt, SectionAt, ClosingAt, SingleAt}
use Rattle.bas_carry.specs.Carries.{StmtAt, SectionsAt, LinesAt}
use Rattle.bas_vm.specs.Fit.{is_marked}
use Rattle.bas_run.proofs.Spans.{Span, Marked, Aim, aim-less, span-none, span-then, span-one, span-jump, expr-span}
use Rattle.bas_run.proofs.Conditions.{unless-span, loopc-span}

module _ (text : Text) where
  mark-is : (from l : ℕ) → At text from (instr.Mark l) → Marked text from
  mark-is from l at = ap is_marked at

  -- each jump that may be made below an address is right there
  pub record Safe (st : Static) (to : ℕ) : Type 0 where
    pub aim : (t : Target) → st.drops t ≡ Some 0 → Aim text (text.addr t) to

  safe-less : (st : Static) (to less : ℕ) → less ≤ to → Safe st to → Safe st less
  safe-less st to less h s = record { aim = λ t d. aim-less text (text.addr t) to less h (s.aim t d) }

  -- simple lines

  target-span : (t : Place) (from to : ℕ) → TargetAt text t from to → Span text from to
  target-span (Variable name NoExprs) from to p = span-one text from to _ refl p.at p.end
  target-span (Variable name (MoreExprs e rest)) from to p = absurd p

  let-span : (targets : List Place) (e : Expr) (from to : ℕ) → LetAt text targets e from to → Span text from to
  let-span [] e from to p = absurd p
  let-span (t ∷ []) e from to p =
      span-then text from p.middle to (target-span t from p.middle p.first)
      (span-then text p.middle p.second.middle to (expr-span text e p.middle p.second.middle p.second.first) (span-one text p.second.middle to _ refl p.second.second.at p.second.second.end))
  let-span (t ∷ u ∷ targets) e from to p = absurd p

  print-span : (first : Option Pitem) (rest : List (Sep × Option Pitem)) (from to : ℕ) → PrintAt text first rest from to → Span text from to
  print-span None [] from to o = span-one text from to _ refl o.at o.end
  print-span (Some (Printed e)) [] from to p =
      span-then text from p.middle to (expr-span text e from p.middle p.first)
      (span-then text p.middle p.second.middle to (span-one text p.middle p.second.middle _ refl p.second.first.at p.second.first.end) (span-one text p.second.middle to _ refl p.second.second.at p.second.second.end))
  print-span _ _ from to p = absurd p

  jump-span : (d : Option ℕ) (t : Target) (from to : ℕ) → (d ≡ Some 0 → Aim text (text.addr t) to) → JumpAt text d t from to → Span text from to
  jump-span None t from to aim j = absurd j.jump
  jump-span (Some zero) t from to aim j = span-jump text from to to (Jump (text.addr t)) j.jump (aim refl) j.end (omega arith)
  jump-span (Some (suc d)) t from to aim j = absurd j.jump

  exit-span : (st : Static) (l : Option ℕ) (from to : ℕ) → Safe st to → ExitAt text st l from to → Span text from to
  exit-span st None from to s p = absurd p
  exit-span st (Some l) from to s p = jump-span (st.drops (EndOf l)) (EndOf l) from to (λ d. s.aim (EndOf l) d) p

  plain-span : (st : Static) (plain : Plain) (from to : ℕ) → Safe st to → PlainAt text st plain from to → Span text from to
  plain-span st (Let targets e) from to s p = let-span targets e from to p
  plain-span st (Print list) from to s p = print-span list.first list.rest from to p
  plain-span st (Goto l) from to s p = jump-span (st.drops (LineOf l)) (LineOf l) from to (λ d. s.aim (LineOf l) d) p
  plain-span st ExitDo from to s p = exit-span st st.around.do_line from to s p
  plain-span st _ from to s p = absurd p

  simple-span : (st : Static) (simple : Simple) (from to : ℕ) → Safe st to → SimpleAt text st simple from to → Span text from to
  simple-span st (Alone plain) from to s p = plain-span st plain from to s p
  simple-span st _ from to s p = absurd p

  mark-span : (from l : ℕ) → At text from (instr.Mark l) → Span text from (suc from)
  mark-span from l at = span-one text from (suc from) (instr.Mark l) refl at refl

  single-span : (st : Static) (l : ℕ) (item : LineItem) (from to : ℕ) → Safe st to → SingleAt text st (record { line = l; item = item }) from to → Span text from to
  single-span st l Nothing from to s p = span-then text from (suc from) to (mark-span from l p.mark) (span-none text (suc from) to p.code.none)
  single-span st l (Rem bytes) from to s p = span-then text from (suc from) to (mark-span from l p.mark) (span-none text (suc from) to p.code.none)
  single-span st l (OfSimple simple) from to s p = span-then text from (suc from) to (mark-span from l p.mark) (simple-span st simple (suc from) to s p.code)
  single-span st l _ from to s p = absurd p

  -- what a statement, a section or a closing line begins with: a mark, or it is empty
  abbrev Begins : (from to : ℕ) → Type 0
  Begins from to = Marked text from ⊎ (from ≡ to)

  begins-then : (a b c : ℕ) → Begins a b → Begins b c → Begins a c
  begins-then a b c p q = ⊎_elim (λ m. inl m) (λ e. subst (λ k. Begins k c) (sym e) q) p

  single-begins : (st : Static) (l : ℕ) (item : LineItem) (from to : ℕ) → SingleAt text st (record { line = l; item = item }) from to → Begins from to
  single-begins st l Nothing from to p = inl (mark-is from l p.mark)
  single-begins st l (Rem bytes) from to p = inl (mark-is from l p.mark)
  single-begins st l (OfSimple simple) from to p = inl (mark-is from l p.mark)
  single-begins st l _ from to p = absurd p

  item-begins : (st : Static) (opener l : ℕ) (item : LineItem) (from to : ℕ) → ClosingAt text st (ClosedBy opener (record { line = l; item = item })) from to → Begins from to
  item-begins st opener l (OfPart (Loop loopc)) from to p = inl (mark-is from l p.mark)
  item-begins st opener l (OfPart End) from to p = inl (mark-is from l p.line.mark)
  item-begins st opener l _ from to p = absurd p

  closing-begins : (st : Static) (closing : Closing) (from to : ℕ) → ClosingAt text st closing from to → Begins from to
  closing-begins st Bare from to p = inr p
  closing-begins st (ClosedBy opener line) from to p = item-begins st opener line.line line.item from to p

  section-begins : (st : Static) (l : ℕ) (item : LineItem) (close : NumLine) (final : Bool) (Code : Static → Closing → ℕ → ℕ → Type 0) (Rest : ℕ → ℕ → Type 0) (from to : ℕ) → (Code st Bare from to → Begins from to) →
      SectionAt text st (record { line = l; item = item }) close final Code Rest from to → Begins from to
  section-begins st l (OfPart (If c)) close final Code Rest from to h p = inl (mark-is from l p.mark)
  section-begins st l (OfPart (Elseif c)) close final Code Rest from to h p = inl (mark-is from l p.mark)
  section-begins st l (OfPart Else) close final Code Rest from to h p = h p
  section-begins st l (OfPart (Do loopc)) close final Code Rest from to h p = inl (mark-is from l p.mark)
  section-begins st l _ close final Code Rest from to h p = absurd p

  mutual
    stmt-begins : (st : Static) (s : Stmt) (from to : ℕ) → StmtAt text st s from to → Begins from to
    stmt-begins st (Single head) from to p = single-begins st head.line head.item from to p
    stmt-begins st (Nest NoSections close) from to p = inr p
    stmt-begins st (Nest (MoreSections head body rest) close) from to p =
        section-begins st head.line head.item close (is_last rest)
        (λ inner closing. LinesAt text (inside (record { block = body; closing = closing }) inner) closing body) (SectionsAt text st rest close) from to (λ q. lines-begin (inside (record { block = body; closing = Bare }) st) Bare body from to q) p

    lines-begin : (st : Static) (closing : Closing) (block : Block) (from to : ℕ) → LinesAt text st closing block from to → Begins from to
    lines-begin st closing NoStmts from to p = closing-begins st closing from to p
    lines-begin st closing (MoreStmts s rest) from to p = begins-then from p.middle to (stmt-begins st s from p.middle p.first) (lines-begin st closing rest p.middle to p.rest)

  -- a line of a region is right to jump to from within
  begins-aim : (a from to : ℕ) → a ≡ from → Begins from to → Aim text a to
  begins-aim a from to e b = subst (λ k. Aim text k to) (sym e) (⊎_elim (λ m. inl m) (λ q. inr (omega (arith, q))) b)

  closing-aim : (st : Static) (opener l m : ℕ) (item : LineItem) (from to : ℕ) (b : Bool) (r : Block) → nat_eq m l ≡ b → first_or b NoStmts None ≡ Some r → ClosingAt text st (ClosedBy opener (record { line = l; item = item })) from to → Aim text (text.addr (LineOf m)) to
  closing-aim st opener l m item from to false r e h p = let bad : None ≡ Some r = h in absurd cc
  closing-aim st opener l m (OfPart (Loop loopc)) from to true r e h p =
      begins-aim (text.addr (LineOf m)) from to (ap (λ k. text.addr (LineOf k)) (eqb-true m l e) ∙ p.here) (inl (mark-is from l p.mark))
  closing-aim st opener l m (OfPart End) from to true r e h p =
      begins-aim (text.addr (LineOf m)) from to (ap (λ k. text.addr (LineOf k)) (eqb-true m l e) ∙ p.here) (inl (mark-is from l p.line.mark))
  closing-aim st opener l m _ from to true r e h p = absurd p

  at-closing-aim : (st : Static) (closing : Closing) (m from to : ℕ) (r : Block) → at_closing m closing ≡ Some r → ClosingAt text st closing from to → Aim text (text.addr (LineOf m)) to
  at-closing-aim st Bare m from to r h p = let bad : None ≡ Some r = h in absurd cc
  at-closing-aim st (ClosedBy opener line) m from to r h p = closing-aim st opener line.line m line.item from to (nat_eq m line.line) r refl h p

  -- the first lines of the statements, one by one
  here-aim : (st : Static) (closing : Closing) (s : Stmt) (rest : Block) (m from to : ℕ) (b : Bool) (r : Block) → nat_eq m (line_of s) ≡ b → LinesAt text st closing (MoreStmts s rest) from to →
      (or_at (from_line m rest) (at_closing m closing) ≡ Some r → Aim text (text.addr (LineOf m)) to) → or_at (first_or b (MoreStmts s rest) (from_line m rest)) (at_closing m closing) ≡ Some r → Aim text (text.addr (LineOf m)) to
  here-aim st closing s rest m from to true r e p behind h =
      begins-aim (text.addr (LineOf m)) from to (ap (λ k. text.addr (LineOf k)) (eqb-true m (line_of s) e) ∙ p.here) (lines-begin st closing (MoreStmts s rest) from to p)
  here-aim st closing s rest m from to false r e p behind h = behind h

  lines-aim : (st : Static) (closing : Closing) (block : Block) (m from to : ℕ) (r : Block) → LinesAt text st closing block from to → or_at (from_line m block) (at_closing m closing) ≡ Some r → Aim text (text.addr (LineOf m)) to
  lines-aim st closing NoStmts m from to r p h = at-closing-aim st closing m from to r h p
  lines-aim st closing (MoreStmts s rest) m from to r p h =
      here-aim st closing s rest m from to (nat_eq m (line_of s)) r refl p (λ q. lines-aim st closing rest m p.middle to r p.rest q) h

  landing-aim : (st : Static) (closing : Closing) (block : Block) (t : Target) (from to : ℕ) (r : Block) → LinesAt text st closing block from to → landing t (record { block = block; closing = closing }) ≡ Some r → Aim text (text.addr t) to
  landing-aim st closing block (LineOf m) from to r p h = lines-aim st closing block m from to r p h
  landing-aim st closing block (EndOf m) from to r p h = let bad : None ≡ Some r = h in absurd cc
  landing-aim st closing block (TurnOf m) from to r p h = let bad : None ≡ Some r = h in absurd cc

  -- within a region
  inside-if : (st' : Static) (closing : Closing) (block : Block) (t : Target) (from to : ℕ) (o : Option Block) (d : Option ℕ) → landing t (record { block = block; closing = closing }) ≡ o → LinesAt text st' closing block from to → (d ≡ Some 0 → Aim text (text.addr t) to) → near_if o d ≡ Some 0 → Aim text (text.addr t) to
  inside-if st' closing block t from to None d e p out h = out h
  inside-if st' closing block t from to (Some r) d e p out h = landing-aim st' closing block t from to r p e

  inside-safe : (st : Static) (closing : Closing) (block : Block) (from to : ℕ) → Safe st to → LinesAt text (inside (record { block = block; closing = closing }) st) closing block from to → Safe (inside (record { block = block; closing = closing }) st) to
  inside-safe st closing block from to s p = record {
    aim = λ t d. inside-if (inside (record { block = block; closing = closing }) st) closing block t from to (landing t (record { block = block; closing = closing })) (st.drops t) refl p (λ q. s.aim t q) d;
  }

  -- within a loop
  hit-aim : (t : Target) (l from to last : ℕ) → text.addr (EndOf l) ≡ to → text.addr (TurnOf l) ≡ from → Marked text from → last ≤ to → (h : Hit) (d : Option ℕ) → hit t l ≡ h → (d ≡ Some 0 → Aim text (text.addr t) last) → near_hit h d ≡ Some 0 → Aim text (text.addr t) last
  hit-aim t l from to last behind again m le Elsewhere d e out h = out h
  hit-aim (LineOf k) l from to last behind again m le Past d e out h = let bad : Elsewhere ≡ Past = e in absurd cc
  hit-aim (LineOf k) l from to last behind again m le Round d e out h = let bad : Elsewhere ≡ Round = e in absurd cc
  hit-aim (EndOf k) l from to last behind again m le Past d e out h = end-hit (nat_eq k l) refl e
    where
      end-hit : (b : Bool) → nat_eq k l ≡ b → hit_if b Past ≡ Past → Aim text (text.addr (EndOf k)) last
      end-hit true q r = subst (λ n. Aim text n last) (sym (ap (λ n. text.addr (EndOf n)) (eqb-true k l q) ∙ behind)) (inr le)
      end-hit false q r = let bad : Elsewhere ≡ Past = r in absurd cc
  hit-aim (EndOf k) l from to last behind again m le Round d e out h = no-turn (nat_eq k l) e
    where
      no-turn : (b : Bool) → hit_if b Past ≡ Round → Aim text (text.addr (EndOf k)) last
      no-turn true r = let bad : Past ≡ Round = r in absurd cc
      no-turn false r = let bad : Elsewhere ≡ Round = r in absurd cc
  hit-aim (TurnOf k) l from to last behind again m le Past d e out h = no-end (nat_eq k l) e
    where
      no-end : (b : Bool) → hit_if b Round ≡ Past → Aim text (text.addr (TurnOf k)) last
      no-end true r = let bad : Round ≡ Past = r in absurd cc
      no-end false r = let bad : Elsewhere ≡ Past = r in absurd cc
  hit-aim (TurnOf k) l from to last behind again m le Round d e out h = turn-hit (nat_eq k l) refl e
    where
      turn-hit : (b : Bool) → nat_eq k l ≡ b → hit_if b Round ≡ Round → Aim text (text.addr (TurnOf k)) last
      turn-hit true q r = subst (λ n. Aim text n last) (sym (ap (λ n. text.addr (TurnOf n)) (eqb-true k l q) ∙ again)) (inl m)
      turn-hit false q r = let bad : Elsewhere ≡ Round = r in absurd cc

  loop-safe : (st : Static) (around : Around) (l from to last : ℕ) → Safe st to → text.addr (EndOf l) ≡ to → text.addr (TurnOf l) ≡ from → Marked text from → last ≤ to → Safe (looped l around st) last
  loop-safe st around l from to last s behind again m le = record {
    aim = λ t d. hit-aim t l from to last behind again m le (hit t l) (st.drops t) refl (λ q. aim-less text (text.addr t) to last le (s.aim t q)) d;
  }

  -- constructs

  closed-span : (st : Static) (opener l : ℕ) (item : LineItem) (from to : ℕ) → Safe st to → ClosingAt text st (ClosedBy opener (record { line = l; item = item })) from to → Span text from to
  closed-span st opener l (OfPart (Loop loopc)) from to s p = span-then text from (suc from) to (mark-span from l p.mark) (loopc-span text loopc (suc from) to (text.addr (EndOf opener)) p.test (s.aim (EndOf opener) p.near))
  closed-span st opener l (OfPart End) from to s p = span-then text from (suc from) to (mark-span from l p.line.mark) (span-one text (suc from) to _ refl p.line.code.at p.line.code.end)
  closed-span st opener l _ from to s p = absurd p

  closing-span : (st : Static) (closing : Closing) (from to : ℕ) → Safe st to → ClosingAt text st closing from to → Span text from to
  closing-span st Bare from to s p = span-none text from to p
  closing-span st (ClosedBy opener line) from to s p = closed-span st opener line.line line.item from to s p

  part-end-span : (final : Bool) (last other to : ℕ) → other ≤ to → PartEndAt text final last other to → Span text last other
  part-end-span true last other to h p = span-none text last other p
  part-end-span false last other to h p = span-jump text last other to (Jump to) p.0 (inr (omega arith)) p.1 h

  -- the code of a part that is safe is a stretch
  abbrev CodeSpans : Static → (ℕ → ℕ → Type 0) → Type 0
  CodeSpans st Code = (from to : ℕ) → Code from to → Safe st to → Span text from to

  if-section-span : (st : Static) (l : ℕ) (c : Cond) (final : Bool) (Code Rest : ℕ → ℕ → Type 0) (from to : ℕ) → Safe st to → CodeSpans st Code → CodeSpans st Rest → IfSectionAt text l c final Code Rest from to → Span text from to
  if-section-span st l c final Code Rest from to s code rest p =
      let behind = rest p.other to p.rest s in
      let end = part-end-span final p.last p.other to behind.le p.past in
      let block = code p.start p.last p.code (safe-less st to p.last (omega (arith, behind.le, end.le)) s) in
      let test = unless-span text c (suc from) p.start p.other p.test (inr (omega (arith, block.le, end.le))) in
      span-then text from (suc from) to (mark-span from l p.mark)
      (span-then text (suc from) p.start to test (span-then text p.start p.last to block (span-then text p.last p.other to end behind)))

  do-section-span : (st : Static) (l : ℕ) (loopc : Option Loopc) (around : Around) (Code : ℕ → ℕ → Type 0) (from to : ℕ) → Safe st to → CodeSpans (looped l around st) Code → DoSectionAt text l loopc Code from to → Span text from to
  do-section-span st l loopc around Code from to s code p =
      let m = mark-is from l p.mark in
      let short : p.last ≤ to = omega (arith, p.end) in
      let block = code p.start p.last p.code (loop-safe st around l from to p.last s p.behind p.again m short) in
      let test = loopc-span text loopc (suc from) p.start to p.test (inr (omega (arith, block.le, p.end))) in
      span-then text from (suc from) to (mark-span from l p.mark)
      (span-then text (suc from) p.start to test (span-then text p.start p.last to block (span-jump text p.last to to (Jump from) p.back (inl m) p.end (omega arith))))

  section-span : (st : Static) (l : ℕ) (item : LineItem) (close : NumLine) (final : Bool) (Code : Static → Closing → ℕ → ℕ → Type 0) (Rest : ℕ → ℕ → Type 0) (from to : ℕ) → Safe st to →
      ((st1 : Static) (closing : Closing) → CodeSpans st1 (Code st1 closing)) → CodeSpans st Rest → SectionAt text st (record { line = l; item = item }) close final Code Rest from to → Span text from to
  section-span st l (OfPart (If c)) close final Code Rest from to s code rest p = if-section-span st l c final (Code st Bare) Rest from to s (code st Bare) rest p
  section-span st l (OfPart (Elseif c)) close final Code Rest from to s code rest p = if-section-span st l c final (Code st Bare) Rest from to s (code st Bare) rest p
  section-span st l (OfPart Else) close final Code Rest from to s code rest p = code st Bare from to p s
  section-span st l (OfPart (Do loopc)) close final Code Rest from to s code rest p =
      do-section-span st l loopc (in_do l st.around) (Code (looped l (in_do l st.around) st) (ClosedBy l close)) from to s (code (looped l (in_do l st.around) st) (ClosedBy l close)) p
  section-span st l _ close final Code Rest from to s code rest p = absurd p

  mutual
    stmt-span : (s : Stmt) (st : Static) (from to : ℕ) → Safe st to → StmtAt text st s from to → Span text from to
    stmt-span (Single head) st from to safe p = single-span st head.line head.item from to safe p
    stmt-span (Nest sections close) st from to safe p = sections-span sections close st from to safe p

    sections-span : (sections : Sections) (close : NumLine) (st : Static) (from to : ℕ) → Safe st to → SectionsAt text st sections close from to → Span text from to
    sections-span NoSections close st from to safe p = span-none text from to p
    sections-span (MoreSections head body rest) close st from to safe p =
        section-span st head.line head.item close (is_last rest)
        (λ inner closing from1 to1. LinesAt text (inside (record { block = body; closing = closing }) inner) closing body from1 to1)
        (λ from1 to1. SectionsAt text st rest close from1 to1)
        from to safe
        (λ inner closing from1 to1 q safe1. lines-span body (inside (record { block = body; closing = closing }) inner) closing from1 to1 (inside-safe inner closing body from1 to1 safe1 q) q)
        (λ from1 to1 q safe1. sections-span rest close st from1 to1 safe1 q)
        p

    pub lines-span : (block : Block) (st : Static) (closing : Closing) (from to : ℕ) → Safe st to → LinesAt text st closing block from to → Span text from to
    lines-span NoStmts st closing from to safe p = closing-span st closing from to safe p
    lines-span (MoreStmts s rest) st closing from to safe p =
        let behind = lines-span rest st closing p.middle to safe p.rest in
        span-then text from p.middle to (stmt-span s st from p.middle (safe-less st to p.middle behind.le safe) p.first) behind

  -- a whole program: no jump goes outwards
  pub program-span : (st : Static) (closing : Closing) (block : Block) (from to : ℕ) → ((t : Target) → st.drops t ≡ None) → LinesAt text (inside (record { block = block; closing = closing }) st) closing block from to → Span text from to
  program-span st closing block from to none p =
      lines-span block (inside (record { block = block; closing = closing }) st) closing from to
      (inside-safe st closing block from to (record { aim = λ t d. let bad : None ≡ Some 0 = sym (none t) ∙ d in absurd cc }) p) p
