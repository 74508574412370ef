-- The law: an image that carries a program does for n lines what the program means for n lines.
use Rattle.std.proofs.Common.{◌≡◌, ◌≢◌, ℕ, zero, suc, ◌+◌, ◌≤◌, List, [], ◌∷◌, length, Option, Some, None, refl, sym, ap, ◌∙◌, subst, arith, inl, ⊎_elim}
use Rattle.std.proofs.lemmas.Bool.{cases_lt}
use Rattle.std.specs.Prelude.{slice_get}
use Rattle.bas_ast.specs.Tree.{End, OfPart, Block, NoStmts, MoreStmts, Program}
use Rattle.bas_mean.specs.World.{Variable, World, with_cells, with_fresh, first_world}
use Rattle.bas_mean.specs.Outcome.{Raised, Halted, Finished, Chained, Beyond, Undefined, Gives, Target, Halt, Outcome, Normal, Jumps, Leaves, Away, Retries, Continues, PassesOn, Returns, Ends, follow, RunEnd, Lost}
use Rattle.bas_mean.specs.Place.{Around, ClosedBy, Region, OfBody, Place, Lower}
use Rattle.bas_mean.specs.Block.{landing, jump_within, next_line}
use Rattle.bas_mean.specs.Line.{counted, worded, handled}
use Rattle.bas_mean.specs.Meaning.{stmt, lines, level, own_refs, program_region, outermost, program_place, run_program, run_first, end_of, mean}
use Rattle.bas_code.specs.declared.instr.Place as slot
use Rattle.bas_code.specs.declared.body.Image.{Image}
use Rattle.bas_code.specs.State.{State, Run, Over, spot_of, slots_from, entered, empty_memory}
use Rattle.bas_code.specs.Guards.{handlers_at}
use Rattle.bas_code.specs.Machine.{step, exec, first_started, program_started, Runs}
use Rattle.bas_carry.specs.Text.{Text}
use Rattle.bas_carry.specs.Shown.{Invocation}
use Rattle.bas_carry.specs.Carries.{top_static, ProgramAt, CarriedAgrees}
use Rattle.bas_carry.proofs.Steps.{Goes}
use Rattle.bas_carry.proofs.Cells.{fresh_cells, own_slot}
use Rattle.bas_carry.proofs.Reach.{Stand, place_of, run_at, SeenAt, Good, never_ready, Reaches, tight}
use Rattle.bas_carry.proofs.Whole.{lines_sim, level_sim}

-- a region that END closes never ends in order

abbrev Busy : Outcome → Type 0
Busy (Normal w) = ⊥
Busy (Jumps t w) = Unit {0}
Busy (Leaves k w) = Unit {0}
Busy (Away k t w) = Unit {0}
Busy (Retries w) = Unit {0}
Busy (Continues w) = Unit {0}
Busy (PassesOn w) = Unit {0}
Busy (Returns w) = Unit {0}
Busy (Ends t w) = Unit {0}

abbrev end_region : (opener l : ℕ) → Block → Region
end_region opener l b = record { block = b; closing = ClosedBy opener (record { line = l; item = OfPart End }) }

abbrev BusyLower : Lower → (opener l : ℕ) → Block → Type 0
BusyLower low opener l b = (p : Place) (around : Around) (rest : Block) (w : World) → Busy (low.lines p around (end_region opener l b) rest w)

end_busy : (low : Lower) (p : Place) (around : Around) (opener l : ℕ) (b : Block) (k : ℕ) (w : World) → Busy (counted k (λ w1. worded p.handlers (low.lines p around (end_region opener l b) NoStmts) (λ x w2. handled low p l (low.lines p around (end_region opener l b) NoStmts) Normal x p.handlers w2) follow (Gives Halt w1)) w)
end_busy low p around opener l b zero w = tt
end_busy low p around opener l b (suc k) w = tt

within_busy : (low : Lower) (p : Place) (around : Around) (opener l : ℕ) (b : Block) → BusyLower low opener l b → (f : Option Block) (t : Target) (w : World) → Busy (jump_within f t (low.lines p around (end_region opener l b)) w)
within_busy low p around opener l b q None t w = tt
within_busy low p around opener l b q (Some c) t w = q p around c w

next_busy : (low : Lower) (p : Place) (around : Around) (opener l : ℕ) (b : Block) → BusyLower low opener l b → (rest : World → Outcome) → ((w : World) → Busy (rest w)) → (o : Outcome) → Busy (next_line (end_region opener l b) (low.lines p around (end_region opener l b)) rest o)
next_busy low p around opener l b q rest r (Normal w) = r w
next_busy low p around opener l b q rest r (Jumps t w) = within_busy low p around opener l b q (landing t (end_region opener l b)) t w
next_busy low p around opener l b q rest r (Leaves k w) = tt
next_busy low p around opener l b q rest r (Away k t w) = tt
next_busy low p around opener l b q rest r (Retries w) = tt
next_busy low p around opener l b q rest r (Continues w) = tt
next_busy low p around opener l b q rest r (PassesOn w) = tt
next_busy low p around opener l b q rest r (Returns w) = tt
next_busy low p around opener l b q rest r (Ends t w) = tt

lines_busy : (low : Lower) (opener l : ℕ) (b : Block) → BusyLower low opener l b → (rest : Block) (p : Place) (around : Around) (w : World) → Busy (lines low p around (end_region opener l b) rest w)
lines_busy low opener l b q NoStmts p around w = end_busy low p around opener l b w.left w
lines_busy low opener l b q (MoreStmts s rest) p around w =
    next_busy low p around opener l b q (λ w1. lines low p around (end_region opener l b) rest w1) (λ w1. lines_busy low opener l b q rest p around w1) (stmt low p around s w)

level_busy : (n opener l : ℕ) (b : Block) → BusyLower (level n) opener l b
unfolding level
level_busy zero opener l b p around rest w = tt
level_busy (suc n) opener l b p around rest w = lines_busy (level n) opener l b (level_busy n opener l b) rest p around w

-- more steps change nothing of a run that has ended

longer : (image : Image) (j k : ℕ) (c : State) (e : RunEnd) → j ≤ k → exec image j c ≡ Some e → exec image k c ≡ Some e
unfolding exec
longer image j k (Over f) e h is = is
longer image zero k (Run body pc stack acts callers w) e h is = let bad : None ≡ Some e = is in absurd cc
longer image (suc j) zero (Run body pc stack acts callers w) e h is = absurd (omega arith)
longer image (suc j) (suc k) (Run body pc stack acts callers w) e h is = longer image j k (step image body pc stack acts callers w) e (omega arith) is

one_end : (image : Image) (j k : ℕ) (c : State) (e f : RunEnd) → exec image j c ≡ Some e → exec image k c ≡ Some f → e ≡ f
one_end image j k c e f p q =
    ⊎_elim
    (λ h. let r : Some e ≡ Some f = sym (longer image j k c e (omega arith) p) ∙ q in cc)
    (λ h. let r : Some e ≡ Some f = sym p ∙ longer image k j c f h q in cc)
    (cases_lt j k)

over_now : (image : Image) (e : RunEnd) → exec image 0 (Over e) ≡ Some e
unfolding exec
over_now image e = refl

module _ (image : Image) (text : Text) (p : Program) (at : ProgramAt text p) (found : slice_get image.procs text.body ≡ Some text.proc) (named : text.unit ≡ p.name) where
  -- the program's invocation, behind that of the modules, which have no cells
  abbrev invocation : Invocation
  invocation = record { refs = own_refs 1; frame = record { own = slots_from 0 (length at.numbered.order); container = []; first = 0 }; shape = at.numbered.order ∷ ([] ∷ []) }

  abbrev top : Stand
  top = record { acts = []; callers = []; run = OfBody; inv = invocation }

  sees : (y : Variable) (q : slot.Place) → text.places y ≡ Some q → SeenAt y q invocation
  sees y q is =
      let s = at.numbered.placed y q is in
      record {
        spot = record { cell = s.0 };
        is = ap (λ k. spot_of k invocation.frame) s.1 ∙ own_slot at.numbered.order s.0 y s.2;
        lives = inl (record { same = refl; slot = s.0; at = s.2; cell = let e : s.0 ≡ 0 + s.0 = omega arith in e });
      }

  good_top : Good image text top
  good_top = record {
    body = found;
    unit = at.unit ∙ sym named;
    list = λ pc. ap (λ g. handlers_at g pc []) at.guards;
    sees = sees;
    distinct = (at.numbered.distinct, ((λ s t y e f. let bad : None ≡ Some y = e in absurd cc), tt));
  }

  abbrev start_world : ℕ → List ℕ → World
  start_world n input = with_cells (with_fresh 1 (first_world n input).cells) (first_world n input)

  -- the machine's start shows the start of the meaning
  starts : (n : ℕ) (input : List ℕ) → Run text.body 0 [] [] [] (with_cells (entered text.proc.slots empty_memory) (first_world n input)) ≡ run_at text 0 top (start_world n input)
  starts n input =
      ap (λ k. Run text.body 0 [] [] [] (with_cells (entered k empty_memory) (first_world n input))) at.numbered.slots
      ∙ ap (λ cs. Run text.body 0 [] [] [] (with_cells (record { cells = cs; frame = invocation.frame }) (first_world n input))) (sym (fresh_cells (λ x. with_fresh 1 (first_world n input).cells 1 x) at.numbered.order (λ y. refl)))

  -- what is reached at the top is the end of the run
  ends : (n : ℕ) (c : State) (o : Outcome) → Busy o → Reaches image text n top (λ t. None) at.end c o → Goes image c (Over (end_of o)) × (end_of o ≢ Lost)
  ends n c (Normal w) b r = absurd b
  ends n c (Jumps t w) b r = absurd (never_ready image text r.1.pc t r.1.jump)
  ends n c (Leaves k w) b r = absurd r
  ends n c (Away k t w) b r = absurd r
  ends n c (Retries w) b r = absurd r
  ends n c (Continues w) b r = absurd r
  ends n c (PassesOn w) b r = absurd r
  ends n c (Returns w) b r = absurd r
  ends n c (Ends (Raised x) w) b r = (r.1, λ e. cc)
  ends n c (Ends Halted w) b r = (r, λ e. cc)
  ends n c (Ends Finished w) b r = absurd r
  ends n c (Ends (Chained program values) w) b r = absurd r
  ends n c (Ends Beyond w) b r = (r, λ e. cc)
  ends n c (Ends Undefined w) b r = absurd r

  same_place : place_of text top ≡ program_place p
  same_place = ap (λ u. record { handlers = []; run = OfBody; depth = 1; unit = u; refs = own_refs 1 }) named

  busy : (n : ℕ) (w : World) → Busy (lines (level n) (program_place p) outermost (program_region p) p.body w)
  busy n w =
      subst (λ k. Busy (lines (level n) (program_place p) outermost (record { block = p.body; closing = ClosedBy 0 (record { line = p.close.line; item = k }) }) p.body w)) (sym at.closes)
      (lines_busy (level n) 0 p.close.line p.body (level_busy n 0 p.close.line p.body) p.body (program_place p) outermost w)

  pub top_ends : (n : ℕ) (input : List ℕ) → Goes image (Run text.body 0 [] [] [] (with_cells (entered text.proc.slots empty_memory) (first_world n input))) (Over (end_of (run_program p (first_world n input)))) × (end_of (run_program p (first_world n input)) ≢ Lost)
  top_ends n input =
      let w = start_world n input in
      let r = tight image text n top (λ t. None) at.end (run_at text 0 top w) _ (lines_sim image text (level n) p.body n (level_sim image text n) top_static (program_region p) 0 0 at.end top w good_top at.code at.code (omega arith)) in
      let q = ends (suc n) (run_at text 0 top w) (run_program p (first_world n input)) (busy n w) (subst (λ k. Reaches image text (suc n) top (λ t. None) at.end (run_at text 0 top w) (lines (level n) k outermost (program_region p) p.body w)) same_place r) in
      (goes_to_from (starts n input) q.0, q.1)
    where
      goes_to_from : {c d e : State} → c ≡ d → Goes image d e → Goes image c e
      goes_to_from {c} {d} {e} h g = subst (λ s. Goes image s e) (sym h) g

pub carried_agrees : CarriedAgrees
unfolding mean
carried_agrees image units c = record { does = does; only = λ n input e m. one_end image m.steps (does n input).steps (first_started image image.programs n input) e (mean units n input) m.ends (does n input).ends; defined = λ n input e. (top_ends image text c.program c.at c.is_body refl n input).1 (sym (meant n input) ∙ e) }
  where
    text : Text
    text = record { body = c.body; proc = c.proc; unit = c.program.name; places = c.places; addr = c.addr }

    meant : (n : ℕ) (input : List ℕ) → mean units n input ≡ end_of (run_program c.program (first_world n input))
    meant n input = ap (λ o. end_of (run_first o (first_world n input))) c.is_first

    begun : (n : ℕ) (input : List ℕ) → first_started image image.programs n input ≡ Run c.body 0 [] [] [] (with_cells (entered c.proc.slots empty_memory) (first_world n input))
    begun n input =
        ap (λ ps. first_started image ps n input) c.is_program
        ∙ ap (λ o. program_started o c.body n input) c.is_body

    does : (n : ℕ) (input : List ℕ) → Runs image n input (mean units n input)
    does n input =
        let g = (top_ends image text c.program c.at c.is_body refl n input).0.by 0 in
        record {
          steps = g.0;
          ends = ap (exec image g.0) (begun n input) ∙ g.1 ∙ over_now image (end_of (run_program c.program (first_world n input))) ∙ ap Some (sym (meant n input));
        }
