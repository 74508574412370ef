-- The whole: by recursion over the trees, and then over the lines left.
use Rattle.std.proofs.Common.{ℕ, zero, suc, ◌<◌, ◌≤◌, [], Option, ap, ◌∙◌, arith, le_refl}
use Rattle.bas_ast.specs.Tree.{Cond, If, Elseif, Else, Do, LineItem, OfPart, NumLine, Stmt, Single, Nest, Sections, NoSections, MoreSections, Block, NoStmts, MoreStmts}
use Rattle.bas_mean.specs.World.{World}
use Rattle.bas_mean.specs.Outcome.{Target, Outcome}
use Rattle.bas_mean.specs.Place.{Closing, Bare, ClosedBy, Region, Lower}
use Rattle.bas_mean.specs.Construct.{in_do, if_section}
use Rattle.bas_mean.specs.Meaning.{stmt, sections_from, lines, level}
use Rattle.bas_code.specs.declared.instr.Instr.TheVariants as instr
use Rattle.bas_code.specs.declared.instr.JumpInstr.TheVariants as jump
use Rattle.bas_code.specs.declared.body.Image.{Image}
use Rattle.bas_code.specs.State.{State}
use Rattle.bas_carry.specs.Text.{Text, Static, inside, looped}
use Rattle.bas_carry.specs.Shown.{shown}
use Rattle.bas_carry.specs.Constructs.{is_last, PartEndAt, IfSectionAt}
use Rattle.bas_carry.specs.Carries.{StmtAt, SectionsAt, LinesAt}
use Rattle.bas_carry.proofs.Steps.{Goes, stays, goes_to}
use Rattle.bas_carry.proofs.Reach.{Stand, place_of, run_at, Good, Reaches, Loosely, loose, tight, Sim, sim_less}
use Rattle.bas_carry.proofs.Laws.{executes}
use Rattle.bas_carry.proofs.Simple.{single_law}
use Rattle.bas_carry.proofs.Rows.{if_law, do_law, closing_law, outside, next_law}

module _ (image : Image) (text : Text) where
  -- a law for lines that begin with at most n left, for lines that begin with fewer than n
  below : (low : Lower) (x : Stand) (drops : Target → Option ℕ) (to : ℕ) (c : State) (o : Outcome) (w : World) → ((b : ℕ) → Sim image text low b → w.left < suc b → Loosely image text b x drops to c o) → (n : ℕ) → Sim image text low n → w.left < n → Reaches image text n x drops to c o
  below low x drops to c o w law zero sim h = absurd (omega arith)
  below low x drops to c o w law (suc b) sim h = tight image text b x drops to c o (law b (sim_less image text low b (suc b) (omega arith) sim) h)

  module _ (low : Lower) where
    -- the lines of a block do what they mean
    abbrev LinesLaw : Block → Type 0
    LinesLaw rest = (n : ℕ) → Sim image text low n → (st : Static) (r : Region) (top from to : ℕ) (x : Stand) (w : World) → Good image text x → LinesAt text (inside r st) r.closing r.block top to → LinesAt text (inside r st) r.closing rest from to → w.left < suc n → Loosely image text n x st.drops to (run_at text from x w) (lines low (place_of text x) st.around r rest w)

    -- the sections of a construct do
    abbrev SectionsLaw : Sections → NumLine → Type 0
    SectionsLaw sections close = (n : ℕ) → Sim image text low n → (st : Static) (from to : ℕ) (x : Stand) (w : World) → Good image text x → SectionsAt text st sections close from to → w.left < suc n → Loosely image text n x st.drops to (run_at text from x w) (sections_from low (place_of text x) st.around sections close w)

    -- from the end of a part to the end of the construct
    part_end : (st : Static) (x : Stand) (good : Good image text x) (rest : Sections) (close : NumLine) (last other to : ℕ) → PartEndAt text (is_last rest) last other to → SectionsAt text st rest close other to → (w : World) → Goes image (run_at text last x w) (run_at text to x w)
    part_end st x good NoSections close last other to p q w = goes_to image _ _ _ (ap (λ t. run_at text t x w) (p ∙ q)) (stays image _)
    part_end st x good (MoreSections head body rest) close last other to p q w = executes image text x good (instr.Jump (jump.Jump to)) last [] (shown x.inv w) p.0

    -- the block of a section, from its first line
    block_from : (n : ℕ) (sim : Sim image text low n) (x : Stand) (good : Good image text x) (inner : Static) (closing : Closing) (body : Block) (from to : ℕ) → LinesLaw body → LinesAt text (inside (record { block = body; closing = closing }) inner) closing body from to → (w : World) → w.left < n → Reaches image text n x inner.drops to (run_at text from x w) (lines low (place_of text x) inner.around (record { block = body; closing = closing }) body w)
    block_from n sim x good inner closing body from to law at w h =
        below low x inner.drops to (run_at text from x w) _ w (λ b s hb. law b s inner (record { block = body; closing = closing }) from from to x w good at at hb) n sim h

    rest_from : (n : ℕ) (sim : Sim image text low n) (x : Stand) (good : Good image text x) (st : Static) (rest : Sections) (close : NumLine) (from to : ℕ) → SectionsLaw rest close → SectionsAt text st rest close from to → (w : World) → w.left < n → Reaches image text n x st.drops to (run_at text from x w) (sections_from low (place_of text x) st.around rest close w)
    rest_from n sim x good st rest close from to law at w h =
        below low x st.drops to (run_at text from x w) _ w (λ b s hb. law b s st from to x w good at hb) n sim h

    -- IF and ELSEIF
    if_sections : (l : ℕ) (item : LineItem) (c : Cond) (close : NumLine) (body : Block) (rest : Sections) → LinesLaw body → SectionsLaw rest close → (n : ℕ) → Sim image text low n → (st : Static) (from to : ℕ) (x : Stand) (w : World) → Good image text x → IfSectionAt text l c (is_last rest) (λ f t. LinesAt text (inside (record { block = body; closing = Bare }) st) Bare body f t) (λ f t. SectionsAt text st rest close f t) from to → w.left < suc n → Reaches image text n x st.drops to (run_at text from x w) (if_section low (place_of text x) st.around l c (Nest (MoreSections (record { line = l; item = item }) body rest) close) (λ inner closing w1. lines low (place_of text x) inner (record { block = body; closing = closing }) body w1) (λ w1. sections_from low (place_of text x) st.around rest close w1) w)
    if_sections l item c close body rest lb lr n sim st from to x w good at h =
        if_law image text n low x good st l c (is_last rest) (λ f t. LinesAt text (inside (record { block = body; closing = Bare }) st) Bare body f t) (λ f t. SectionsAt text st rest close f t) (Nest (MoreSections (record { line = l; item = item }) body rest) close)
        (λ inner closing w1. lines low (place_of text x) inner (record { block = body; closing = closing }) body w1) (λ w1. sections_from low (place_of text x) st.around rest close w1) from to at
        (λ w1 h1. block_from n sim x good st Bare body at.start at.last lb at.code w1 h1)
        (part_end st x good rest close at.last at.other to at.past at.rest)
        (λ w1 h1. rest_from n sim x good st rest close at.other to lr at.rest w1 h1)
        w h

    section_law : (l : ℕ) (item : LineItem) (close : NumLine) (body : Block) (rest : Sections) → LinesLaw body → SectionsLaw rest close → SectionsLaw (MoreSections (record { line = l; item = item }) body rest) close
    section_law l (OfPart (If c)) close body rest lb lr n sim st from to x w good at h =
        loose image text n x st.drops to (run_at text from x w) _ (if_sections l (OfPart (If c)) c close body rest lb lr n sim st from to x w good at h)
    section_law l (OfPart (Elseif c)) close body rest lb lr n sim st from to x w good at h =
        loose image text n x st.drops to (run_at text from x w) _ (if_sections l (OfPart (Elseif c)) c close body rest lb lr n sim st from to x w good at h)
    section_law l (OfPart Else) close body rest lb lr n sim st from to x w good at h =
        lb n sim st (record { block = body; closing = Bare }) from from to x w good at at h
    section_law l (OfPart (Do loopc)) close body rest lb lr n sim st from to x w good at h =
        loose image text n x st.drops to (run_at text from x w) _
        (do_law image text n low x good st l loopc close _ (Nest (MoreSections (record { line = l; item = OfPart (Do loopc) }) body rest) close)
        (λ inner closing w1. lines low (place_of text x) inner (record { block = body; closing = closing }) body w1) from to at
        (λ w1 h1. block_from n sim x good (looped l (in_do l st.around) st) (ClosedBy l close) body at.start at.last lb at.code w1 h1)
        (λ w1 h1. sim.stmt n (le_refl n) st (Nest (MoreSections (record { line = l; item = OfPart (Do loopc) }) body rest) close) from to x w1 good at h1)
        w h)
    section_law l _ close body rest lb lr n sim st from to x w good at h = absurd at

    mutual
      pub stmt_sim : (s : Stmt) (n : ℕ) → Sim image text low n → (st : Static) (from to : ℕ) (x : Stand) (w : World) → Good image text x → StmtAt text st s from to → w.left < suc n → Loosely image text n x st.drops to (run_at text from x w) (stmt low (place_of text x) st.around s w)
      stmt_sim (Single head) n sim st from to x w good at h =
          loose image text n x st.drops to (run_at text from x w) _ (single_law image text n x good st low head.line head.item (Single head) from to w at h)
      stmt_sim (Nest sections close) n sim st from to x w good at h = sections_sim sections close n sim st from to x w good at h

      pub sections_sim : (sections : Sections) (close : NumLine) → SectionsLaw sections close
      sections_sim NoSections close n sim st from to x w good at h = (h, goes_to image _ _ _ (ap (λ t. run_at text t x w) at) (stays image (run_at text from x w)))
      sections_sim (MoreSections head body rest) close n sim st from to x w good at h =
          section_law head.line head.item close body rest (lines_sim body) (sections_sim rest close) n sim st from to x w good at h

      pub lines_sim : (rest : Block) → LinesLaw rest
      lines_sim NoStmts n sim st r top from to x w good all at h = closing_law image text n low x good st r.block r.closing from to w (outside image text r st r.closing from to at) h
      lines_sim (MoreStmts s rest) n sim st r top from to x w good all at h =
          next_law image text n low sim x good st r top at.middle to (λ w1. lines low (place_of text x) st.around r rest w1) (run_at text from x w) (stmt low (place_of text x) st.around s w) all
          (stmt_sim s n sim (inside r st) from at.middle x w good at.first h)
          (λ w1 h1. lines_sim rest n sim st r top at.middle to x w1 good all at.rest h1)

  -- each level does what it means
  upper : (n b : ℕ) → b ≤ suc n → (P : ℕ → Type 0) (w : World) → w.left < b → ((m : ℕ) → m ≤ n → w.left < suc m → P (suc m)) → P b
  upper n zero hb P w h f = absurd (omega arith)
  upper n (suc m) hb P w h f = f m (omega arith) h

  pub level_sim : (n : ℕ) → Sim image text (level n) n
  unfolding level
  level_sim zero = record {
    stmt = λ b hb st s from to x w good at h. absurd (omega arith);
    lines = λ b hb st r rest top from to x w good all at h. absurd (omega arith);
  }
  level_sim (suc n) =
      let ih = level_sim n in
      record {
        stmt = λ b hb st s from to x w good at h.
            upper n b hb (λ k. Reaches image text k x st.drops to (run_at text from x w) (stmt (level n) (place_of text x) st.around s w)) w h
            (λ m hm h1. tight image text m x st.drops to (run_at text from x w) _ (stmt_sim (level n) s m (sim_less image text (level n) m n hm ih) st from to x w good at h1));
        lines = λ b hb st r rest top from to x w good all at h.
            upper n b hb (λ k. Reaches image text k x st.drops to (run_at text from x w) (lines (level n) (place_of text x) st.around r rest w)) w h
            (λ m hm h1. tight image text m x st.drops to (run_at text from x w) _ (lines_sim (level n) rest m (sim_less image text (level n) m n hm ih) st r top from to x w good all at h1));
      }
