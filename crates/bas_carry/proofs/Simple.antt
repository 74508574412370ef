-- The simple lines.
use Rattle.std.proofs.Common.{ℕ, suc, ◌<◌, ◌≤◌, List, [], ◌∷◌, Option, Some, None, sym, ap, ◌∙◌, arith, inl}
use Rattle.bas_dec.specs.Number.{Number}
use Rattle.bas_dec.specs.Text.{text_of}
use Rattle.bas_ast.specs.Tree.{Expr, Target, Variable, NoExprs, MoreExprs, Sep, Pitem, Printed, Tab, Plain, Let, Print, Goto, ExitDo, Simple, Alone, LineItem, Nothing, Rem, OfSimple, Stmt}
use Rattle.bas_mean.specs.World.{OfName, Ref, World, with_cells, seen}
use Rattle.bas_mean.specs.Printing.{with_item, with_line_ended}
use Rattle.bas_mean.specs.Outcome.{Gives, then_with, Next, Onward, Jump, Back, Finish, Halt, Retry, Continue, PassOn, Normal, follow, Ended}
use Rattle.bas_mean.specs.Place.{Here, here_at, Lower}
use Rattle.bas_mean.specs.Expression.{stored, number}
use Rattle.bas_mean.specs.Simple.{store, target_ref, let_words, print_words, exit_words, plain_words, simple_words}
use Rattle.bas_mean.specs.Construct.{remark_line, single}
use Rattle.bas_code.specs.declared.instr.Instr.TheVariants as instr
use Rattle.bas_code.specs.declared.instr.PushInstr.TheVariants as push
use Rattle.bas_code.specs.declared.instr.StoreInstr.TheVariants as stores
use Rattle.bas_code.specs.declared.instr.PrintInstr.TheVariants as print
use Rattle.bas_code.specs.declared.instr.TheConstants.{TERMINAL}
use Rattle.bas_code.specs.declared.body.Image.{Image}
use Rattle.bas_code.specs.State.{Spot, MachineWorld, Operand, ANumber, ASpot, State, Run, Over}
use Rattle.bas_code.specs.Machine.{with_some, with_number_at}
use Rattle.bas_carry.specs.Text.{Text, Static, NoneAt, OneAt, LineAt}
use Rattle.bas_carry.specs.Shown.{shown, Lives}
use Rattle.bas_carry.specs.Simples.{TargetAt, LetAt, PrintAt, ExitAt, PlainAt, SimpleAt}
use Rattle.bas_carry.specs.Constructs.{SingleAt}
use Rattle.bas_carry.proofs.Steps.{Goes, stays, goes_on, goes_to}
use Rattle.bas_carry.proofs.Cells.{look_law, store_law}
use Rattle.bas_carry.proofs.Reach.{Stand, place_of, run_at, Good, JumpReached, Reaches, Comes}
use Rattle.bas_carry.proofs.Laws.{at_with, executes, comes_from, comes_then, line_law}
use Rattle.bas_carry.proofs.Numbers.{here, Rows, rows_in, pushed, number_law}
use Rattle.bas_carry.proofs.Grows.{expr_grows}

module _ (image : Image) (text : Text) (n : ℕ) (x : Stand) (good : Good image text x) (st : Static) where
  -- where the words of a simple line lead
  abbrev pub Follows : (to : ℕ) → State → Next → World → Type 0
  Follows to c Onward w = Goes image c (run_at text to x w)
  Follows to c (Jump t) w = JumpReached image text x st.drops c t w
  Follows to c Back w = ⊥
  Follows to c Finish w = ⊥
  Follows to c Halt w = Goes image c (Over (Ended (seen w)))
  Follows to c Retry w = ⊥
  Follows to c Continue w = ⊥
  Follows to c PassOn w = ⊥

  pub follow_law : (to : ℕ) (c : State) (v : Next) (w : World) → w.left < n → Follows to c v w → Reaches image text n x st.drops to c (follow v w)
  follow_law to c Onward w h f = (h, f)
  follow_law to c (Jump t) w h f = (h, f)
  follow_law to c Back w h f = absurd f
  follow_law to c Finish w h f = absurd f
  follow_law to c Halt w h f = f
  follow_law to c Retry w h f = absurd f
  follow_law to c Continue w h f = absurd f
  follow_law to c PassOn w h f = absurd f

  module _ (l start end next : ℕ) where
    abbrev there : Here
    there = here image text n x good st.around l start end next

    abbrev LineRows : (from to : ℕ) → Type 0
    LineRows from to = Rows image text n x good st.around l start end next from to

    abbrev on_stack : ℕ → List Operand → Number → MachineWorld → State
    on_stack = pushed image text n x good st.around l start end next

    -- a reference stands on the stack, with the cell of what is referred to
    pub record Referred (c : State) (to : ℕ) (r : Ref) (w : World) : Type 0 where
      pub spot : Spot
      pub lives : Lives x.inv.shape r spot.cell
      pub goes : Goes image c (at_with image text to (ASpot spot ∷ []) x (shown x.inv w))

    target_law : (t : Target) (from to : ℕ) (w : World) → TargetAt text t from to → w.left < n → Comes image text n x (run_at text from x w) (Referred (run_at text from x w) to) (target_ref there t w)
    target_law (Variable name NoExprs) from to w at h =
        let s = good.sees (OfName name) at.place at.is in (
          h,
          record {
            spot = s.spot;
            lives = s.lives;
            goes = goes_to image _ _ _
                (ap (λ o. with_some o (λ m. Run text.body (suc from) (ASpot m ∷ []) x.acts x.callers (shown x.inv w))) s.is
                ∙ ap (λ p. at_with image text p (ASpot s.spot ∷ []) x (shown x.inv w)) at.end)
                (executes image text x good (instr.Push (push.Ref at.place)) from [] (shown x.inv w) at.at);
          },
        )
    target_law (Variable name (MoreExprs e rest)) from to w at h = absurd at

    store_goes : (r : Ref) (spot : Spot) (v : Number) (from to : ℕ) (w : World) → Lives x.inv.shape r spot.cell → OneAt text (instr.Store (stores.Store 1)) from to → Goes image (at_with image text from (ANumber v ∷ ASpot spot ∷ []) x (shown x.inv w)) (run_at text to x (stored r v w))
    store_goes r spot v from to w lives at =
        goes_to image _ _ _
        (ap (λ o. with_some o (λ c. Run text.body (suc from) [] x.acts x.callers (with_number_at spot c v (shown x.inv w)))) (look_law x.inv.shape w.cells r spot.cell lives)
        ∙ ap (λ cs. Run text.body (suc from) [] x.acts x.callers (with_cells (record { cells = cs; frame = x.inv.frame }) (shown x.inv w))) (sym (store_law x.inv.shape w.cells r spot.cell (record (w.cells r.invocation r.variable) { number = v }) good.distinct lives))
        ∙ ap (λ t. run_at text t x (stored r v w)) at.end)
        (executes image text x good (instr.Store (stores.Store 1)) from (ANumber v ∷ ASpot spot ∷ []) (shown x.inv w) at.at)

    let_law : (targets : List Target) (e : Expr) (from to : ℕ) (w : World) → LetAt text targets e from to → LineRows from to → w.left < n → Comes image text n x (run_at text from x w) (Follows to (run_at text from x w)) (let_words there targets e w)
    let_law [] e from to w at rows h = absurd at
    let_law (t ∷ u ∷ ts) e from to w at rows h = absurd at
    let_law (t ∷ []) e from to w at rows h =
        let s = target_below t from at.middle at.first in
        let q = expr_grows text e at.middle at.second.middle at.second.first in
        let k = at.second.second.end in
        comes_then image text n x (run_at text from x w) (Referred (run_at text from x w) at.middle) (Follows to (run_at text from x w)) (target_ref there t w) (λ r w1. then_with (number there e w1) (λ v w2. store there r v w2))
        (target_law t from at.middle w at.first h)
        (λ r w1 h1 ref. comes_from image text n x (run_at text from x w) (at_with image text at.middle (ASpot ref.spot ∷ []) x (shown x.inv w1)) (Follows to (at_with image text at.middle (ASpot ref.spot ∷ []) x (shown x.inv w1))) (Follows to (run_at text from x w)) (then_with (number there e w1) (λ v w2. store there r v w2)) ref.goes
        (moved (run_at text from x w) (at_with image text at.middle (ASpot ref.spot ∷ []) x (shown x.inv w1)) ref.goes)
        (comes_then image text n x (at_with image text at.middle (ASpot ref.spot ∷ []) x (shown x.inv w1)) (λ v w2. Goes image (at_with image text at.middle (ASpot ref.spot ∷ []) x (shown x.inv w1)) (on_stack at.second.middle (ASpot ref.spot ∷ []) v (shown x.inv w2))) (Follows to (at_with image text at.middle (ASpot ref.spot ∷ []) x (shown x.inv w1))) (number there e w1) (λ v w2. store there r v w2)
        (number_law image text n x good st.around l start end next e at.middle at.second.middle (ASpot ref.spot ∷ []) w1 at.second.first (rows_in image text n x good st.around l start end next from to at.middle at.second.middle s (omega (arith, k)) rows) h1)
        (λ v w2 h2 g. (h2, goes_on image _ _ _ g (store_goes r ref.spot v at.second.middle to w2 ref.lives at.second.second)))))
      where
        target_below : (t1 : Target) (f g : ℕ) → TargetAt text t1 f g → f ≤ g
        target_below (Variable name NoExprs) f g a = let z = a.end in omega (arith, z)
        target_below (Variable name (MoreExprs e1 rest)) f g a = absurd a

        moved : (c d : State) → Goes image c d → (v : Next) (w3 : World) → Follows to d v w3 → Follows to c v w3
        moved c d g Onward w3 f = goes_on image c d _ g f
        moved c d g (Jump t1) w3 f = record { pc = f.pc; jump = f.jump; goes = goes_on image c d _ g f.goes }
        moved c d g Back w3 f = f
        moved c d g Finish w3 f = f
        moved c d g Halt w3 f = goes_on image c d _ g f
        moved c d g Retry w3 f = f
        moved c d g Continue w3 f = f
        moved c d g PassOn w3 f = f

    end_printed : (from to : ℕ) (w : World) → OneAt text (instr.Print (print.PrintEnd TERMINAL)) from to → Goes image (run_at text from x w) (run_at text to x (with_line_ended w))
    end_printed from to w at =
        goes_to image _ _ _ (ap (λ t. run_at text t x (with_line_ended w)) at.end) (executes image text x good (instr.Print (print.PrintEnd TERMINAL)) from [] (shown x.inv w) at.at)

    item_printed : (v : Number) (from to : ℕ) (w : World) → OneAt text (instr.Print (print.PrintNum TERMINAL)) from to → Goes image (on_stack from [] v (shown x.inv w)) (run_at text to x (with_item (text_of v) w))
    item_printed v from to w at =
        goes_to image _ _ _ (ap (λ t. run_at text t x (with_item (text_of v) w)) at.end) (executes image text x good (instr.Print (print.PrintNum TERMINAL)) from (ANumber v ∷ []) (shown x.inv w) at.at)

    print_law : (first : Option Pitem) (rest : List (Sep × Option Pitem)) (from to : ℕ) (w : World) → PrintAt text first rest from to → LineRows from to → w.left < n → Comes image text n x (run_at text from x w) (Follows to (run_at text from x w)) (print_words there first rest w)
    print_law None [] from to w at rows h = (h, end_printed from to w at)
    print_law (Some (Printed e)) [] from to w at rows h =
        let k = at.second.first.end in
        let j = at.second.second.end in
        comes_then image text n x (run_at text from x w) (λ v w1. Goes image (run_at text from x w) (on_stack at.middle [] v (shown x.inv w1))) (Follows to (run_at text from x w)) (number there e w) (λ v w1. Gives Onward (with_line_ended (with_item (text_of v) w1)))
        (number_law image text n x good st.around l start end next e from at.middle [] w at.first (rows_in image text n x good st.around l start end next from to from at.middle (omega arith) (omega (arith, k, j)) rows) h)
        (λ v w1 h1 g. (h1, goes_on image _ _ _ (goes_on image _ _ _ g (item_printed v at.middle at.second.middle w1 at.second.first)) (end_printed at.second.middle to (with_item (text_of v) w1) at.second.second)))
    print_law None (s ∷ rest) from to w at rows h = absurd at
    print_law (Some (Printed e)) (s ∷ rest) from to w at rows h = absurd at
    print_law (Some (Tab e)) rest from to w at rows h = absurd at

    exit_law : (d : Option ℕ) (from to : ℕ) (w : World) → ExitAt text st d from to → w.left < n → Comes image text n x (run_at text from x w) (Follows to (run_at text from x w)) (exit_words d w)
    exit_law None from to w at h = absurd at
    exit_law (Some m) from to w at h = (h, record { pc = from; jump = inl at.jump; goes = stays image (run_at text from x w) })

    plain_law : (plain : Plain) (from to : ℕ) (w : World) → PlainAt text st plain from to → LineRows from to → w.left < n → Comes image text n x (run_at text from x w) (Follows to (run_at text from x w)) (plain_words there plain w)
    plain_law (Let targets e) from to w at rows h = let_law targets e from to w at rows h
    plain_law (Print list) from to w at rows h = print_law list.first list.rest from to w at rows h
    plain_law (Goto m) from to w at rows h = (h, record { pc = from; jump = inl at.jump; goes = stays image (run_at text from x w) })
    plain_law ExitDo from to w at rows h = exit_law st.around.do_line from to w at h
    plain_law _ from to w at rows h = absurd at

    pub simple_law : (s : Simple) (from to : ℕ) (w : World) → SimpleAt text st s from to → LineRows from to → w.left < n → Comes image text n x (run_at text from x w) (Follows to (run_at text from x w)) (simple_words there s w)
    simple_law (Alone plain) from to w at rows h = plain_law plain from to w at rows h
    simple_law _ from to w at rows h = absurd at

  -- a remark or an empty line
  remark_law : (low : Lower) (l : ℕ) (whole : Stmt) (from to : ℕ) (w : World) → LineAt text l to (NoneAt text) from to → w.left < suc n → Reaches image text n x st.drops to (run_at text from x w) (remark_line low (place_of text x) st.around l whole w)
  remark_law low l whole from to w at h =
      line_law image text n low x good st.drops l from to (low.stmt (place_of text x) st.around whole) Normal (λ w1 v w2. Follows to (run_at text (suc from) x w1) v w2) (Gives Onward) follow at.mark
      (λ w1 h1. (h1, goes_to image _ _ _ (ap (λ t. run_at text t x w1) at.code.none) (stays image (run_at text (suc from) x w1))))
      (λ w1 v w2 h2 f. follow_law to (run_at text (suc from) x w1) v w2 h2 f)
      w h

  -- a line alone
  pub single_law : (low : Lower) (l : ℕ) (item : LineItem) (whole : Stmt) (from to : ℕ) (w : World) → SingleAt text st (record { line = l; item = item }) from to → w.left < suc n → Reaches image text n x st.drops to (run_at text from x w) (single low (place_of text x) st.around (record { line = l; item = item }) whole w)
  single_law low l Nothing whole from to w at h = remark_law low l whole from to w at h
  single_law low l (Rem bytes) whole from to w at h = remark_law low l whole from to w at h
  single_law low l (OfSimple s) whole from to w at h =
      line_law image text n low x good st.drops l from to (low.stmt (place_of text x) st.around whole) Normal (λ w1 v w2. Follows to (run_at text (suc from) x w1) v w2) (simple_words (here_at (place_of text x) st.around l) s) follow at.mark
      (λ w1 h1. simple_law l from to to s (suc from) to w1 at.code (λ pc a b. at.row pc (omega arith) b) h1)
      (λ w1 v w2 h2 f. follow_law to (run_at text (suc from) x w1) v w2 h2 f)
      w h
  single_law low l _ whole from to w at h = absurd at
