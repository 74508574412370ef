-- What the functions make of a program carries it.
use Rattle.std.proofs.Common.{◌≡◌, ℕ, suc, ◌+◌, Bool, true, false, List, [], ◌∷◌, ◌++◌, length, Option, Some, None, refl, sym, ap, ◌∙◌, subst, arith, is_some, ⊎_elim}
use Rattle.std.specs.Prelude.{◌&&◌, ◌||◌, slice_get}
use Rattle.std.proofs.lemmas.Bool.{eq-eqb}
use Rattle.bas_ast.specs.Tree.{Cond, Loopc, Alone, IfThen, OnGoto, OnGosub, If, Elseif, Else, Do, Loop, End, LineItem, Nothing, Rem, OfSimple, OfPart, NumLine, Stmt, Single, Nest, Sections, NoSections, MoreSections, Block, NoStmts, MoreStmts, Program}
use Rattle.bas_mean.specs.World as world
use Rattle.bas_mean.specs.Outcome.{Target, EndOf, TurnOf}
use Rattle.bas_mean.specs.Place.{Around, Closing, Bare, ClosedBy, Region}
use Rattle.bas_mean.specs.Block.{landing, Hit, Past, Round, Elsewhere, hit, hit_if}
use Rattle.bas_mean.specs.Construct.{in_do}
use Rattle.bas_mean.specs.Meaning.{outermost, program_region}
use Rattle.bas_mean.specs.Built.{is_built_cond, is_built_loopc, is_end_if, is_built_single, is_built_loop, is_built_stmt, are_built_sections, is_built_block, is_end}
use Rattle.bas_mean.specs.Jumps.{near_in, is_hit, near_in_loop, jumps_in_item, jumps_in_stmt, jumps_in_sections, jumps_in_block}
use Rattle.bas_code.specs.declared.instr.Place as slot
use Rattle.bas_code.specs.declared.instr.Space.TheVariants.{Own}
use Rattle.bas_code.specs.declared.instr.Instr.TheVariants as instr
use Rattle.bas_code.specs.declared.instr.JumpInstr.TheVariants as jump
use Rattle.bas_code.specs.declared.body.LineEntry.{LineEntry}
use Rattle.bas_code.specs.declared.body.Proc.{Proc}
use Rattle.bas_carry.specs.Text.{Text, Static, near_if, near_hit, inside, looped, At, NoneAt, RowAt, LineAt}
use Rattle.bas_carry.specs.Constructs.{is_last, PartEndAt, IfSectionAt, DoSectionAt, ClosingAt, SingleAt}
use Rattle.bas_carry.specs.Carries.{StmtAt, SectionsAt, LinesAt, top_static, ProgramAt}
use Rattle.bas_carry.specs.Slots.{in_cond, in_loopc, in_line, in_stmt, in_sections, in_block, index_of, slots_of}
use Rattle.bas_carry.specs.Codes.{cond_size, loopc_size, single_size, closing_size, part_end_size, sections_size, stmt_size, block_size, unless_code, loopc_code, single_code, closing_code, part_end_code, if_section_code, do_section_code, stmt_code, sections_code, block_code, program_code}
use Rattle.bas_carry.specs.Tables.{entry, single_rows, closing_rows, if_section_rows, do_section_rows, stmt_rows, sections_rows, block_rows, closing_labels, stmt_labels, sections_labels, block_labels, addresses_of, program_rows, Sound, IsMade, MadeIsCarried}
use Rattle.bas_carry.proofs.Lengths.{unless_length, loopc_length, closing_length, stmt_length, block_length, program_length}
use Rattle.bas_carry.proofs.Stands.{both_left, both_right, placed, Covered, covered_front, covered_back, StandsAt, stand_split, stand_all, AgreesOn, unless_stands, loopc_stands, simple_stands}
use Rattle.bas_carry.proofs.Entries.{Finds, FindsAll, finds_front, finds_back, finds_own, Within, within_both, block_within, closing_within}
use Rattle.bas_carry.proofs.Targets.{Solves, solves_front, solves_back, program_solves}
use Rattle.bas_carry.proofs.Numbering.{first_distinct, index_get, all_first, all_covered, all_used, none_first}

module _ (text : Text) (order : List world.Variable) (places : (x : world.Variable) → text.places x ≡ placed (index_of order x)) where
  abbrev RowsStand : List LineEntry → Type 0
  RowsStand rows = FindsAll text.proc.lines rows

  row_moved : (l start end end' next next' : ℕ) → end ≡ end' → next ≡ next' → Finds text.proc.lines (entry l start end next) → RowAt text l start end' next'
  row_moved l start end end' next next' p q f = subst (λ k. RowAt text l start end' k) q (subst (λ k. RowAt text l start k next) p f)

  -- inside a region the region's own lines are near
  inside_agrees : (st : Static) (near : Target → Bool) (r : Region) → AgreesOn text order places st near → AgreesOn text order places (inside r st) (near_in r near)
  inside_agrees st near r g t e = by (landing t r) e
    where
      by : (o : Option Block) → (is_some o || near t) ≡ true → near_if o (st.drops t) ≡ Some 0
      by None h = g t h
      by (Some b) h = refl

  looped_agrees : (st : Static) (near : Target → Bool) (l : ℕ) (around : Around) → AgreesOn text order places st near → AgreesOn text order places (looped l around st) (near_in_loop l near)
  looped_agrees st near l around g t e = by (hit t l) e
    where
      by : (h : Hit) → (is_hit h || near t) ≡ true → near_hit h (st.drops t) ≡ Some 0
      by Past q = refl
      by Round q = refl
      by Elsewhere q = g t q

  -- a remark or an empty line
  remark_stands : (st : Static) (l from to : ℕ) → to ≡ from + 1 → At text from (instr.Mark l) → Finds text.proc.lines (entry l from (suc from) (suc from)) → LineAt text l to (NoneAt text) from to
  remark_stands st l from to e mark row = record {
    mark = mark;
    row = row_moved l from (suc from) to (suc from) to (omega (arith, e)) (omega (arith, e)) row;
    code = record { none = omega (arith, e) };
  }

  -- a line alone
  single_stands : (st : Static) (near : Target → Bool) (l : ℕ) (item : LineItem) (from to : ℕ) → AgreesOn text order places st near → is_built_single item ≡ true → Covered order (in_line item) → jumps_in_item st.around near item ≡ true → to ≡ from + single_size item → StandsAt text from (single_code order text.addr st.around l item) → RowsStand (single_rows l item from) → SingleAt text st (record { line = l; item = item }) from to
  single_stands st near l Nothing from to g b v j e c f = remark_stands st l from to e c.0 f.0
  single_stands st near l (Rem bytes) from to g b v j e c f = remark_stands st l from to e c.0 f.0
  single_stands st near l (OfSimple (Alone plain)) from to g b v j e c f = record {
    mark = c.0;
    row = row_moved l from (from + single_size (OfSimple (Alone plain))) to (from + single_size (OfSimple (Alone plain))) to (sym e) (sym e) f.0;
    code = simple_stands text order places st near plain (suc from) to g b v j (omega (arith, e)) c.1;
  }
  single_stands st near l (OfSimple (IfThen x p q)) from to g b v j e c f = let bad : false ≡ true = b in absurd cc
  single_stands st near l (OfSimple (OnGoto x ls p)) from to g b v j e c f = let bad : false ≡ true = b in absurd cc
  single_stands st near l (OfSimple (OnGosub x ls p)) from to g b v j e c f = let bad : false ≡ true = b in absurd cc
  single_stands st near l _ from to g b v j e c f = let bad : false ≡ true = b in absurd cc

  -- LOOP
  loop_stands : (st : Static) (opener l : ℕ) (item : LineItem) (from to behind : ℕ) → is_built_loop item ≡ true → Covered order (in_line item) → st.drops (EndOf opener) ≡ Some 0 → behind ≡ text.addr (EndOf opener) → to ≡ from + closing_size item → StandsAt text from (closing_code order text.addr opener l item from) → RowsStand (closing_rows l item from behind) → Solves text.addr (closing_labels l item from) → ClosingAt text st (ClosedBy opener (record { line = l; item = item })) from to
  loop_stands st opener l (OfPart (Loop loopc)) from to behind b v d q e c f s = record {
    here = s.0;
    mark = c.0;
    row = row_moved l from (suc (from + closing_size (OfPart (Loop loopc)))) (suc to) behind (text.addr (EndOf opener)) (ap suc (sym e)) q f.0;
    test = loopc_stands text order places loopc (suc from) to (text.addr (EndOf opener)) b v (omega (arith, e)) c.1;
    near = d;
  }
  loop_stands st opener l _ from to behind b v d q e c f s = let bad : false ≡ true = b in absurd cc

  -- END
  end_stands : (st : Static) (opener l : ℕ) (item : LineItem) (from to behind : ℕ) → is_end item ≡ true → to ≡ from + closing_size item → StandsAt text from (closing_code order text.addr opener l item from) → RowsStand (closing_rows l item from behind) → Solves text.addr (closing_labels l item from) → ClosingAt text st (ClosedBy opener (record { line = l; item = item })) from to
  end_stands st opener l (OfPart End) from to behind b e c f s = record {
    here = s.0;
    line = record { mark = c.0; row = row_moved l from (from + 2) to from from (sym e) refl f.0; code = record { at = c.1.0; end = omega (arith, e) } };
  }
  end_stands st opener l _ from to behind b e c f s = let bad : false ≡ true = b in absurd cc

  -- what is known of a block
  abbrev BlockStands : Block → Type 0
  BlockStands b = (st : Static) (near : Target → Bool) (closing : Closing) (from to : ℕ) → AgreesOn text order places st near → is_built_block b ≡ true → Covered order (in_block b) → jumps_in_block st.around near b ≡ true → StandsAt text from (block_code order text.addr st.around b from) → RowsStand (block_rows b from) → Solves text.addr (block_labels b from) → ClosingAt text st closing (from + block_size b) to → LinesAt text st closing b from to

  -- and of the sections of a construct
  abbrev SectionsStand : Sections → NumLine → Type 0
  SectionsStand sections close = (st : Static) (near : Target → Bool) (from finish : ℕ) → AgreesOn text order places st near → are_built_sections sections close ≡ true → Covered order (in_sections sections) → Covered order (in_line close.item) → jumps_in_sections st.around near sections close ≡ true → finish ≡ from + sections_size sections close → StandsAt text from (sections_code order text.addr st.around sections close from finish) → RowsStand (sections_rows sections close from finish) → Solves text.addr (sections_labels sections close from finish) → SectionsAt text st sections close from finish

  part_end_stands : (final : Bool) (last other to : ℕ) → other ≡ last + part_end_size final → StandsAt text last (part_end_code order text.addr final to) → PartEndAt text final last other to
  part_end_stands true last other to e c = omega (arith, e)
  part_end_stands false last other to e c = (c.0, omega (arith, e))

  part_end_length : (final : Bool) (to : ℕ) → length (part_end_code order text.addr final to) ≡ part_end_size final
  part_end_length true to = refl
  part_end_length false to = refl

  -- IF and ELSEIF
  if_stands : (l : ℕ) (c : Cond) (close : NumLine) (body : Block) (rest : Sections) → BlockStands body → SectionsStand rest close → (st : Static) (near : Target → Bool) (from finish : ℕ) → AgreesOn text order places st near → is_built_cond c ≡ true → is_built_block body ≡ true → are_built_sections rest close ≡ true → Covered order (in_cond c) → Covered order (in_block body) → Covered order (in_sections rest) → Covered order (in_line close.item) → jumps_in_block st.around (near_in (record { block = body; closing = Bare }) near) body ≡ true → jumps_in_sections st.around near rest close ≡ true → finish ≡ from + (1 + (cond_size c + (block_size body + (part_end_size (is_last rest) + sections_size rest close)))) → StandsAt text from (if_section_code order text.addr l c (is_last rest) (block_size body) (λ from1. block_code order text.addr st.around body from1) (λ from1. sections_code order text.addr st.around rest close from1 finish) from finish) → RowsStand (if_section_rows l c (is_last rest) (block_size body) (λ from1. block_rows body from1) (λ from1. sections_rows rest close from1 finish) from finish) → Solves text.addr (block_labels body (suc from + cond_size c) ++ sections_labels rest close (suc from + (cond_size c + (block_size body + part_end_size (is_last rest)))) finish) → IfSectionAt text l c (is_last rest) (λ f t. LinesAt text (inside (record { block = body; closing = Bare }) st) Bare body f t) (λ f t. SectionsAt text st rest close f t) from finish
  if_stands l c close body rest hb hr st near from finish g bc bb br vc vb vr vl jb jr e code rows labels =
      let start : ℕ = suc from + cond_size c in
      let other : ℕ = suc from + (cond_size c + (block_size body + part_end_size (is_last rest))) in
      let p = stand_split text (unless_code order c (suc from) other) _ (suc from) (cond_size c) (unless_length order c (suc from) other) code.1 in
      let q = stand_split text (block_code order text.addr st.around body start) _ start (block_size body) (block_length order text.addr body st.around start) p.1 in
      let r = stand_split text (part_end_code order text.addr (is_last rest) finish) (sections_code order text.addr st.around rest close other finish) (start + block_size body) (part_end_size (is_last rest)) (part_end_length (is_last rest) finish) q.1 in
      record {
        mark = code.0;
        start = start;
        row = rows.0;
        other = other;
        test = unless_stands text order places c (suc from) start other bc vc refl p.0;
        last = start + block_size body;
        code = hb (inside (record { block = body; closing = Bare }) st) (near_in (record { block = body; closing = Bare }) near) Bare start (start + block_size body) (inside_agrees st near (record { block = body; closing = Bare }) g) bb vb jb q.0
            (finds_front text.proc.lines (block_rows body start) (sections_rows rest close other finish) rows.1)
            (solves_front text.addr (block_labels body start) (sections_labels rest close other finish) labels) refl;
        past = part_end_stands (is_last rest) (start + block_size body) other finish (omega arith) r.0;
        rest = hr st near other finish g br vr vl jr (omega (arith, e))
            (subst (λ k. StandsAt text k (sections_code order text.addr st.around rest close other finish)) (let z : suc from + cond_size c + block_size body + part_end_size (is_last rest) ≡ suc from + (cond_size c + (block_size body + part_end_size (is_last rest))) = omega arith in z) r.1)
            (finds_back text.proc.lines (block_rows body start) (sections_rows rest close other finish) rows.1)
            (solves_back text.addr (block_labels body start) (sections_labels rest close other finish) labels);
      }

  end_hit : (l : ℕ) (d : Option ℕ) → near_hit (hit (EndOf l) l) d ≡ Some 0
  end_hit l d = ap (λ b. near_hit (hit_if b Past) d) (eq-eqb l l refl)

  -- DO
  do_stands : (l : ℕ) (loopc : Option Loopc) (close : NumLine) (body : Block) → BlockStands body → (st : Static) (near : Target → Bool) (from finish : ℕ) → AgreesOn text order places st near → is_built_loopc loopc ≡ true → is_built_loop close.item ≡ true → is_built_block body ≡ true → Covered order (in_loopc loopc) → Covered order (in_block body) → Covered order (in_line close.item) → jumps_in_block (in_do l st.around) (near_in (record { block = body; closing = ClosedBy l close }) (near_in_loop l near)) body ≡ true → finish ≡ from + (1 + (loopc_size loopc + (block_size body + (closing_size close.item + 1)))) → StandsAt text from (do_section_code order text.addr l loopc close (block_size body) (λ from1. block_code order text.addr (in_do l st.around) body from1) from finish) → RowsStand (do_section_rows l loopc close (block_size body) (λ from1. block_rows body from1) from finish) → Solves text.addr ((EndOf l, finish) ∷ ((TurnOf l, from) ∷ (block_labels body (suc from + loopc_size loopc) ++ closing_labels close.line close.item (suc from + (loopc_size loopc + block_size body))))) → DoSectionAt text l loopc (λ f t. LinesAt text (inside (record { block = body; closing = ClosedBy l close }) (looped l (in_do l st.around) st)) (ClosedBy l close) body f t) from finish
  do_stands l loopc close body hb st near from finish g bl bc bb vl vb vc j e code rows labels =
      let start : ℕ = suc from + loopc_size loopc in
      let turn : ℕ = suc from + (loopc_size loopc + block_size body) in
      let region : Region = record { block = body; closing = ClosedBy l close } in
      let inner : Static = looped l (in_do l st.around) st in
      let p = stand_split text (loopc_code order loopc (suc from) finish) _ (suc from) (loopc_size loopc) (loopc_length order loopc (suc from) finish) code.1 in
      let q = stand_split text (block_code order text.addr (in_do l st.around) body start) _ start (block_size body) (block_length order text.addr body (in_do l st.around) start) p.1 in
      let moved = subst (λ k. StandsAt text k (closing_code order text.addr l close.line close.item turn ++ instr.Jump (jump.Jump from) ∷ [])) (let z : suc from + loopc_size loopc + block_size body ≡ suc from + (loopc_size loopc + block_size body) = omega arith in z) q.1 in
      let r = stand_split text (closing_code order text.addr l close.line close.item turn) (instr.Jump (jump.Jump from) ∷ []) turn (closing_size close.item) (closing_length order text.addr l close.line close.item turn) moved in
      record {
        mark = code.0;
        start = start;
        row = rows.0;
        test = loopc_stands text order places loopc (suc from) start finish bl vl refl p.0;
        last = turn + closing_size close.item;
        code = hb (inside region inner) (near_in region (near_in_loop l near)) (ClosedBy l close) start (turn + closing_size close.item) (inside_agrees inner (near_in_loop l near) region (looped_agrees st near l (in_do l st.around) g)) bb vb j q.0
            (finds_front text.proc.lines (block_rows body start) (closing_rows close.line close.item turn finish) rows.1)
            (solves_front text.addr (block_labels body start) (closing_labels close.line close.item turn) labels.1.1)
            (subst (λ k. ClosingAt text (inside region inner) (ClosedBy l close) k (turn + closing_size close.item)) (let z : suc from + (loopc_size loopc + block_size body) ≡ suc from + loopc_size loopc + block_size body = omega arith in z)
            (loop_stands (inside region inner) l close.line close.item turn (turn + closing_size close.item) finish bc vc (end_hit l (st.drops (EndOf l))) (sym labels.0) refl r.0
            (finds_back text.proc.lines (block_rows body start) (closing_rows close.line close.item turn finish) rows.1)
            (solves_back text.addr (block_labels body start) (closing_labels close.line close.item turn) labels.1.1)));
        back = r.1.0;
        end = omega (arith, e);
        behind = labels.0;
        again = labels.1.0;
      }

  section_stands : (l : ℕ) (item : LineItem) (close : NumLine) (body : Block) (rest : Sections) → BlockStands body → SectionsStand rest close → SectionsStand (MoreSections (record { line = l; item = item }) body rest) close
  section_stands l (OfPart (If c)) close body rest hb hr st near from finish g b v vl j e code rows labels =
      let b1 = both_left (is_built_cond c && is_end_if close.item) _ b in
      let b2 = both_right (is_built_cond c && is_end_if close.item) _ b in
      let v2 = covered_back order (in_cond c) (in_block body ++ in_sections rest) v in
      if_stands l c close body rest hb hr st near from finish g (both_left (is_built_cond c) _ b1) (both_left (is_built_block body) _ b2) (both_right (is_built_block body) _ b2) (covered_front order (in_cond c) (in_block body ++ in_sections rest) v) (covered_front order (in_block body) (in_sections rest) v2) (covered_back order (in_block body) (in_sections rest) v2) vl
      (both_left (jumps_in_block st.around (near_in (record { block = body; closing = Bare }) near) body) _ j) (both_right (jumps_in_block st.around (near_in (record { block = body; closing = Bare }) near) body) _ j) e code rows labels
  section_stands l (OfPart (Elseif c)) close body rest hb hr st near from finish g b v vl j e code rows labels =
      let b1 = both_left (is_built_cond c && is_end_if close.item) _ b in
      let b2 = both_right (is_built_cond c && is_end_if close.item) _ b in
      let v2 = covered_back order (in_cond c) (in_block body ++ in_sections rest) v in
      if_stands l c close body rest hb hr st near from finish g (both_left (is_built_cond c) _ b1) (both_left (is_built_block body) _ b2) (both_right (is_built_block body) _ b2) (covered_front order (in_cond c) (in_block body ++ in_sections rest) v) (covered_front order (in_block body) (in_sections rest) v2) (covered_back order (in_block body) (in_sections rest) v2) vl
      (both_left (jumps_in_block st.around (near_in (record { block = body; closing = Bare }) near) body) _ j) (both_right (jumps_in_block st.around (near_in (record { block = body; closing = Bare }) near) body) _ j) e code rows labels
  section_stands l (OfPart Else) close body rest hb hr st near from finish g b v vl j e code rows labels =
      let b2 = both_right (is_end_if close.item) _ b in
      hb (inside (record { block = body; closing = Bare }) st) (near_in (record { block = body; closing = Bare }) near) Bare from finish (inside_agrees st near (record { block = body; closing = Bare }) g) (both_left (is_built_block body) _ b2) (covered_front order (in_block body) (in_sections rest) v)
      (both_left (jumps_in_block st.around (near_in (record { block = body; closing = Bare }) near) body) _ j) code rows labels (sym e)
  section_stands l (OfPart (Do loopc)) close body rest hb hr st near from finish g b v vl j e code rows labels =
      let b1 = both_left (is_built_loopc loopc && is_built_loop close.item) _ b in
      let b2 = both_right (is_built_loopc loopc && is_built_loop close.item) _ b in
      let v2 = covered_back order (in_loopc loopc) (in_block body ++ in_sections rest) v in
      do_stands l loopc close body hb st near from finish g (both_left (is_built_loopc loopc) _ b1) (both_right (is_built_loopc loopc) _ b1) (both_left (is_built_block body) _ b2) (covered_front order (in_loopc loopc) (in_block body ++ in_sections rest) v) (covered_front order (in_block body) (in_sections rest) v2) vl
      (both_left (jumps_in_block (in_do l st.around) (near_in (record { block = body; closing = ClosedBy l close }) (near_in_loop l near)) body) _ j) e code rows labels
  section_stands l _ close body rest hb hr st near from finish g b v vl j e code rows labels = let bad : false ≡ true = b in absurd cc

  mutual
    stmt_stands : (s : Stmt) (st : Static) (near : Target → Bool) (from : ℕ) → AgreesOn text order places st near → is_built_stmt s ≡ true → Covered order (in_stmt s) → jumps_in_stmt st.around near s ≡ true → StandsAt text from (stmt_code order text.addr st.around s from) → RowsStand (stmt_rows s from) → Solves text.addr (stmt_labels s from) → StmtAt text st s from (from + stmt_size s)
    stmt_stands (Single head) st near from g b v j c f s = single_stands st near head.line head.item from (from + single_size head.item) g b v j refl c f
    stmt_stands (Nest sections close) st near from g b v j c f s =
        sections_stand sections close st near from (from + sections_size sections close) g b (covered_front order (in_sections sections) (in_line close.item) v) (covered_back order (in_sections sections) (in_line close.item) v) j refl c f s

    sections_stand : (sections : Sections) (close : NumLine) → SectionsStand sections close
    sections_stand NoSections close st near from finish g b v vl j e c f s = omega (arith, e)
    sections_stand (MoreSections head body rest) close st near from finish g b v vl j e c f s =
        section_stands head.line head.item close body rest (block_stands body) (sections_stand rest close) st near from finish g b v vl j e c f s

    block_stands : (b : Block) → BlockStands b
    block_stands NoStmts st near closing from to g b v j c f s close = subst (λ k. ClosingAt text st closing k to) (let z : from + 0 ≡ from = omega arith in z) close
    block_stands (MoreStmts t rest) st near closing from to g b v j c f s close =
        let p = stand_split text (stmt_code order text.addr st.around t from) (block_code order text.addr st.around rest (from + stmt_size t)) from (stmt_size t) (stmt_length order text.addr t st.around from) c in
        record {
          here = s.0;
          middle = from + stmt_size t;
          first = stmt_stands t st near from g (both_left (is_built_stmt t) _ b) (covered_front order (in_stmt t) (in_block rest) v) (both_left (jumps_in_stmt st.around near t) _ j) p.0
              (finds_front text.proc.lines (stmt_rows t from) (block_rows rest (from + stmt_size t)) f)
              (solves_front text.addr (stmt_labels t from) (block_labels rest (from + stmt_size t)) s.1);
          rest = block_stands rest st near closing (from + stmt_size t) to g (both_right (is_built_stmt t) _ b) (covered_back order (in_stmt t) (in_block rest) v) (both_right (jumps_in_stmt st.around near t) _ j) p.1
              (finds_back text.proc.lines (stmt_rows t from) (block_rows rest (from + stmt_size t)) f)
              (solves_back text.addr (stmt_labels t from) (block_labels rest (from + stmt_size t)) s.1)
              (subst (λ k. ClosingAt text st closing k to) (let z : from + (stmt_size t + block_size rest) ≡ from + stmt_size t + block_size rest = omega arith in z) close);
        }

  pub program_lines : (p : Program) → is_built_block p.body ≡ true → is_end p.close.item ≡ true → Covered order (in_block p.body) → jumps_in_block outermost (near_in (program_region p) (λ t. false)) p.body ≡ true → StandsAt text 0 (program_code order text.addr p) → RowsStand (program_rows p) → Solves text.addr (block_labels p.body 0 ++ closing_labels p.close.line p.close.item (block_size p.body)) → LinesAt text (inside (program_region p) top_static) (program_region p).closing p.body 0 (block_size p.body + closing_size p.close.item)
  program_lines p b k v j c f s =
      let q = stand_split text (block_code order text.addr outermost p.body 0) (closing_code order text.addr 0 p.close.line p.close.item (block_size p.body)) 0 (block_size p.body) (block_length order text.addr p.body outermost 0) c in
      let z : 0 + block_size p.body ≡ block_size p.body = omega arith in
      block_stands p.body (inside (program_region p) top_static) (near_in (program_region p) (λ t. false)) (program_region p).closing 0 (block_size p.body + closing_size p.close.item)
      (inside_agrees top_static (λ t. false) (program_region p) (λ t e. let bad : false ≡ true = e in absurd cc)) b v j q.0
      (finds_front text.proc.lines (block_rows p.body 0) (closing_rows p.close.line p.close.item (block_size p.body) 0) f)
      (solves_front text.addr (block_labels p.body 0) (closing_labels p.close.line p.close.item (block_size p.body)) s)
      (subst (λ m. ClosingAt text (inside (program_region p) top_static) (program_region p).closing m (block_size p.body + closing_size p.close.item)) (sym z)
      (end_stands (inside (program_region p) top_static) 0 p.close.line p.close.item (block_size p.body) (block_size p.body + closing_size p.close.item) 0 k refl
      (subst (λ m. StandsAt text m (closing_code order text.addr 0 p.close.line p.close.item (block_size p.body))) z q.1)
      (finds_back text.proc.lines (block_rows p.body 0) (closing_rows p.close.line p.close.item (block_size p.body) 0) f)
      (solves_back text.addr (block_labels p.body 0) (closing_labels p.close.line p.close.item (block_size p.body)) s)))

is_end_item : (item : LineItem) → is_end item ≡ true → item ≡ OfPart End
is_end_item (OfPart End) e = refl
is_end_item _ e = let bad : false ≡ true = e in absurd cc

some_same : (a c : slot.Place) → Some a ≡ Some c → a ≡ c
some_same a c e = cc

-- the text of a body that was made of a program
abbrev pub made_text : ℕ → Proc → Program → Text
made_text body proc p = record { body = body; proc = proc; unit = p.name; places = λ x. placed (index_of (slots_of p) x); addr = addresses_of p }

pub made_at : (body : ℕ) (proc : Proc) (p : Program) → Sound p → IsMade proc p → ProgramAt (made_text body proc p) p
unfolding addresses_of
made_at body proc p sound made = record {
  end = block_size p.body + closing_size p.close.item;
  code = program_lines (made_text body proc p) (slots_of p) (λ x. refl) p sound.built sound.closes (all_covered (in_block p.body) []) sound.jumps stands table (program_solves p.body p.close (block_size p.body) sound.rises);
  closes = is_end_item p.close.item sound.closes;
  size = ap length made.code ∙ program_length (slots_of p) (addresses_of p) p;
  numbered = record {
    order = slots_of p;
    distinct = first_distinct (slots_of p) (all_first (in_block p.body) [] none_first);
    slots = made.slots;
    placed = λ x q e. has_slot x q (index_of (slots_of p) x) refl e;
  };
  used = λ s x e. ⊎_elim (λ q. let bad : None ≡ Some x = q.1 in absurd cc) (λ q. q) (all_used (in_block p.body) [] s x e);
  unit = made.unit;
  guards = made.guards;
}
  where
    stands : StandsAt (made_text body proc p) 0 (program_code (slots_of p) (addresses_of p) p)
    stands = stand_all (made_text body proc p) (program_code (slots_of p) (addresses_of p) p) 0
        (λ k i e. subst (λ c. slice_get c (0 + k) ≡ Some i) (sym made.code) (ap (slice_get (program_code (slots_of p) (addresses_of p) p)) (let z : 0 + k ≡ k = omega arith in z) ∙ e))

    rows_within : Within 0 (suc (block_size p.body + closing_size p.close.item)) (program_rows p)
    rows_within =
        within_both 0 (0 + block_size p.body) (suc (block_size p.body + closing_size p.close.item)) (block_rows p.body 0) (closing_rows p.close.line p.close.item (block_size p.body) 0) (block_within p.body 0)
        (subst (λ m. Within m (suc (block_size p.body + closing_size p.close.item)) (closing_rows p.close.line p.close.item (block_size p.body) 0)) (let z : block_size p.body ≡ 0 + block_size p.body = omega arith in z)
        (closing_within p.close.line p.close.item (block_size p.body) 0 (suc (block_size p.body + closing_size p.close.item)) (omega arith)))

    table : FindsAll proc.lines (program_rows p)
    table = subst (λ t. FindsAll t (program_rows p)) (sym made.lines) (finds_own (program_rows p) 0 (suc (block_size p.body + closing_size p.close.item)) rows_within)

    has_slot : (x : world.Variable) (q : slot.Place) (o : Option ℕ) → index_of (slots_of p) x ≡ o → placed o ≡ Some q → (s : ℕ) × (q ≡ record { space = Own; number = s }) × (slice_get (slots_of p) s ≡ Some x)
    has_slot x q None i e = let bad : None ≡ Some q = e in absurd cc
    has_slot x q (Some k) i e = let same : record { space = Own; number = k } ≡ q = some_same (record { space = Own; number = k }) q e in (k, sym same, index_get (slots_of p) x k i)

pub made_is_carried : MadeIsCarried
made_is_carried image units m =
    let at : ProgramAt (made_text m.body m.proc m.program) m.program = made_at m.body m.proc m.program m.sound m.made in
    record {
      program = m.program;
      is_first = m.is_first;
      body = m.body;
      rest = m.rest;
      is_program = m.is_program;
      proc = m.proc;
      is_body = m.is_body;
      places = λ x. placed (index_of (slots_of m.program) x);
      addr = addresses_of m.program;
      at = at;
    }
