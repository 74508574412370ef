-- The code and lines of a line that stands alone, of IF and ELSEIF, and of DO.
use Rattle.std.proofs.Common.{◌≡◌, ℕ, suc, ◌+◌, ◌≤◌, Bool, List, [], ◌∷◌, ◌++◌, length, Option, ap, ◌∙◌, arith, append_assoc, append-nil, length-append}
use Rattle.bas_ast.specs.Tree as t
use Rattle.bas_mean.specs.World.{Variable}
use Rattle.bas_mean.specs.Outcome as outcome
use Rattle.bas_mean.specs.Place.{Around}
use Rattle.bas_code.specs.declared.instr.Instr.{Instr}
use Rattle.bas_code.specs.declared.instr.Instr.TheVariants as instr
use Rattle.bas_code.specs.declared.instr.JumpInstr.TheVariants as jump
use Rattle.bas_code.specs.declared.body.LineEntry.{LineEntry}
use Rattle.bas_carry.specs.Codes.{cond_size, loopc_size, closing_size, part_end_size, plain_size, sections_size, block_size, unless_code, loopc_code, closing_code, plain_code, do_section_code, block_code}
use Rattle.bas_carry.specs.Tables.{entry, closing_rows, do_section_rows, block_rows}
use Rattle.bas_carry.proofs.Lengths.{unless_length, loopc_length, block_length, stmt_length}
use Rattle.bas_genexpr.specs.Counts.{code_limit, counted}
use Rattle.bas_genexpr.proofs.Pieces.{two, three}
use Rattle.bas_genexpr.proofs.Readings.{next_is}
use Rattle.bas_gen.specs.declared.output.Output.{Output}
use Rattle.bas_gen.specs.Layouts.{block_list}
use Rattle.bas_gen.specs.Emitting.{Emits, Took, Entered, EntersClosing, closing_end, part_end_of, test_code, test_rows}

one_longer : {A : Type 0} (a b : List A) (x : A) → b ≡ a ++ x ∷ [] → length b ≡ suc (length a)
one_longer a b x e = let q = ap length e ∙ length-append a (x ∷ []) in omega arith

pub mark_emits : (l : ℕ) (old o2 new : Output) (code1 : List Instr) (start end : ℕ) → start ≡ length old.code → code1 ≡ old.code ++ instr.Mark l ∷ [] → o2.code ≡ code1 → o2.sizes ≡ old.sizes → o2.lines.items ≡ old.lines.items → end ≡ length code1 → Entered o2 new l start end end → Emits old new [] 1 (λ from. instr.Mark l ∷ []) (λ from. entry l from (suc from) (suc from) ∷ [])
mark_emits l old o2 new code1 start end es e1 ec ea el ee en = λ rest q r.
    let len : end ≡ suc (length old.code) = ee ∙ one_longer old.code code1 (instr.Mark l) e1 in
    record {
      sizes = en.sizes ∙ ea ∙ q;
      code = en.code ∙ ec ∙ e1;
      lines =
          en.lines (omega arith) (omega arith) (omega arith)
          ∙ ap (λ x. x ++ entry l start end end ∷ []) el
          ∙ ap (λ x. old.lines.items ++ entry l x end end ∷ []) es
          ∙ ap (λ x. old.lines.items ++ entry l (length old.code) x x ∷ []) len;
    }

module _ (order : List Variable) (addr : outcome.Target → ℕ) (around : Around) where
  pub alone_emits : (l : ℕ) (p : t.Plain) (old o2 new : Output) (code1 code2 : List Instr) (start end : ℕ) → start ≡ length old.code → code1 ≡ old.code ++ instr.Mark l ∷ [] → code2 ≡ code1 ++ plain_code order addr around p → o2.code ≡ code2 → o2.sizes ≡ old.sizes → o2.lines.items ≡ old.lines.items → end ≡ length code2 → Entered o2 new l start end end → Emits old new [] (1 + plain_size p) (λ from. instr.Mark l ∷ plain_code order addr around p) (λ from. entry l from (from + (1 + plain_size p)) (from + (1 + plain_size p)) ∷ [])
  alone_emits l p old o2 new code1 code2 start end es e1 e2 ec ea el ee en = λ rest q r.
      let long = stmt_length order addr (t.Single (record { line = l; item = t.OfSimple (t.Alone p) })) around 0 in
      let made : code2 ≡ old.code ++ (instr.Mark l ∷ plain_code order addr around p) = two old.code code1 code2 (instr.Mark l ∷ []) (plain_code order addr around p) e1 e2 in
      let len : end ≡ length old.code + (1 + plain_size p) = let d = ap length made ∙ length-append old.code (instr.Mark l ∷ plain_code order addr around p) in omega arith in
      record {
        sizes = en.sizes ∙ ea ∙ q;
        code = en.code ∙ ec ∙ made;
        lines =
            en.lines (omega arith) (omega arith) (omega arith)
            ∙ ap (λ x. x ++ entry l start end end ∷ []) el
            ∙ ap (λ x. old.lines.items ++ entry l x end end ∷ []) es
            ∙ ap (λ x. old.lines.items ++ entry l (length old.code) x x ∷ []) len;
      }

  pub listed_emits : (body : t.Block) (old o1 new : Output) (n : ℕ) → Took old o1 n → Emits o1 new (block_list body) (block_size body) (λ from. block_code order addr around body from) (λ from. block_rows body from) → Emits old new (counted (block_size body) ∷ block_list body) (block_size body) (λ from. block_code order addr around body from) (λ from. block_rows body from)
  listed_emits body old o1 new n took emits = λ rest q r.
      let nx = next_is old.sizes o1.sizes (block_list body ++ rest) n (counted (block_size body)) q took.next in
      let room : length o1.code + block_size body ≤ code_limit = let e = ap length took.code in omega arith in
      let g = emits rest nx.1 room in
      record {
        sizes = g.sizes;
        code = g.code ∙ ap (λ c. c ++ block_code order addr around body (length c)) took.code;
        lines = g.lines ∙ ap (λ x. x ++ block_rows body (length o1.code)) took.lines ∙ ap (λ c. old.lines.items ++ block_rows body (length c)) took.code;
      }

  pub test_emits : (l : ℕ) (c : t.Cond) (body : t.Block) (last : Bool) (finish : ℕ) (old o1 o2 o3 o4 new : Output) (code1 code2 : List Instr) (block cond head start end p t1 t2 to a : ℕ)
      → start ≡ length old.code → Took old o1 block → cond ≡ counted (cond_size c) → code1 ≡ o1.code ++ instr.Mark l ∷ [] → head ≡ length code1
      → (head + cond ≤ code_limit → t1 ≡ head + cond) → (t1 + block ≤ code_limit → t2 ≡ t1 + block) → p ≡ part_end_size last → (t2 + p ≤ code_limit → to ≡ t2 + p) → (to ≤ code_limit → a ≡ to)
      → (length code1 + cond_size c ≤ code_limit → code2 ≡ code1 ++ unless_code order c (length code1) a)
      → o2.code ≡ code2 → o2.sizes ≡ o1.sizes → o2.lines.items ≡ o1.lines.items → end ≡ length code2 → Entered o2 o3 l start end finish
      → Emits o3 o4 (block_list body) (block_size body) (λ from. block_code order addr around body from) (λ from. block_rows body from)
      → (finish ≤ code_limit → new.code ≡ o4.code ++ part_end_of last finish) → new.sizes ≡ o4.sizes → new.lines.items ≡ o4.lines.items → finish ≤ code_limit
      → Emits old new (counted (block_size body) ∷ block_list body) (1 + (cond_size c + (block_size body + part_end_size last))) (λ from. test_code order addr around l c last (block_size body) (λ inner at. block_code order addr inner body at) from finish) (λ from. test_rows l c (λ at. block_rows body at) from finish)
  test_emits l c body last finish old o1 o2 o3 o4 new code1 code2 block cond head start end p t1 t2 to a es took ec e1 eh b1 b2 ep b3 b4 e2 oc oa ol ee en emits e5 na nl fits = λ rest q r.
      let n = length old.code in
      let size = block_size body in
      let nx = next_is old.sizes o1.sizes (block_list body ++ rest) block (counted size) q took.next in
      let bs = nx.0 in
      let l1 : length code1 ≡ suc n = one_longer o1.code code1 (instr.Mark l) e1 ∙ ap (λ x. suc (length x)) took.code in
      let p1 : t1 ≡ suc n + cond_size c = let z = b1 (omega arith) in omega arith in
      let p2 : t2 ≡ suc n + (cond_size c + size) = let z = b2 (omega arith) in omega arith in
      let p3 : to ≡ suc n + (cond_size c + (size + part_end_size last)) = let z = b3 (omega arith) in omega arith in
      let p4 : a ≡ suc n + (cond_size c + (size + part_end_size last)) = b4 (omega arith) ∙ p3 in
      let u = unless_code order c (suc n) (suc n + (cond_size c + (size + part_end_size last))) in
      let made2 : code2 ≡ code1 ++ u = e2 (omega arith) ∙ ap (λ k. code1 ++ unless_code order c k a) l1 ∙ ap (λ k. code1 ++ unless_code order c (suc n) k) p4 in
      let l2 : length code2 ≡ suc n + cond_size c = ap length made2 ∙ length-append code1 u ∙ (let z = unless_length order c (suc n) (suc n + (cond_size c + (size + part_end_size last))) in omega arith) in
      let l3 : length o3.code ≡ suc n + cond_size c = ap length (en.code ∙ oc) ∙ l2 in
      let g = emits rest (en.sizes ∙ oa ∙ nx.1) (omega arith) in
      let b = block_code order addr around body (suc n + cond_size c) in
      let made3 : o3.code ≡ old.code ++ (instr.Mark l ∷ u) = en.code ∙ oc ∙ two old.code code1 code2 (instr.Mark l ∷ []) u (e1 ∙ ap (λ x. x ++ instr.Mark l ∷ []) took.code) made2 in
      record {
        sizes = na ∙ g.sizes;
        code =
            three old.code o3.code o4.code new.code (instr.Mark l ∷ u) b (part_end_of last finish) made3 (g.code ∙ ap (λ k. o3.code ++ block_code order addr around body k) l3) (e5 fits);
        lines =
            nl
            ∙ g.lines
            ∙ ap (λ k. o3.lines.items ++ block_rows body k) l3
            ∙ ap (λ x. x ++ block_rows body (suc n + cond_size c)) (en.lines (omega arith) (omega arith) fits ∙ ap (λ x. x ++ entry l start end finish ∷ []) (ol ∙ took.lines))
            ∙ append_assoc old.lines.items (entry l start end finish ∷ []) (block_rows body (suc n + cond_size c))
            ∙ ap (λ x. old.lines.items ++ (entry l x end finish ∷ block_rows body (suc n + cond_size c))) es
            ∙ ap (λ x. old.lines.items ++ (entry l n x finish ∷ block_rows body (suc n + cond_size c))) (ee ∙ l2);
      }

  pub do_emits : (l : ℕ) (loopc : Option t.Loopc) (body : t.Block) (close : t.NumLine) (finish : ℕ) (old o2 o3 o4 o5 new : Output) (code1 code2 code3 code4 : List Instr) (start head from a s : ℕ)
      → start ≡ length old.code → code1 ≡ old.code ++ instr.Mark l ∷ [] → (finish ≤ code_limit → a ≡ finish)
      → (length code1 + loopc_size loopc ≤ code_limit → code2 ≡ code1 ++ loopc_code order loopc (length code1) a)
      → o2.code ≡ code2 → o2.sizes ≡ old.sizes → o2.lines.items ≡ old.lines.items → head ≡ length code2 → Entered o2 o3 l start head finish
      → Emits o3 o4 (counted (block_size body) ∷ block_list body) (block_size body) (λ at. block_code order addr around body at) (λ at. block_rows body at)
      → from ≡ length o4.code → (length o4.code + closing_size close.item ≤ code_limit → code3 ≡ o4.code ++ closing_code order addr l close.line close.item (length o4.code)) → (start ≤ code_limit → s ≡ start) → code4 ≡ code3 ++ instr.Jump (jump.Jump s) ∷ []
      → o5.code ≡ code4 → o5.sizes ≡ o4.sizes → o5.lines.items ≡ o4.lines.items → EntersClosing o5 new close.line close.item from finish → finish ≤ code_limit → closing_end close.item ≤ closing_size close.item + 1
      → Emits old new (counted (block_size body) ∷ block_list body) (1 + (loopc_size loopc + (block_size body + (closing_size close.item + 1)))) (λ at. do_section_code order addr l loopc close (block_size body) (λ k. block_code order addr around body k) at finish) (λ at. do_section_rows l loopc close (block_size body) (λ k. block_rows body k) at finish)
  do_emits l loopc body close finish old o2 o3 o4 o5 new code1 code2 code3 code4 start head from a s es e1 ea e2 oc oa ol eh en emits ef e3 eb e4 pc pa pl closes fits small = λ rest q r.
      let n = length old.code in
      let size = block_size body in
      let k = closing_size close.item in
      let l1 : length code1 ≡ suc n = one_longer old.code code1 (instr.Mark l) e1 in
      let u = loopc_code order loopc (suc n) finish in
      let made2 : code2 ≡ code1 ++ u = e2 (omega arith) ∙ ap (λ x. code1 ++ loopc_code order loopc x a) l1 ∙ ap (λ x. code1 ++ loopc_code order loopc (suc n) x) (ea fits) in
      let l2 : length code2 ≡ suc n + loopc_size loopc = ap length made2 ∙ length-append code1 u ∙ (let z = loopc_length order loopc (suc n) finish in omega arith) in
      let l3 : length o3.code ≡ suc n + loopc_size loopc = ap length (en.code ∙ oc) ∙ l2 in
      let g = emits rest (en.sizes ∙ oa ∙ q) (omega arith) in
      let b = block_code order addr around body (suc n + loopc_size loopc) in
      let made4 : o4.code ≡ o3.code ++ b = g.code ∙ ap (λ x. o3.code ++ block_code order addr around body x) l3 in
      let l4 : length o4.code ≡ suc n + (loopc_size loopc + size) = ap length made4 ∙ length-append o3.code b ∙ (let z = block_length order addr body around (suc n + loopc_size loopc) in omega arith) in
      let d = closing_code order addr l close.line close.item (suc n + (loopc_size loopc + size)) in
      let made5 : code3 ≡ o4.code ++ d = e3 (omega arith) ∙ ap (λ x. o4.code ++ closing_code order addr l close.line close.item x) l4 in
      let back : s ≡ n = eb (omega arith) ∙ es in
      let made3 : o3.code ≡ old.code ++ (instr.Mark l ∷ u) = en.code ∙ oc ∙ two old.code code1 code2 (instr.Mark l ∷ []) u e1 made2 in
      let row = closes (omega arith) fits in
      record {
        sizes = row.sizes ∙ pa ∙ g.sizes;
        code =
            row.code
            ∙ append-nil o5.code
            ∙ pc
            ∙ two old.code o3.code code4 (instr.Mark l ∷ u) (b ++ (d ++ instr.Jump (jump.Jump n) ∷ [])) made3
            (three o3.code o4.code code3 code4 b d (instr.Jump (jump.Jump n) ∷ []) made4 made5 (e4 ∙ ap (λ x. code3 ++ instr.Jump (jump.Jump x) ∷ []) back));
        lines =
            row.lines
            ∙ ap (λ x. x ++ closing_rows close.line close.item from finish)
            (pl
            ∙ g.lines
            ∙ ap (λ x. o3.lines.items ++ block_rows body x) l3
            ∙ ap (λ x. x ++ block_rows body (suc n + loopc_size loopc)) (en.lines (omega arith) (omega arith) fits ∙ ap (λ x. x ++ entry l start head finish ∷ []) ol)
            ∙ append_assoc old.lines.items (entry l start head finish ∷ []) (block_rows body (suc n + loopc_size loopc)))
            ∙ append_assoc old.lines.items (entry l start head finish ∷ block_rows body (suc n + loopc_size loopc)) (closing_rows close.line close.item from finish)
            ∙ ap (λ x. old.lines.items ++ (entry l x head finish ∷ (block_rows body (suc n + loopc_size loopc) ++ closing_rows close.line close.item from finish))) es
            ∙ ap (λ x. old.lines.items ++ (entry l n x finish ∷ (block_rows body (suc n + loopc_size loopc) ++ closing_rows close.line close.item from finish))) (eh ∙ l2)
            ∙ ap (λ x. old.lines.items ++ (entry l n (suc n + loopc_size loopc) finish ∷ (block_rows body (suc n + loopc_size loopc) ++ closing_rows close.line close.item x finish))) (ef ∙ l4);
      }

  -- a construct, whose size stands before those of its sections
  pub nest_emits : (sections : t.Sections) (close : t.NumLine) (xs : List ℕ) (code : ℕ → ℕ → List Instr) (rows : ℕ → ℕ → List LineEntry) (old o1 new : Output) (n finish : ℕ) → Took old o1 n → (length old.code + n ≤ code_limit → finish ≡ length old.code + n) → (finish ≤ code_limit → Emits o1 new xs (sections_size sections close) (λ from. code from finish) (λ from. rows from finish)) → Emits old new (counted (sections_size sections close) ∷ xs) (sections_size sections close) (λ from. code from (from + sections_size sections close)) (λ from. rows from (from + sections_size sections close))
  nest_emits sections close xs code rows old o1 new n finish took ef emits = λ rest q r.
      let size = sections_size sections close in
      let nx = next_is old.sizes o1.sizes (xs ++ rest) n (counted size) q took.next in
      let ns = nx.0 in
      let f : finish ≡ length old.code + size = ef (omega arith) ∙ (let z : length old.code + n ≡ length old.code + size = omega arith in z) in
      let room : length o1.code + size ≤ code_limit = let e = ap length took.code in omega arith in
      let g = emits (omega arith) rest nx.1 room in
      record {
        sizes = g.sizes;
        code = g.code ∙ ap (λ c. c ++ code (length c) finish) took.code ∙ ap (λ k. old.code ++ code (length old.code) k) f;
        lines = g.lines ∙ ap (λ x. x ++ rows (length o1.code) finish) took.lines ∙ ap (λ c. old.lines.items ++ rows (length c) finish) took.code ∙ ap (λ k. old.lines.items ++ rows (length old.code) k) f;
      }

pub closing_small : (item : t.LineItem) → closing_end item ≤ closing_size item + 1
closing_small (t.OfPart (t.Loop loopc)) = omega arith
closing_small (t.OfPart t.End) = omega arith
closing_small _ = omega arith
