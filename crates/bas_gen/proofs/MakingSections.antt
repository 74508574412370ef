-- The code and lines of the parts of a construct.
use Rattle.std.proofs.Common.{◌≡◌, ℕ, suc, ◌+◌, Bool, true, false, List, [], ◌∷◌, ◌++◌, length, Option, refl, sym, ap, ◌∙◌, arith, append_assoc, append-nil, length-append}
use Rattle.std.specs.Prelude.{not}
use Rattle.bas_ast.specs.Tree as t
use Rattle.bas_mean.specs.World.{Variable}
use Rattle.bas_mean.specs.Outcome.{EndOf}
use Rattle.bas_mean.specs.Outcome as outcome
use Rattle.bas_mean.specs.Place.{Around}
use Rattle.bas_mean.specs.Construct.{in_do}
use Rattle.bas_code.specs.declared.instr.Instr.{Instr}
use Rattle.bas_code.specs.declared.instr.Instr.TheVariants as instr
use Rattle.bas_code.specs.declared.instr.JumpInstr.TheVariants as jump
use Rattle.bas_code.specs.declared.body.LineEntry.{LineEntry}
use Rattle.bas_carry.specs.Constructs.{is_last}
use Rattle.bas_carry.specs.Codes.{cond_size, loopc_size, closing_size, part_end_size, sections_size, stmt_size, block_size, unless_code, loopc_code, closing_code, part_end_code, section_code, do_section_code, sections_code, stmt_code, block_code}
use Rattle.bas_carry.specs.Tables.{entry, section_rows, do_section_rows, sections_rows, stmt_rows, block_rows}
use Rattle.bas_carry.proofs.Lengths.{unless_length, loopc_length, closing_length, stmt_length, block_length}
use Rattle.bas_genexpr.specs.Counts.{counted}
use Rattle.bas_gen.specs.Kinds.{is_remark, is_other}
use Rattle.bas_gen.specs.declared.output.Output.{Output}
use Rattle.bas_gen.specs.Layouts.{stmt_list, sections_list, block_list, goes_on, if_going, own_size, own_list}
use Rattle.bas_gen.specs.Emitting.{Emits, part_end_of, test_code, own_code, own_rows}
use Rattle.bas_gen.proofs.Laying.{size_split, list_split}
use Rattle.bas_gen.proofs.Making.{Making, making_next}

pub other_single : (item : t.LineItem) (order : List Variable) (addr : outcome.Target → ℕ) (around : Around) (l : ℕ) (old : Output) → is_other item ≡ true → Emits old old [] (stmt_size (t.Single (record { line = l; item = item }))) (λ from. stmt_code order addr around (t.Single (record { line = l; item = item })) from) (λ from. stmt_rows (t.Single (record { line = l; item = item })) from)
other_single t.Nothing order addr around l old e = let bad : false ≡ true = e in absurd cc
other_single (t.Rem bytes) order addr around l old e = let bad : false ≡ true = e in absurd cc
other_single (t.OfSimple (t.Alone plain)) order addr around l old e = let bad : false ≡ true = e in absurd cc
other_single _ order addr around l old e = λ rest q r. record { sizes = q; code = sym (append-nil old.code); lines = sym (append-nil old.lines.items) }

pub remark_single : (item : t.LineItem) (order : List Variable) (addr : outcome.Target → ℕ) (around : Around) (l : ℕ) (old new : Output) → is_remark item ≡ true → Emits old new [] 1 (λ from. instr.Mark l ∷ []) (λ from. entry l from (suc from) (suc from) ∷ []) → Emits old new [] (stmt_size (t.Single (record { line = l; item = item }))) (λ from. stmt_code order addr around (t.Single (record { line = l; item = item })) from) (λ from. stmt_rows (t.Single (record { line = l; item = item })) from)
remark_single t.Nothing order addr around l old new e h = h
remark_single (t.Rem bytes) order addr around l old new e h = h
remark_single _ order addr around l old new e h = let bad : false ≡ true = e in absurd cc

pub nothing_emits : (old : Output) → Emits old old [] 0 (λ from. []) (λ from. [])
nothing_emits old = λ rest q r. record { sizes = q; code = sym (append-nil old.code); lines = sym (append-nil old.lines.items) }

length_two : {A : Type 0} (xs ys : List A) (m n : ℕ) → length xs ≡ m → length ys ≡ n → length (xs ++ ys) ≡ m + n
length_two xs ys m n p q = length-append xs ys ∙ ap (λ k. k + length ys) p ∙ ap (λ k. m + k) q

part_end_long : (last : Bool) (finish : ℕ) → length (part_end_of last finish) ≡ part_end_size last
part_end_long true finish = refl
part_end_long false finish = refl

module _ (order : List Variable) (addr : outcome.Target → ℕ) where
  same_part_end : (last : Bool) (finish : ℕ) → part_end_code order addr last finish ≡ part_end_of last finish
  same_part_end true finish = refl
  same_part_end false finish = refl

  -- a turn of the loop over statements
  pub stmts_made : (around : Around) (old now new : Output) (all_sizes : List ℕ) (all_size : ℕ) (all_code : ℕ → List Instr) (all_rows : ℕ → List LineEntry) (left : t.Block) (s : t.Stmt) (rest : t.Block) → left ≡ t.MoreStmts s rest
      → Making old now all_sizes (block_list left) all_size (block_size left) all_code (λ from. block_code order addr around left from) all_rows (λ from. block_rows left from)
      → Emits now new (stmt_list s) (stmt_size s) (λ from. stmt_code order addr around s from) (λ from. stmt_rows s from)
      → Making old new all_sizes (block_list rest) all_size (block_size rest) all_code (λ from. block_code order addr around rest from) all_rows (λ from. block_rows rest from)
  stmts_made around old now new all_sizes all_size all_code all_rows left s rest e making emits =
      making_next old now new all_sizes (block_list left) (stmt_list s) (block_list rest) all_size (block_size left) (stmt_size s) (block_size rest) all_code (λ from. block_code order addr around left from) (λ from. stmt_code order addr around s from) (λ from. block_code order addr around rest from) all_rows (λ from. block_rows left from) (λ from. stmt_rows s from) (λ from. block_rows rest from)
      (ap block_list e) (ap block_size e) (ap (λ x. block_code order addr around x (length now.code)) e) (ap (λ x. block_rows x (length now.code)) e) (stmt_length order addr s around (length now.code)) making emits

  test_long : (around : Around) (l : ℕ) (c : t.Cond) (last : Bool) (body : t.Block) (from finish : ℕ) → length (test_code order addr around l c last (block_size body) (λ inner at. block_code order addr inner body at) from finish) ≡ 1 + (cond_size c + (block_size body + part_end_size last))
  test_long around l c last body from finish =
      let q = length_two (unless_code order c (suc from) (suc from + (cond_size c + (block_size body + part_end_size last)))) (block_code order addr around body (suc from + cond_size c) ++ part_end_of last finish) (cond_size c) (block_size body + part_end_size last) (unless_length order c (suc from) _) (length_two (block_code order addr around body (suc from + cond_size c)) (part_end_of last finish) (block_size body) (part_end_size last) (block_length order addr body around (suc from + cond_size c)) (part_end_long last finish)) in
      omega (arith, q)

  do_long : (around : Around) (l : ℕ) (loopc : Option t.Loopc) (close : t.NumLine) (body : t.Block) (from finish : ℕ) → length (do_section_code order addr l loopc close (block_size body) (λ at. block_code order addr around body at) from finish) ≡ 1 + (loopc_size loopc + (block_size body + (closing_size close.item + 1)))
  do_long around l loopc close body from finish =
      let q = length_two (loopc_code order loopc (suc from) finish) (block_code order addr around body (suc from + loopc_size loopc) ++ (closing_code order addr l close.line close.item (suc from + (loopc_size loopc + block_size body)) ++ (instr.Jump (jump.Jump from) ∷ []))) (loopc_size loopc) (block_size body + (closing_size close.item + 1)) (loopc_length order loopc (suc from) finish)
      (length_two (block_code order addr around body (suc from + loopc_size loopc)) (closing_code order addr l close.line close.item (suc from + (loopc_size loopc + block_size body)) ++ (instr.Jump (jump.Jump from) ∷ [])) (block_size body) (closing_size close.item + 1) (block_length order addr body around (suc from + loopc_size loopc))
      (length_two (closing_code order addr l close.line close.item (suc from + (loopc_size loopc + block_size body))) (instr.Jump (jump.Jump from) ∷ []) (closing_size close.item) 1 (closing_length order addr l close.line close.item _) refl)) in
      omega (arith, q)

  own_long : (going : Bool) (around : Around) (l : ℕ) (item : t.LineItem) (close : t.NumLine) (last : Bool) (body : t.Block) (from finish : ℕ) → length (own_code order addr going around l item close last (block_size body) (λ inner at. block_code order addr inner body at) from finish) ≡ own_size going item close.item last (block_size body)
  own_long false around l item close last body from finish = refl
  own_long true around l (t.OfPart (t.If c)) close last body from finish = test_long around l c last body from finish
  own_long true around l (t.OfPart (t.Elseif c)) close last body from finish = test_long around l c last body from finish
  own_long true around l (t.OfPart t.Else) close last body from finish = block_length order addr body around from
  own_long true around l (t.OfPart (t.Do loopc)) close last body from finish = do_long (in_do l around) l loopc close body from finish
  own_long true around l _ close last body from finish = refl

  test_split : (around : Around) (l : ℕ) (c : t.Cond) (last : Bool) (body : t.Block) (tail : List Instr) (from finish : ℕ) →
      instr.Mark l ∷ (unless_code order c (suc from) (suc from + (cond_size c + (block_size body + part_end_size last))) ++ (block_code order addr around body (suc from + cond_size c) ++ (part_end_code order addr last finish ++ tail)))
      ≡ test_code order addr around l c last (block_size body) (λ inner at. block_code order addr inner body at) from finish ++ tail
  test_split around l c last body tail from finish =
      let u = unless_code order c (suc from) (suc from + (cond_size c + (block_size body + part_end_size last))) in
      let b = block_code order addr around body (suc from + cond_size c) in
      ap (λ p. instr.Mark l ∷ (u ++ (b ++ (p ++ tail)))) (same_part_end last finish)
      ∙ ap (λ x. instr.Mark l ∷ (u ++ x)) (sym (append_assoc b (part_end_of last finish) tail))
      ∙ ap (λ x. instr.Mark l ∷ x) (sym (append_assoc u (b ++ part_end_of last finish) tail))

  module _ (around : Around) (head : t.NumLine) (body : t.Block) (rest : t.Sections) (close : t.NumLine) (last : Bool) (el : last ≡ is_last rest) where
    code_split : (going : Bool) (item : t.LineItem) (f finish : ℕ) →
        if_going going (section_code order addr around head.line item close (is_last rest) (block_size body) (λ inner at. block_code order addr inner body at) (λ at. sections_code order addr around rest close at finish) f finish) []
        ≡ own_code order addr going around head.line item close last (block_size body) (λ inner at. block_code order addr inner body at) f finish ++ if_going (goes_on going item) (sections_code order addr around rest close (f + own_size going item close.item last (block_size body)) finish) []
    code_split false item f finish = refl
    code_split true (t.OfPart (t.If c)) f finish =
        ap (λ x. instr.Mark head.line ∷ (unless_code order c (suc f) (suc f + (cond_size c + (block_size body + part_end_size x))) ++ (block_code order addr around body (suc f + cond_size c) ++ (part_end_code order addr x finish ++ sections_code order addr around rest close (suc f + (cond_size c + (block_size body + part_end_size x))) finish)))) (sym el)
        ∙ test_split around head.line c last body (sections_code order addr around rest close (suc f + (cond_size c + (block_size body + part_end_size last))) finish) f finish
        ∙ ap (λ k. test_code order addr around head.line c last (block_size body) (λ inner at. block_code order addr inner body at) f finish ++ sections_code order addr around rest close k finish) (let d : suc f + (cond_size c + (block_size body + part_end_size last)) ≡ f + (1 + (cond_size c + (block_size body + part_end_size last))) = omega arith in d)
    code_split true (t.OfPart (t.Elseif c)) f finish =
        ap (λ x. instr.Mark head.line ∷ (unless_code order c (suc f) (suc f + (cond_size c + (block_size body + part_end_size x))) ++ (block_code order addr around body (suc f + cond_size c) ++ (part_end_code order addr x finish ++ sections_code order addr around rest close (suc f + (cond_size c + (block_size body + part_end_size x))) finish)))) (sym el)
        ∙ test_split around head.line c last body (sections_code order addr around rest close (suc f + (cond_size c + (block_size body + part_end_size last))) finish) f finish
        ∙ ap (λ k. test_code order addr around head.line c last (block_size body) (λ inner at. block_code order addr inner body at) f finish ++ sections_code order addr around rest close k finish) (let d : suc f + (cond_size c + (block_size body + part_end_size last)) ≡ f + (1 + (cond_size c + (block_size body + part_end_size last))) = omega arith in d)
    code_split true (t.OfPart t.Else) f finish = sym (append-nil (block_code order addr around body f))
    code_split true (t.OfPart (t.Do loopc)) f finish = sym (append-nil (do_section_code order addr head.line loopc close (block_size body) (λ at. block_code order addr (in_do head.line around) body at) f finish))
    code_split true _ f finish = refl

    rows_split : (going : Bool) (item : t.LineItem) (f finish : ℕ) →
        if_going going (section_rows head.line item close (is_last rest) (block_size body) (λ at. block_rows body at) (λ at. sections_rows rest close at finish) f finish) []
        ≡ own_rows going head.line item close (block_size body) (λ at. block_rows body at) f finish ++ if_going (goes_on going item) (sections_rows rest close (f + own_size going item close.item last (block_size body)) finish) []
    rows_split false item f finish = refl
    rows_split true (t.OfPart (t.If c)) f finish =
        ap (λ x. entry head.line f (suc f + cond_size c) finish ∷ (block_rows body (suc f + cond_size c) ++ sections_rows rest close (suc f + (cond_size c + (block_size body + part_end_size x))) finish)) (sym el)
        ∙ ap (λ k. entry head.line f (suc f + cond_size c) finish ∷ (block_rows body (suc f + cond_size c) ++ sections_rows rest close k finish)) (let d : suc f + (cond_size c + (block_size body + part_end_size last)) ≡ f + (1 + (cond_size c + (block_size body + part_end_size last))) = omega arith in d)
    rows_split true (t.OfPart (t.Elseif c)) f finish =
        ap (λ x. entry head.line f (suc f + cond_size c) finish ∷ (block_rows body (suc f + cond_size c) ++ sections_rows rest close (suc f + (cond_size c + (block_size body + part_end_size x))) finish)) (sym el)
        ∙ ap (λ k. entry head.line f (suc f + cond_size c) finish ∷ (block_rows body (suc f + cond_size c) ++ sections_rows rest close k finish)) (let d : suc f + (cond_size c + (block_size body + part_end_size last)) ≡ f + (1 + (cond_size c + (block_size body + part_end_size last))) = omega arith in d)
    rows_split true (t.OfPart t.Else) f finish = sym (append-nil (block_rows body f))
    rows_split true (t.OfPart (t.Do loopc)) f finish = sym (append-nil (do_section_rows head.line loopc close (block_size body) (λ at. block_rows body at) f finish))
    rows_split true _ f finish = refl

    -- a turn of the loop over sections
    pub sections_made : (old now new : Output) (all_sizes : List ℕ) (all_size finish : ℕ) (all_code : ℕ → List Instr) (all_rows : ℕ → List LineEntry) (going more : Bool) (left : t.Sections) → left ≡ t.MoreSections head body rest → more ≡ goes_on going head.item
        → Making old now all_sizes (if_going going (sections_list left) []) all_size (if_going going (sections_size left close) 0) all_code (λ from. if_going going (sections_code order addr around left close from finish) []) all_rows (λ from. if_going going (sections_rows left close from finish) [])
        → Emits now new (own_list going head.item (counted (block_size body)) (block_list body)) (own_size going head.item close.item last (block_size body)) (λ from. own_code order addr going around head.line head.item close last (block_size body) (λ inner at. block_code order addr inner body at) from finish) (λ from. own_rows going head.line head.item close (block_size body) (λ at. block_rows body at) from finish)
        → Making old new all_sizes (if_going more (sections_list rest) []) all_size (if_going more (sections_size rest close) 0) all_code (λ from. if_going more (sections_code order addr around rest close from finish) []) all_rows (λ from. if_going more (sections_rows rest close from finish) [])
    sections_made old now new all_sizes all_size finish all_code all_rows going more left e em making emits =
        let n = length now.code in
        let own = own_size going head.item close.item last (block_size body) in
        making_next old now new all_sizes (if_going going (sections_list left) []) (own_list going head.item (counted (block_size body)) (block_list body)) (if_going more (sections_list rest) []) all_size (if_going going (sections_size left close) 0) own (if_going more (sections_size rest close) 0)
        all_code (λ from. if_going going (sections_code order addr around left close from finish) []) (λ from. own_code order addr going around head.line head.item close last (block_size body) (λ inner at. block_code order addr inner body at) from finish) (λ from. if_going more (sections_code order addr around rest close from finish) [])
        all_rows (λ from. if_going going (sections_rows left close from finish) []) (λ from. own_rows going head.line head.item close (block_size body) (λ at. block_rows body at) from finish) (λ from. if_going more (sections_rows rest close from finish) [])
        (ap (λ x. if_going going (sections_list x) []) e ∙ list_split head body rest close last el going head.item ∙ ap (λ x. own_list going head.item (counted (block_size body)) (block_list body) ++ if_going x (sections_list rest) []) (sym em))
        (ap (λ x. if_going going (sections_size x close) 0) e ∙ size_split head body rest close last el going head.item ∙ ap (λ x. own + if_going x (sections_size rest close) 0) (sym em))
        (ap (λ x. if_going going (sections_code order addr around x close n finish) []) e ∙ code_split going head.item n finish ∙ ap (λ x. own_code order addr going around head.line head.item close last (block_size body) (λ inner at. block_code order addr inner body at) n finish ++ if_going x (sections_code order addr around rest close (n + own) finish) []) (sym em))
        (ap (λ x. if_going going (sections_rows x close n finish) []) e ∙ rows_split going head.item n finish ∙ ap (λ x. own_rows going head.line head.item close (block_size body) (λ at. block_rows body at) n finish ++ if_going x (sections_rows rest close (n + own) finish) []) (sym em))
        (own_long going around head.line head.item close last body n finish) making emits

pub going_on : (b : Bool) → not b ≡ false → b ≡ true
going_on true e = refl
going_on false e = let bad : true ≡ false = e in absurd cc

pub other_emits : (going : Bool) (item : t.LineItem) (order : List Variable) (addr : outcome.Target → ℕ) (around : Around) (l : ℕ) (close : t.NumLine) (last : Bool) (size n finish : ℕ) (xs : List ℕ) (block : Around → ℕ → List Instr) (rows : ℕ → List LineEntry) (old : Output) → is_other item ≡ true → Emits old old (own_list going item n xs) (own_size going item close.item last size) (λ from. own_code order addr going around l item close last size block from finish) (λ from. own_rows going l item close size rows from finish)
other_emits false item order addr around l close last size n finish xs block rows old e = nothing_emits old
other_emits true (t.OfPart (t.If c)) order addr around l close last size n finish xs block rows old e = let bad : false ≡ true = e in absurd cc
other_emits true (t.OfPart (t.Elseif c)) order addr around l close last size n finish xs block rows old e = let bad : false ≡ true = e in absurd cc
other_emits true (t.OfPart t.Else) order addr around l close last size n finish xs block rows old e = let bad : false ≡ true = e in absurd cc
other_emits true (t.OfPart (t.Do loopc)) order addr around l close last size n finish xs block rows old e = let bad : false ≡ true = e in absurd cc
other_emits true _ order addr around l close last size n finish xs block rows old e = nothing_emits old

pub remark_emits : (going : Bool) (item : t.LineItem) (order : List Variable) (addr : outcome.Target → ℕ) (around : Around) (l : ℕ) (close : t.NumLine) (last : Bool) (size n finish : ℕ) (xs : List ℕ) (block : Around → ℕ → List Instr) (rows : ℕ → List LineEntry) (old : Output) → is_remark item ≡ true → Emits old old (own_list going item n xs) (own_size going item close.item last size) (λ from. own_code order addr going around l item close last size block from finish) (λ from. own_rows going l item close size rows from finish)
remark_emits false item order addr around l close last size n finish xs block rows old e = nothing_emits old
remark_emits true t.Nothing order addr around l close last size n finish xs block rows old e = nothing_emits old
remark_emits true (t.Rem bytes) order addr around l close last size n finish xs block rows old e = nothing_emits old
remark_emits true _ order addr around l close last size n finish xs block rows old e = let bad : false ≡ true = e in absurd cc
