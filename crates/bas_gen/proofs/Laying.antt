-- Parts that are laid out one after the other.
use Rattle.std.proofs.Common.{◌≡◌, ℕ, suc, ◌+◌, ◌≤◌, Bool, true, false, List, [], ◌∷◌, ◌++◌, length, refl, sym, ap, ◌∙◌, arith, append_assoc, append-nil}
use Rattle.std.specs.Prelude.{slice_set}
use Rattle.std.proofs.Math.Seq.{set-append_seam}
use Rattle.bas_ast.specs.Tree as t
use Rattle.bas_mean.specs.Outcome.{EndOf, TurnOf, LineOf}
use Rattle.bas_ast.specs.Accessors.{line_of}
use Rattle.bas_carry.specs.Constructs.{is_last}
use Rattle.bas_carry.specs.Codes.{section_size, cond_size, loopc_size, closing_size, part_end_size, sections_size, stmt_size, block_size}
use Rattle.bas_carry.specs.Tables.{Labels, section_labels, closing_labels, block_labels, stmt_labels, sections_labels}
use Rattle.bas_genexpr.specs.Counts.{code_limit, counted}
use Rattle.bas_gen.specs.declared.layout.Label.{Label}
use Rattle.bas_gen.specs.declared.layout.Layout.{Layout}
use Rattle.bas_gen.specs.declared.layout.Target.TheVariants as target
use Rattle.bas_gen.specs.Layouts.{target_of, section_list, stmt_list, sections_list, block_list, labels_of, goes_on, if_going, own_size, own_list, own_labels, do_labels, Laid, Relabelled, Reserved, Refilled}

-- what is laid out, with what is left, is the whole
pub record Left (initial now : Layout) (from size whole left : ℕ) (all_list left_list : List ℕ) (all_labels : Labels) (left_labels : ℕ → Labels) : Type 0 where
  pub within : size ≤ 65536
  pub same : counted (size + left) ≡ counted whole
  pub listed : now.sizes.items ++ left_list ≡ initial.sizes.items ++ all_list
  pub labelled : from + whole ≤ code_limit → (size + left ≡ whole) × (labels_of now.labels.items ++ left_labels (from + size) ≡ labels_of initial.labels.items ++ all_labels)

pub left_first : (initial : Layout) (from whole : ℕ) (all_list : List ℕ) (labels : ℕ → Labels) → Left initial initial from 0 whole whole all_list all_list (labels from) labels
left_first initial from whole all_list labels = record {
  within = omega arith;
  same = ap counted (let e : 0 + whole ≡ whole = omega arith in e);
  listed = refl;
  labelled = λ h. (omega arith, ap (λ k. labels_of initial.labels.items ++ labels k) (let e : from + 0 ≡ from = omega arith in e));
}

pub left_turn : (initial now mid new : Layout) (from size whole left x rest at own size2 : ℕ) (all_list left_list xs rest_list : List ℕ) (all_labels : Labels) (left_labels pre piece rest_labels : ℕ → Labels)
    → left ≡ x + rest → left_list ≡ xs ++ rest_list → ((f : ℕ) → f + left ≡ from + whole → left_labels f ≡ pre f ++ (piece f ++ rest_labels (f + x)))
    → (from + size ≤ code_limit → at ≡ from + size) → mid.sizes.items ≡ now.sizes.items → (at ≤ code_limit → labels_of mid.labels.items ≡ labels_of now.labels.items ++ pre at)
    → Laid mid new at own x xs (piece at) → size2 ≡ counted (size + own)
    → Left initial now from size whole left all_list left_list all_labels left_labels → Left initial new from size2 whole rest all_list rest_list all_labels rest_labels
left_turn initial now mid new from size whole left x rest at own size2 all_list left_list xs rest_list all_labels left_labels pre piece rest_labels el es ef ea ms ml laid e2 l =
    let same = laid.same in
    let wide = l.same in
    let less = l.within in
    record {
      within = omega arith;
      same = omega arith;
      listed =
          ap (λ k. k ++ rest_list) (laid.listed ∙ ap (λ k. k ++ xs) ms)
          ∙ append_assoc now.sizes.items xs rest_list
          ∙ ap (λ k. now.sizes.items ++ k) (sym es)
          ∙ l.listed;
      labelled = λ h.
          let b = l.labelled h in
          let b0 = b.0 in
          let here : at ≡ from + size = ea (omega arith) in
          let fits : at + x ≤ code_limit = omega arith in
          let sized : size2 ≡ size + x = omega arith in
          let f = from + size in
          let total : f + left ≡ from + whole = omega arith in
          let ahead : from + size2 ≡ f + x = omega arith in (
            omega arith,
            ap (λ k. k ++ rest_labels (from + size2)) (laid.labelled fits ∙ ap (λ k. k ++ piece at) (ml (omega arith)))
                ∙ ap (λ k. ((labels_of now.labels.items ++ pre k) ++ piece k) ++ rest_labels (from + size2)) here
                ∙ ap (λ k. ((labels_of now.labels.items ++ pre f) ++ piece f) ++ rest_labels k) ahead
                ∙ append_assoc (labels_of now.labels.items ++ pre f) (piece f) (rest_labels (f + x))
                ∙ append_assoc (labels_of now.labels.items) (pre f) (piece f ++ rest_labels (f + x))
                ∙ ap (λ k. labels_of now.labels.items ++ k) (sym (ef f total))
                ∙ b.1,
          );
    }

pub left_end : (initial now : Layout) (from size whole left : ℕ) (all_list left_list : List ℕ) (all_labels : Labels) (left_labels : ℕ → Labels) → left ≡ 0 → left_list ≡ [] → ((f : ℕ) → left_labels f ≡ []) → Left initial now from size whole left all_list left_list all_labels left_labels → Laid initial now from size whole all_list all_labels
left_end initial now from size whole left all_list left_list all_labels left_labels e0 es el l =
    let same = l.same in
    let less = l.within in
    record {
      same = omega arith;
      listed = sym (append-nil now.sizes.items) ∙ ap (λ k. now.sizes.items ++ k) (sym es) ∙ l.listed;
      labelled = λ h. sym (append-nil (labels_of now.labels.items)) ∙ ap (λ k. labels_of now.labels.items ++ k) (sym (el (from + size))) ∙ (l.labelled h).1;
    }

-- a size before those inside
pub headed : (old mid inner new : Layout) (from at size whole : ℕ) (xs : List ℕ) (labels : Labels) → Reserved old mid at → Laid mid inner from size whole xs labels → Refilled inner new at size → Laid old new from size whole (counted whole ∷ xs) labels
headed old mid inner new from at size whole xs labels r l f = record {
  same = l.same;
  listed =
      f.sizes
      ∙ ap (λ s. slice_set s at size) (l.listed ∙ ap (λ k. k ++ xs) r.sizes ∙ append_assoc old.sizes.items (0 ∷ []) xs)
      ∙ ap (λ k. slice_set (old.sizes.items ++ 0 ∷ xs) k size) r.index
      ∙ set-append_seam old.sizes.items 0 xs size
      ∙ ap (λ k. old.sizes.items ++ k ∷ xs) l.same;
  labelled = λ h. ap labels_of f.labels ∙ l.labelled h ∙ ap (λ k. labels_of k ++ labels) r.labels;
}

-- a construct's size, without targets of its own
pub single_laid : (old : Layout) (from size whole : ℕ) → size ≡ counted whole → Laid old old from size whole [] []
single_laid old from size whole e = record { same = e; listed = sym (append-nil old.sizes.items); labelled = λ h. sym (append-nil (labels_of old.labels.items)) }

pub test_laid : (old new : Layout) (from cond head at block front tail size c b p : ℕ) (xs : List ℕ) (labels : ℕ → Labels) → cond ≡ counted c → head ≡ counted (1 + cond) → (from + head ≤ code_limit → at ≡ from + head) → Laid old new at block b xs (labels at) → front ≡ counted (head + block) → tail ≡ p → p ≤ 1 → size ≡ counted (front + tail) → Laid old new from size (1 + (c + (b + p))) xs (labels (suc from + c))
test_laid old new from cond head at block front tail size c b p xs labels ec eh ea laid ef et small es =
    let same = laid.same in
    record {
      same = omega arith;
      listed = laid.listed;
      labelled = λ h.
          let here : at ≡ from + head = ea (omega arith) in
          let place : at ≡ suc from + c = omega arith in
          laid.labelled (omega arith) ∙ ap (λ k. labels_of old.labels.items ++ labels k) place;
    }

pub part_end_small : (last : Bool) → part_end_size last ≤ 1
part_end_small true = omega arith
part_end_small false = omega arith

other_bad : {A : Type 0} → false ≡ true → A
other_bad e = absurd cc

module _ (head : t.NumLine) (body : t.Block) (rest : t.Sections) (close : t.NumLine) (last : Bool) (el : last ≡ is_last rest) where
  pub size_split : (going : Bool) (item : t.LineItem) → if_going going (section_size item close.item (is_last rest) (block_size body) (sections_size rest close)) 0 ≡ own_size going item close.item last (block_size body) + if_going (goes_on going item) (sections_size rest close) 0
  size_split false item = refl
  size_split true (t.OfPart (t.If c)) = ap (λ x. 1 + (cond_size c + (block_size body + (part_end_size x + sections_size rest close)))) (sym el) ∙ (let e : 1 + (cond_size c + (block_size body + (part_end_size last + sections_size rest close))) ≡ 1 + (cond_size c + (block_size body + part_end_size last)) + sections_size rest close = omega arith in e)
  size_split true (t.OfPart (t.Elseif c)) = ap (λ x. 1 + (cond_size c + (block_size body + (part_end_size x + sections_size rest close)))) (sym el) ∙ (let e : 1 + (cond_size c + (block_size body + (part_end_size last + sections_size rest close))) ≡ 1 + (cond_size c + (block_size body + part_end_size last)) + sections_size rest close = omega arith in e)
  size_split true (t.OfPart t.Else) = let e : block_size body ≡ block_size body + 0 = omega arith in e
  size_split true (t.OfPart (t.Do loopc)) = let e : 1 + (loopc_size loopc + (block_size body + (closing_size close.item + 1))) ≡ 1 + (loopc_size loopc + (block_size body + (closing_size close.item + 1))) + 0 = omega arith in e
  size_split true _ = refl

  pub list_split : (going : Bool) (item : t.LineItem) → if_going going (section_list item (counted (block_size body)) (block_list body) (sections_list rest)) [] ≡ own_list going item (counted (block_size body)) (block_list body) ++ if_going (goes_on going item) (sections_list rest) []
  list_split false item = refl
  list_split true (t.OfPart (t.If c)) = refl
  list_split true (t.OfPart (t.Elseif c)) = refl
  list_split true (t.OfPart t.Else) = sym (append-nil (counted (block_size body) ∷ block_list body))
  list_split true (t.OfPart (t.Do loopc)) = sym (append-nil (counted (block_size body) ∷ block_list body))
  list_split true _ = refl

  labels_split : (going : Bool) (item : t.LineItem) (f finish : ℕ) → f + if_going going (section_size item close.item (is_last rest) (block_size body) (sections_size rest close)) 0 ≡ finish
      → if_going going (section_labels head.line item close (is_last rest) (block_size body) (λ k. block_labels body k) (λ k. sections_labels rest close k finish) f finish) []
      ≡ own_labels going head.line item close (block_size body) (λ k. block_labels body k) f ++ if_going (goes_on going item) (sections_labels rest close (f + own_size going item close.item last (block_size body)) finish) []
  labels_split false item f finish e = refl
  labels_split true (t.OfPart (t.If c)) f finish e =
      ap (λ x. block_labels body (suc f + cond_size c) ++ sections_labels rest close (suc f + (cond_size c + (block_size body + part_end_size x))) finish) (sym el)
      ∙ ap (λ k. block_labels body (suc f + cond_size c) ++ sections_labels rest close k finish) (let d : suc f + (cond_size c + (block_size body + part_end_size last)) ≡ f + (1 + (cond_size c + (block_size body + part_end_size last))) = omega arith in d)
  labels_split true (t.OfPart (t.Elseif c)) f finish e =
      ap (λ x. block_labels body (suc f + cond_size c) ++ sections_labels rest close (suc f + (cond_size c + (block_size body + part_end_size x))) finish) (sym el)
      ∙ ap (λ k. block_labels body (suc f + cond_size c) ++ sections_labels rest close k finish) (let d : suc f + (cond_size c + (block_size body + part_end_size last)) ≡ f + (1 + (cond_size c + (block_size body + part_end_size last))) = omega arith in d)
  labels_split true (t.OfPart t.Else) f finish e = sym (append-nil (block_labels body f))
  labels_split true (t.OfPart (t.Do loopc)) f finish e =
      ap (λ k. (EndOf head.line, k) ∷ ((TurnOf head.line, f) ∷ (block_labels body (suc f + loopc_size loopc) ++ closing_labels close.line close.item (suc f + (loopc_size loopc + block_size body))))) (sym e)
      ∙ sym (append-nil (do_labels head.line loopc close (block_size body) (λ k. block_labels body k) f))
  labels_split true _ f finish e = refl

-- a turn of the loop over statements
pub stmts_turn : (initial now mid new : Layout) (from size whole at own size2 : ℕ) (all_list : List ℕ) (all_labels : Labels) (left : t.Block) (s : t.Stmt) (rest : t.Block) → left ≡ t.MoreStmts s rest → (from + size ≤ code_limit → at ≡ from + size) → Relabelled now mid at ((LineOf (line_of s), at) ∷ []) → Laid mid new at own (stmt_size s) (stmt_list s) (stmt_labels s at) → size2 ≡ counted (size + own)
    → Left initial now from size whole (block_size left) all_list (block_list left) all_labels (λ f. block_labels left f) → Left initial new from size2 whole (block_size rest) all_list (block_list rest) all_labels (λ f. block_labels rest f)
stmts_turn initial now mid new from size whole at own size2 all_list all_labels left s rest e ea r laid es l =
    left_turn initial now mid new from size whole (block_size left) (stmt_size s) (block_size rest) at own size2 all_list (block_list left) (stmt_list s) (block_list rest) all_labels (λ f. block_labels left f) (λ f. (LineOf (line_of s), f) ∷ []) (λ f. stmt_labels s f) (λ f. block_labels rest f)
    (ap block_size e) (ap block_list e) (λ f h. ap (λ x. block_labels x f) e) ea r.sizes r.labels laid es l

-- a turn of the loop over sections
pub sections_turn : (initial now new : Layout) (from size whole at own size2 : ℕ) (all_list : List ℕ) (all_labels : Labels) (going more : Bool) (left : t.Sections) (head : t.NumLine) (body : t.Block) (rest : t.Sections) (close : t.NumLine) (last : Bool)
    → left ≡ t.MoreSections head body rest → last ≡ is_last rest → more ≡ goes_on going head.item → (from + size ≤ code_limit → at ≡ from + size)
    → Laid now new at own (own_size going head.item close.item last (block_size body)) (own_list going head.item (counted (block_size body)) (block_list body)) (own_labels going head.line head.item close (block_size body) (λ k. block_labels body k) at)
    → size2 ≡ counted (size + own)
    → Left initial now from size whole (if_going going (sections_size left close) 0) all_list (if_going going (sections_list left) []) all_labels (λ f. if_going going (sections_labels left close f (from + whole)) [])
    → Left initial new from size2 whole (if_going more (sections_size rest close) 0) all_list (if_going more (sections_list rest) []) all_labels (λ f. if_going more (sections_labels rest close f (from + whole)) [])
sections_turn initial now new from size whole at own size2 all_list all_labels going more left head body rest close last e el em ea laid es l =
    let now_list = if_going going (sections_list left) [] in
    left_turn initial now now new from size whole (if_going going (sections_size left close) 0) (own_size going head.item close.item last (block_size body)) (if_going more (sections_size rest close) 0) at own size2
    all_list (if_going going (sections_list left) []) (own_list going head.item (counted (block_size body)) (block_list body)) (if_going more (sections_list rest) [])
    all_labels (λ f. if_going going (sections_labels left close f (from + whole)) []) (λ f. []) (λ f. own_labels going head.line head.item close (block_size body) (λ k. block_labels body k) f) (λ f. if_going more (sections_labels rest close f (from + whole)) [])
    (ap (λ x. if_going going (sections_size x close) 0) e ∙ size_split head body rest close last el going head.item ∙ ap (λ x. own_size going head.item close.item last (block_size body) + if_going x (sections_size rest close) 0) (sym em))
    (ap (λ x. if_going going (sections_list x) []) e ∙ list_split head body rest close last el going head.item ∙ ap (λ x. own_list going head.item (counted (block_size body)) (block_list body) ++ if_going x (sections_list rest) []) (sym em))
    (λ f h. ap (λ x. if_going going (sections_labels x close f (from + whole)) []) e
    ∙ labels_split head body rest close last el going head.item f (from + whole) (ap (λ x. f + if_going going (sections_size x close) 0) (sym e) ∙ h)
    ∙ ap (λ x. own_labels going head.line head.item close (block_size body) (λ k. block_labels body k) f ++ if_going x (sections_labels rest close (f + own_size going head.item close.item last (block_size body)) (from + whole)) []) (sym em))
    ea refl (λ h. sym (append-nil (labels_of now.labels.items))) laid es l

pub none_going : {A : Type 0} (going : Bool) (x none : A) → x ≡ none → if_going going x none ≡ none
none_going true x none e = e
none_going false x none e = refl

labels_both : (xs ys : List Label) → labels_of (xs ++ ys) ≡ labels_of xs ++ labels_of ys
labels_both [] ys = refl
labels_both (x ∷ xs) ys = ap (λ l. (target_of x.target, x.address) ∷ l) (labels_both xs ys)

-- the address behind a loop is written where its target stands
set_label : (old : List Label) (rest : Labels) (now : List Label) (x : Label) (label : Label) → labels_of now ≡ labels_of old ++ ((target_of x.target, x.address) ∷ rest) → labels_of (slice_set now (length old) label) ≡ labels_of old ++ ((target_of label.target, label.address) ∷ rest)
set_label [] rest [] x label e = let bad : [] ≡ (target_of x.target, x.address) ∷ rest = e in absurd cc
set_label [] rest (n ∷ now) x label e = ap (λ l. (target_of label.target, label.address) ∷ l) (tails _ _ _ _ e)
  where
    tails : {A : Type 0} (a b : A) (xs ys : List A) → a ∷ xs ≡ b ∷ ys → xs ≡ ys
    tails a b xs ys q = cc
set_label (o ∷ old) rest [] x label e = let bad : [] ≡ (target_of o.target, o.address) ∷ (labels_of old ++ ((target_of x.target, x.address) ∷ rest)) = e in absurd cc
set_label (o ∷ old) rest (n ∷ now) x label e = heads _ _ _ _ e (set_label old rest now x label (tails _ _ _ _ e))
  where
    tails : {A : Type 0} (a b : A) (xs ys : List A) → a ∷ xs ≡ b ∷ ys → xs ≡ ys
    tails a b xs ys q = cc

    heads : {A : Type 0} (a b : A) (xs ys : List A) {zs ws : List A} → a ∷ xs ≡ b ∷ ys → zs ≡ ws → a ∷ zs ≡ b ∷ ws
    heads a b xs ys q r = cc

pub do_laid : (old l1 l2 l3 l4 new : Layout) (index from loopc head at block front closing_at closing closed size address number line c b k : ℕ) (xs : List ℕ) (labels : ℕ → Labels) (ends : ℕ → Labels)
    → index ≡ length old.labels.items → Relabelled old l1 0 ((EndOf number, 0) ∷ []) → Relabelled l1 l2 from ((TurnOf number, from) ∷ []) → loopc ≡ counted c → head ≡ counted (1 + loopc) → (from + head ≤ code_limit → at ≡ from + head)
    → Laid l2 l3 at block b xs (labels at) → front ≡ counted (head + block) → (from + front ≤ code_limit → closing_at ≡ from + front) → Relabelled l3 l4 closing_at (ends closing_at) → closing ≡ counted k → closed ≡ counted (front + closing) → size ≡ counted (closed + 1) → (from + size ≤ code_limit → address ≡ from + size)
    → new.sizes.items ≡ l4.sizes.items → (address ≤ code_limit → new.labels.items ≡ slice_set l4.labels.items index (record { target = target.End number; address = address }))
    → Laid old new from size (1 + (c + (b + (k + 1)))) xs ((EndOf number, from + (1 + (c + (b + (k + 1))))) ∷ ((TurnOf number, from) ∷ (labels (suc from + c) ++ ends (suc from + (c + b)))))
do_laid old l1 l2 l3 l4 new index from loopc head at block front closing_at closing closed size address number line c b k xs labels ends ei r1 r2 ec eh ea laid ef ec2 r4 ek ed es eb ns nl =
    let same = laid.same in
    record {
      same = omega arith;
      listed = ns ∙ r4.sizes ∙ laid.listed ∙ ap (λ s. s ++ xs) (r2.sizes ∙ r1.sizes);
      labelled = λ h.
          let here : at ≡ suc from + c = ea (omega arith) ∙ (let q : from + head ≡ suc from + c = omega arith in q) in
          let behind : closing_at ≡ suc from + (c + b) = ec2 (omega arith) ∙ (let q : from + front ≡ suc from + (c + b) = omega arith in q) in
          let over : address ≡ from + (1 + (c + (b + (k + 1)))) = eb (omega arith) ∙ (let q : from + size ≡ from + (1 + (c + (b + (k + 1)))) = omega arith in q) in
          let made : labels_of l4.labels.items ≡ labels_of old.labels.items ++ ((EndOf number, 0) ∷ ((TurnOf number, from) ∷ (labels at ++ ends closing_at))) =
          r4.labels (omega arith)
          ∙ ap (λ l. l ++ ends closing_at) (laid.labelled (omega arith) ∙ ap (λ l. l ++ labels at) (r2.labels (omega arith) ∙ ap (λ l. l ++ (TurnOf number, from) ∷ []) (r1.labels (omega arith))))
          ∙ append_assoc ((labels_of old.labels.items ++ (EndOf number, 0) ∷ []) ++ (TurnOf number, from) ∷ []) (labels at) (ends closing_at)
          ∙ append_assoc (labels_of old.labels.items ++ (EndOf number, 0) ∷ []) ((TurnOf number, from) ∷ []) (labels at ++ ends closing_at)
          ∙ append_assoc (labels_of old.labels.items) ((EndOf number, 0) ∷ []) ((TurnOf number, from) ∷ (labels at ++ ends closing_at)) in
          ap labels_of (nl (omega arith))
          ∙ ap (λ i. labels_of (slice_set l4.labels.items i (record { target = target.End number; address = address }))) ei
          ∙ set_label old.labels.items ((TurnOf number, from) ∷ (labels at ++ ends closing_at)) l4.labels.items (record { target = target.End number; address = 0 }) (record { target = target.End number; address = address }) made
          ∙ ap (λ a. labels_of old.labels.items ++ ((EndOf number, a) ∷ ((TurnOf number, from) ∷ (labels at ++ ends closing_at)))) over
          ∙ ap (λ a. labels_of old.labels.items ++ ((EndOf number, from + (1 + (c + (b + (k + 1))))) ∷ ((TurnOf number, from) ∷ (labels a ++ ends closing_at)))) here
          ∙ ap (λ a. labels_of old.labels.items ++ ((EndOf number, from + (1 + (c + (b + (k + 1))))) ∷ ((TurnOf number, from) ∷ (labels (suc from + c) ++ ends a)))) behind;
    }
