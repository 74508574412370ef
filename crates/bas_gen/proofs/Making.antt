-- Code and lines that are made one part after the other.
use Rattle.std.proofs.Common.{◌≡◌, ℕ, ◌+◌, ◌≤◌, List, [], ◌∷◌, ◌++◌, length, map, Some, None, refl, sym, ap, ◌∙◌, arith, append_assoc, append-nil, length-append}
use Rattle.std.specs.Prelude.{slice_get}
use Rattle.bas_ast.specs.Tree as t
use Rattle.bas_ast.specs.ExpressionTree.{target_tree}
use Rattle.bas_ast.specs.declared.expression.Target.{Target, out-Target}
use Rattle.bas_ast.proofs.ExpressionTrees.{target_out}
use Rattle.bas_mean.specs.World.{Variable, OfName}
use Rattle.bas_mean.specs.Outcome as outcome
use Rattle.bas_mean.specs.Place.{Around}
use Rattle.bas_code.specs.declared.instr.Place.{Place}
use Rattle.bas_code.specs.declared.instr.Instr.{Instr}
use Rattle.bas_code.specs.declared.instr.Instr.TheVariants as instr
use Rattle.bas_code.specs.declared.instr.PushInstr.TheVariants as push
use Rattle.bas_code.specs.declared.instr.StoreInstr.TheVariants as store
use Rattle.bas_code.specs.declared.body.LineEntry.{LineEntry}
use Rattle.bas_carry.specs.Codes.{own_place, expr_code, plain_code}
use Rattle.bas_genexpr.specs.Counts.{code_limit}
use Rattle.bas_genexpr.proofs.Pieces.{three}
use Rattle.bas_gen.specs.declared.output.Output.{Output}
use Rattle.bas_gen.specs.Emitting.{Emits}

pub let_made : (order : List Variable) (addr : outcome.Target → ℕ) (around : Around) (p : t.Plain) (ts items : List Target) (x : Target) (e : t.Expr) (place : Place) (a b c d : List Instr) → p ≡ t.Let (map target_tree ts) e → items ≡ ts → slice_get items 0 ≡ Some x → place ≡ own_place order (OfName (out-Target x).name) → b ≡ a ++ instr.Push (push.Ref place) ∷ [] → c ≡ b ++ expr_code order e → d ≡ c ++ instr.Store (store.Store 1) ∷ [] → d ≡ a ++ plain_code order addr around p
let_made order addr around p [] items x e place a b c d ep ei eg el p1 p2 p3 = let bad : None ≡ Some x = ap (λ l. slice_get l 0) (sym ei) ∙ eg in absurd cc
let_made order addr around p (y ∷ ys) items x e place a b c d ep ei eg el p1 p2 p3 =
    let first : Some y ≡ Some x = ap (λ l. slice_get l 0) (sym ei) ∙ eg in
    let same : y ≡ x = cc in
    three a b c d _ _ _ p1 p2 p3
    ∙ ap (λ k. a ++ (instr.Push (push.Ref k) ∷ (expr_code order e ++ instr.Store (store.Store 1) ∷ []))) el
    ∙ ap (λ z. a ++ plain_code order addr around (t.Let (z ∷ map target_tree ys) e)) (sym (target_out x) ∙ ap target_tree (sym same))
    ∙ ap (λ q. a ++ plain_code order addr around q) (sym ep)

-- what is made, with what is left, is the whole
pub record At (now : Output) (more left_sizes : List ℕ) (left_size : ℕ) (whole : List Instr) (rows : List LineEntry) (left_code : ℕ → List Instr) (left_rows : ℕ → List LineEntry) : Type 0 where
  pub sizes : now.sizes ≡ left_sizes ++ more
  pub room : length now.code + left_size ≤ code_limit
  pub code : now.code ++ left_code (length now.code) ≡ whole
  pub lines : now.lines.items ++ left_rows (length now.code) ≡ rows

abbrev pub Making : (old now : Output) → (all_sizes left_sizes : List ℕ) → (all_size left_size : ℕ) → (all_code left_code : ℕ → List Instr) → (all_rows left_rows : ℕ → List LineEntry) → Type 0
Making old now all_sizes left_sizes all_size left_size all_code left_code all_rows left_rows =
    (more : List ℕ) → old.sizes ≡ all_sizes ++ more → length old.code + all_size ≤ code_limit
    → At now more left_sizes left_size (old.code ++ all_code (length old.code)) (old.lines.items ++ all_rows (length old.code)) left_code left_rows

pub making_first : (old : Output) (sizes : List ℕ) (size : ℕ) (code : ℕ → List Instr) (rows : ℕ → List LineEntry) → Making old old sizes sizes size size code code rows rows
making_first old sizes size code rows = λ more e r. record { sizes = e; room = r; code = refl; lines = refl }

pub making_next : (old now new : Output) (all_sizes left_sizes xs ys : List ℕ) (all_size left_size m n : ℕ) (all_code left_code piece rest_code : ℕ → List Instr) (all_rows left_rows part rest_rows : ℕ → List LineEntry)
    → left_sizes ≡ xs ++ ys → left_size ≡ m + n
    → (left_code (length now.code) ≡ piece (length now.code) ++ rest_code (length now.code + m)) → (left_rows (length now.code) ≡ part (length now.code) ++ rest_rows (length now.code + m)) → length (piece (length now.code)) ≡ m
    → Making old now all_sizes left_sizes all_size left_size all_code left_code all_rows left_rows → Emits now new xs m piece part → Making old new all_sizes ys all_size n all_code rest_code all_rows rest_rows
making_next old now new all_sizes left_sizes xs ys all_size left_size m n all_code left_code piece rest_code all_rows left_rows part rest_rows es en ec er el making emits = λ more e r.
    let a = making more e r in
    let room = a.room in
    let g = emits (ys ++ more) (a.sizes ∙ ap (λ l. l ++ more) es ∙ append_assoc xs ys more) (omega arith) in
    let len : length new.code ≡ length now.code + m = ap length g.code ∙ length-append now.code (piece (length now.code)) ∙ ap (λ k. length now.code + k) el in
    record {
      sizes = g.sizes;
      room = omega arith;
      code =
          ap (λ k. new.code ++ rest_code k) len
          ∙ ap (λ l. l ++ rest_code (length now.code + m)) g.code
          ∙ append_assoc now.code (piece (length now.code)) (rest_code (length now.code + m))
          ∙ ap (λ l. now.code ++ l) (sym ec)
          ∙ a.code;
      lines =
          ap (λ k. new.lines.items ++ rest_rows k) len
          ∙ ap (λ l. l ++ rest_rows (length now.code + m)) g.lines
          ∙ append_assoc now.lines.items (part (length now.code)) (rest_rows (length now.code + m))
          ∙ ap (λ l. now.lines.items ++ l) (sym er)
          ∙ a.lines;
    }

pub making_end : (old now : Output) (all_sizes left_sizes : List ℕ) (all_size left_size : ℕ) (all_code left_code : ℕ → List Instr) (all_rows left_rows : ℕ → List LineEntry) → left_sizes ≡ [] → left_code (length now.code) ≡ [] → left_rows (length now.code) ≡ [] → Making old now all_sizes left_sizes all_size left_size all_code left_code all_rows left_rows → Emits old now all_sizes all_size all_code all_rows
making_end old now all_sizes left_sizes all_size left_size all_code left_code all_rows left_rows es ec er making = λ more e r.
    let a = making more e r in
    record {
      sizes = a.sizes ∙ ap (λ l. l ++ more) es;
      code = sym (append-nil now.code) ∙ ap (λ l. now.code ++ l) (sym ec) ∙ a.code;
      lines = sym (append-nil now.lines.items) ∙ ap (λ l. now.lines.items ++ l) (sym er) ∙ a.lines;
    }
