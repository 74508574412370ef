-- Lines and constructs that are laid out.
use Rattle.std.proofs.Common.{◌≡◌, ℕ, suc, ◌+◌, Bool, true, false, List, [], ◌∷◌, length, map, Some, None, refl, sym, ap, ◌∙◌, subst, arith, drop, length-drop}
use Rattle.std.specs.Prelude.{◌==◌, slice_get}
use Rattle.std.proofs.lemmas.Bool.{ne_eqb}
use Rattle.bas_ast.specs.Tree as t
use Rattle.bas_ast.specs.ExpressionTree.{target_tree}
use Rattle.bas_ast.specs.BlockTree.{line_tree, item_tree, stmt_tree, section_tree, sections_tree}
use Rattle.bas_ast.specs.declared.expression.Target.{Target as AstTarget}
use Rattle.bas_ast.specs.declared.block.NumLine.{NumLine}
use Rattle.bas_ast.specs.declared.block.Stmt.{Stmt}
use Rattle.bas_ast.specs.declared.block.Stmt as stmt_form
use Rattle.bas_ast.specs.declared.block.Section.{Section}
use Rattle.bas_ast.proofs.BlockTrees.{stmt_nest, stmt_single}
use Rattle.bas_carry.specs.Constructs.{is_last}
use Rattle.bas_carry.specs.Codes.{expr_size, plain_size, single_size, sections_size, stmt_size}
use Rattle.bas_carry.specs.Tables.{Labels, stmt_labels, sections_labels}
use Rattle.bas_genexpr.specs.Counts.{counted}
use Rattle.bas_gen.specs.Kinds.{is_remark, is_other}
use Rattle.bas_gen.specs.declared.layout.Layout.{Layout}
use Rattle.bas_gen.specs.Layouts.{stmt_list, sections_list, own_size, own_list, own_labels, Laid, Reserved, Refilled}
use Rattle.bas_gen.proofs.Laying.{headed, single_laid}

pub empty_last : (xs : List Section) → (length xs == 0) ≡ is_last (sections_tree xs)
empty_last [] = refl
empty_last (x ∷ xs) = ne_eqb (suc (length xs)) 0 (λ e. cc)

pub last_of : (xs : List Section) (i k : ℕ) → k + (i + 1) ≡ length xs → (k == 0) ≡ is_last (sections_tree (drop (i + 1) xs))
last_of xs i k count =
    let size : k ≡ length (drop (i + 1) xs) = let d = length-drop (i + 1) xs in omega arith in
    ap (λ n. n == 0) size ∙ empty_last (drop (i + 1) xs)

pub let_counted : (p : t.Plain) (ts items : List AstTarget) (e : t.Expr) (b : Bool) (n m : ℕ) → p ≡ t.Let (map target_tree ts) e → items ≡ ts → b ≡ (length items == 0) → b ≡ false → n ≡ counted (expr_size e) → m ≡ counted (n + 2) → m ≡ counted (plain_size p)
let_counted p [] items e b n m ep ei eb ef en em = let bad : true ≡ false = sym (eb ∙ ap (λ l. length l == 0) ei) ∙ ef in absurd cc
let_counted p (x ∷ xs) items e b n m ep ei eb ef en em = let q : m ≡ counted (1 + (expr_size e + 1)) = omega arith in q ∙ ap (λ y. counted (plain_size y)) (sym ep)

pub other_laid : (going : Bool) (item : t.LineItem) (old : Layout) (from l : ℕ) (close : t.NumLine) (last : Bool) (b n : ℕ) (xs : List ℕ) (labels : ℕ → Labels) → is_other item ≡ true → Laid old old from 0 (own_size going item close.item last b) (own_list going item n xs) (own_labels going l item close b labels from)
other_laid false item old from l close last b n xs labels e = single_laid old from 0 0 refl
other_laid true (t.OfPart (t.If c)) old from l close last b n xs labels e = let bad : false ≡ true = e in absurd cc
other_laid true (t.OfPart (t.Elseif c)) old from l close last b n xs labels e = let bad : false ≡ true = e in absurd cc
other_laid true (t.OfPart t.Else) old from l close last b n xs labels e = let bad : false ≡ true = e in absurd cc
other_laid true (t.OfPart (t.Do loopc)) old from l close last b n xs labels e = let bad : false ≡ true = e in absurd cc
other_laid true _ old from l close last b n xs labels e = single_laid old from 0 0 refl

pub remark_laid : (going : Bool) (item : t.LineItem) (old : Layout) (from l : ℕ) (close : t.NumLine) (last : Bool) (b n : ℕ) (xs : List ℕ) (labels : ℕ → Labels) → is_remark item ≡ true → Laid old old from 0 (own_size going item close.item last b) (own_list going item n xs) (own_labels going l item close b labels from)
remark_laid false item old from l close last b n xs labels e = single_laid old from 0 0 refl
remark_laid true t.Nothing old from l close last b n xs labels e = single_laid old from 0 0 refl
remark_laid true (t.Rem bytes) old from l close last b n xs labels e = single_laid old from 0 0 refl
remark_laid true _ old from l close last b n xs labels e = let bad : false ≡ true = e in absurd cc

pub nest_laid : (s : Stmt) (items sections : List Section) (end : NumLine) (old mid inner new : Layout) (from at size : ℕ) → s ≡ stmt_form.Nest items end → sections ≡ items → Reserved old mid at → Laid mid inner from size (sections_size (sections_tree sections) (line_tree end)) (sections_list (sections_tree sections)) (sections_labels (sections_tree sections) (line_tree end) from (from + sections_size (sections_tree sections) (line_tree end))) → Refilled inner new at size → Laid old new from size (stmt_size (stmt_tree s)) (stmt_list (stmt_tree s)) (stmt_labels (stmt_tree s) from)
nest_laid s items sections end old mid inner new from at size es ei r l f =
    let P : t.Stmt → Type 0 = λ x. Laid old new from size (stmt_size x) (stmt_list x) (stmt_labels x from) in
    subst P (ap (λ x. t.Nest (sections_tree x) (line_tree end)) ei ∙ sym (ap stmt_tree es ∙ stmt_nest items end))
    (headed old mid inner new from at size _ _ _ r l f)

pub line_laid : (s : Stmt) (line : NumLine) (old : Layout) (from size : ℕ) → s ≡ stmt_form.Single line → size ≡ counted (single_size (item_tree line.item)) → Laid old old from size (stmt_size (stmt_tree s)) (stmt_list (stmt_tree s)) (stmt_labels (stmt_tree s) from)
line_laid s line old from size es e =
    let P : t.Stmt → Type 0 = λ x. Laid old old from size (stmt_size x) (stmt_list x) (stmt_labels x from) in
    subst P (sym (ap stmt_tree es ∙ stmt_single line)) (single_laid old from size _ e)
