-- The variables of a line or block are those of its parts, in order.
use Rattle.std.proofs.Common.{◌≡◌, true, false, List, [], ◌∷◌, ◌++◌, refl, sym, ap, ◌∙◌, map, append_assoc, Some}
use Rattle.bas_ast.specs.Tree as t
use Rattle.bas_ast.specs.BlockTree.{item_tree, stmt_tree, block_tree, section_tree, sections_tree, stmts_tree}
use Rattle.bas_ast.specs.ExpressionTree.{target_tree}
use Rattle.bas_ast.specs.declared.expression.Target.{Target, out-Target}
use Rattle.bas_ast.specs.declared.block.Stmt.{Stmt}
use Rattle.bas_ast.specs.declared.block.Stmt as stmt_form
use Rattle.bas_ast.specs.declared.block.NumLine.{NumLine}
use Rattle.bas_ast.specs.declared.block.Section.{Section, out-Section}
use Rattle.bas_ast.proofs.BlockTrees.{section_out, stmt_nest}
use Rattle.bas_ast.proofs.ExpressionTrees.{target_out}
use Rattle.bas_mean.specs.World.{OfName}
use Rattle.bas_carry.specs.Slots.{in_targets, in_expr, in_cond, in_loopc, in_plain, in_line, in_stmt, in_sections, in_block}
use Rattle.bas_gen.specs.Kinds.{is_remark, is_other, is_other_plain, in_section, loop_cond}

pub other_has_none : (item : t.LineItem) → is_other item ≡ true → [] ≡ in_line item
other_has_none (t.OfSimple (t.Alone plain)) e = let bad : false ≡ true = e in absurd cc
other_has_none (t.OfPart (t.If c)) e = let bad : false ≡ true = e in absurd cc
other_has_none (t.OfPart (t.Elseif c)) e = let bad : false ≡ true = e in absurd cc
other_has_none (t.OfPart (t.Do loopc)) e = let bad : false ≡ true = e in absurd cc
other_has_none (t.OfPart (t.Loop loopc)) e = let bad : false ≡ true = e in absurd cc
other_has_none _ e = refl

pub remark_has_none : (item : t.LineItem) → is_remark item ≡ true → [] ≡ in_line item
remark_has_none t.Nothing e = refl
remark_has_none (t.Rem bytes) e = refl
remark_has_none _ e = let bad : false ≡ true = e in absurd cc

pub other_plain_has_none : (plain : t.Plain) → is_other_plain plain ≡ true → [] ≡ in_plain plain
other_plain_has_none (t.Let targets e) h = let bad : false ≡ true = h in absurd cc
other_plain_has_none (t.Print list) h = let bad : false ≡ true = h in absurd cc
other_plain_has_none _ h = refl

pub stmts_left : (left more : List Stmt) (x : Stmt) → left ≡ x ∷ more → in_stmt (stmt_tree x) ++ in_block (stmts_tree more) ≡ in_block (stmts_tree left)
stmts_left left more x e = ap (λ l. in_block (stmts_tree l)) (sym e)

pub sections_left : (left more : List Section) (x : Section) → left ≡ x ∷ more → in_section (section_tree x) ++ in_sections (sections_tree more) ≡ in_sections (sections_tree left)
sections_left left more x e = append_assoc (in_line (section_tree x).0.item) (in_block (section_tree x).1) (in_sections (sections_tree more)) ∙ ap (λ l. in_sections (sections_tree l)) (sym e)

pub section_parts : (x : Section) → in_line (item_tree (out-Section x).head.item) ++ in_block (block_tree (out-Section x).body) ≡ in_section (section_tree x)
section_parts x = ap (λ y. in_line y.0.item ++ in_block y.1) (sym (section_out x))

pub nest_parts : (s : Stmt) (sections : List Section) (items : List Section) (end : NumLine) → s ≡ stmt_form.Nest items end → sections ≡ items → in_sections (sections_tree sections) ++ in_line (item_tree end.item) ≡ in_stmt (stmt_tree s)
nest_parts s sections items end e f = ap (λ x. in_sections (sections_tree x) ++ in_line (item_tree end.item)) f ∙ ap in_stmt (sym (ap stmt_tree e ∙ stmt_nest items end))

pub loop_names : (l : t.Loopc) → in_cond (loop_cond l) ≡ in_loopc (Some l)
loop_names (t.While c) = refl
loop_names (t.Until c) = refl

pub let_parts : (p : t.Plain) (targets items : List Target) (e : t.Expr) → p ≡ t.Let (map target_tree targets) e → items ≡ targets → in_targets (map target_tree items) ++ in_expr e ≡ in_plain p
let_parts p targets items e h f = ap (λ x. in_targets (map target_tree x) ++ in_expr e) f ∙ ap in_plain (sym h)

pub targets_left : (left more : List Target) (x : Target) → left ≡ x ∷ more → (OfName (out-Target x).name ∷ []) ++ in_targets (map target_tree more) ≡ in_targets (map target_tree left)
targets_left left more x e = ap (λ y. in_targets (y ∷ map target_tree more)) (sym (target_out x)) ∙ ap (λ l. in_targets (map target_tree l)) (sym e)
