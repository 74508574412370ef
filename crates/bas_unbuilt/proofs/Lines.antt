-- The first line of a part, and the first that is not built.
use Rattle.std.proofs.Common.{◌≡◌, ℕ, Bool, true, false, List, [], ◌∷◌, Option, Some, None, sym, ap, ◌∙◌}
use Rattle.bas_ast.specs.BlockTree.{sections_tree, section_tree, stmt_tree, item_tree}
use Rattle.bas_ast.specs.declared.block.NumLine.{NumLine}
use Rattle.bas_ast.specs.declared.block.Section.{Section}
use Rattle.bas_ast.specs.declared.block.Stmt.{Stmt}
use Rattle.bas_ast.specs.declared.block.Stmt as stmt_form
use Rattle.bas_ast.proofs.BlockTrees.{stmt_nest}
use Rattle.bas_unbuilt.specs.Unbuilt.{first_found, unless_built, are_closed, unbuilt_in_stmt, unbuilt_in_sections}

-- an answer that is found first
pub found_first : (a b : Option ℕ) (line : ℕ) → a ≡ Some line → Some line ≡ first_found a b
found_first a b line e = ap (λ x. first_found x b) (sym e)

-- the second answer where the first finds nothing
pub found_second : (a b : Option ℕ) → a ≡ None → b ≡ first_found a b
found_second a b e = ap (λ x. first_found x b) (sym e)

pub head_built : (b x : Bool) (line : ℕ) (found other : Option ℕ) → b ≡ x → b ≡ true → found ≡ other → found ≡ first_found (unless_built x line) other
head_built b x line found other p h q = q ∙ ap (λ y. first_found (unless_built y line) other) (sym h ∙ p)

pub head_unbuilt : (b x : Bool) (line : ℕ) (other : Option ℕ) → b ≡ x → b ≡ false → Some line ≡ first_found (unless_built x line) other
head_unbuilt b x line other p h = ap (λ y. first_found (unless_built y line) other) (sym h ∙ p)

-- a construct: its sections tell first, then the line that closes it
pub nest_first : (s : Stmt) (items sections : List Section) (end : NumLine) (line : ℕ) → s ≡ stmt_form.Nest items end → sections ≡ items → Some line ≡ unbuilt_in_sections (sections_tree sections) → Some line ≡ unbuilt_in_stmt (stmt_tree s)
nest_first s items sections end line e g h =
    found_first (unbuilt_in_sections (sections_tree items)) (unless_built (are_closed (sections_tree items) (item_tree end.item)) end.line) line (sym (h ∙ ap (λ l. unbuilt_in_sections (sections_tree l)) g))
    ∙ ap unbuilt_in_stmt (sym (ap stmt_tree e ∙ stmt_nest items end))

pub nest_second : (s : Stmt) (items sections again : List Section) (end : NumLine) (b : Bool) (found : Option ℕ) → s ≡ stmt_form.Nest items end → sections ≡ items → again ≡ items → None ≡ unbuilt_in_sections (sections_tree sections) → b ≡ are_closed (sections_tree again) (item_tree end.item) → found ≡ unless_built b end.line → found ≡ unbuilt_in_stmt (stmt_tree s)
nest_second s items sections again end b found e g k h p q =
    q
    ∙ ap (λ x. unless_built x end.line) (p ∙ ap (λ l. are_closed (sections_tree l) (item_tree end.item)) k)
    ∙ found_second (unbuilt_in_sections (sections_tree items)) (unless_built (are_closed (sections_tree items) (item_tree end.item)) end.line) (sym (h ∙ ap (λ l. unbuilt_in_sections (sections_tree l)) g))
    ∙ ap unbuilt_in_stmt (sym (ap stmt_tree e ∙ stmt_nest items end))
